-- The type of each node of a table, as a term.
use Rattle.std.specs.Prelude.{ℕ, ◌+◌, ℤ, pos, negsuc, List, [], ◌∷◌, ◌++◌, map, slice_index_or}
use Rattle.picky_der_core.specs.Tree.{ListKind}
use Rattle.der_types.specs.ContentTypes.{ContentType}
use Rattle.der_types.specs.Notation.{Notation, Members, Alternatives}
use Rattle.der_types.specs.Notation as asn1
use Rattle.der_types.specs.NotationForms.{Value, default, default-of}
use Rattle.der_schema.specs.declared.node.Alternative.{Alternative}
use Rattle.der_schema.specs.declared.node.DefaultValue.{DefaultValue}
use Rattle.der_schema.specs.declared.node.DefaultValue.TheVariants as value
use Rattle.der_schema.specs.declared.node.Item.{Item}
use Rattle.der_schema.specs.declared.node.Kind.{Kind}
use Rattle.der_schema.specs.declared.node.Kind.TheVariants as kind
use Rattle.der_schema.specs.declared.node.Member.{Member}
use Rattle.der_schema.specs.declared.node.Node.{Node}
use Rattle.der_schema.specs.declared.node.Presence.{Presence}
use Rattle.der_schema.specs.declared.node.Presence.TheVariants as presence

-- the type at an index among types, and one without values past their end
abbrev pub type_at : List Notation → ℕ → Notation
type_at types i = slice_index_or types i (Notation.choice Alternatives.none)

abbrev pub item_numbers : List Item → List ℕ
item_numbers items = map (λ it. it.number) items

abbrev pub number_value : ℤ → Value
number_value (pos n) = Value.number n
number_value (negsuc n) = Value.minus (n + 1)

abbrev pub value_in : DefaultValue → Value
value_in value.True = Value.TRUE
value_in value.False = Value.FALSE
value_in (value.Number n) = number_value n

-- X.680, 25.1
abbrev pub member_with : Presence → Notation → asn1.Member
member_with presence.Required t = asn1.Member.required t
member_with presence.Optional t = asn1.Member.optional t
member_with (presence.Default v) t = default (value_in v) t
member_with (presence.DefaultOf v) t = default-of (value_in v) t

abbrev pub members_from : List Notation → List Member → Members
members_from types [] = Members.end
members_from types (m ∷ ms) = Members.member (member_with m.presence (type_at types m.node)) (members_from types ms)

abbrev pub alternatives_from : List Notation → List Alternative → Alternatives
alternatives_from types [] = Alternatives.none
alternatives_from types (a ∷ others) = Alternatives.alternative (type_at types a.node) (alternatives_from types others)

-- the type of a node, from those of the nodes before it
abbrev pub type_from : List Notation → Kind → Notation
type_from types (kind.Reference i) = type_at types i
type_from types kind.Boolean = Notation.BOOLEAN
type_from types kind.Integer = Notation.checked-content ContentType.INTEGER
type_from types (kind.NamedInteger items) = Notation.INTEGER-named (item_numbers items.now)
type_from types (kind.Unsigned bits) = Notation.unsigned bits
type_from types (kind.Signed bits) = Notation.signed bits
type_from types (kind.Enumerated items) = Notation.ENUMERATED (item_numbers items.now)
type_from types (kind.ExtensibleEnumerated items) = Notation.checked-content ContentType.ENUMERATED-extensible
type_from types kind.BitString = Notation.checked-content ContentType.BIT-STRING
type_from types (kind.NamedBits items) = Notation.checked-content ContentType.BIT-STRING-named
type_from types kind.OctetString = Notation.OCTET-STRING
type_from types kind.Null = Notation.NULL
type_from types kind.ObjectIdentifier = Notation.checked-content ContentType.OBJECT-IDENTIFIER
type_from types kind.RelativeOid = Notation.checked-content ContentType.RELATIVE-OID
type_from types kind.Utf8String = Notation.UTF8String
type_from types kind.Character = Notation.character
type_from types (kind.RestrictedString tag) = Notation.restricted-string tag
type_from types kind.GeneralizedTime = Notation.checked-content ContentType.GeneralizedTime
type_from types kind.UtcTime = Notation.checked-content ContentType.UTCTime
type_from types kind.LaterTime = Notation.checked-content ContentType.GeneralizedTime-later
type_from types (kind.AnyContent tag) = Notation.any-content tag
type_from types kind.AnyElement = Notation.any-element
type_from types kind.WellFormedElement = Notation.well-formed-element
type_from types (kind.Sequence members) = Notation.sequence (members_from types members.now)
type_from types (kind.Choice alternatives) = Notation.choice (alternatives_from types alternatives.now)
type_from types (kind.SequenceOf i) = Notation.list-of ListKind.sequence (type_at types i)
type_from types (kind.SetOf i) = Notation.list-of ListKind.set (type_at types i)
type_from types (kind.Wrapped wrapper i) = Notation.wrapped wrapper (type_at types i)
type_from types (kind.ContentUnder tag i) = Notation.content-under tag (type_at types i)
type_from types (kind.InRange least most i) = Notation.in-range least most (type_at types i)
type_from types (kind.AtLeast least i) = Notation.at-least least (type_at types i)
type_from types (kind.AtMost most i) = Notation.at-most most (type_at types i)
type_from types (kind.Outside least most i) = Notation.outside least most (type_at types i)
type_from types (kind.Sized least most i) = Notation.sized least most (type_at types i)
type_from types (kind.Permitted ranges i) = Notation.permitted ranges.now (type_at types i)

-- the types of nodes after these
abbrev pub types_after : List Notation → List Node → List Notation
types_after types [] = types
types_after types (node ∷ nodes) = types_after (types ++ (type_from types node.kind ∷ [])) nodes

-- the type of the node at an index of a table
abbrev pub notation_of : List Node → ℕ → Notation
notation_of nodes i = type_at (types_after [] nodes) i
