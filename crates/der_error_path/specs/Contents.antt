-- Which contents values of the types of a schema can have, as far as a type says without its constraints. The contents
-- of strings and of types with parts are any.
use Rattle.std.specs.Prelude.{ℕ, Bool, true, false, ◌||◌, List, [], ◌∷◌, Option, None, Some, ◌==◌, nat_lt, length}
use Rattle.std.specs.Prelude.{if◌then◌else◌}
use Rattle.picky_der_core.specs.Integer.{is_integer}
use Rattle.der_types.specs.ContentTypes.{ContentType}
use Rattle.der_types.specs.Notation.{Notation}
use Rattle.der_types.specs.Subidentifiers.{is_subidentifiers}
use Rattle.der_types.specs.TimeContents.{is_generalized_time, is_utc_time}
use Rattle.der_schema.specs.NotationOf.{notation_of}
use Rattle.der_schema.specs.declared.node.Kind.{Kind}
use Rattle.der_schema.specs.declared.node.Kind.TheVariants as kind
use Rattle.der_schema.specs.declared.node.Node.{Node}

-- X.690, 8.2.2, 11.1
abbrev pub is_truth_value : List ℕ → Bool
is_truth_value (b ∷ []) = (b == 0x00) || (b == 0xFF)
is_truth_value _ = false

abbrev pub checked_can_have : List ℕ → ContentType → Bool
checked_can_have s ContentType.INTEGER = is_integer s
checked_can_have s ContentType.ENUMERATED-extensible = is_integer s
checked_can_have s ContentType.OBJECT-IDENTIFIER = is_subidentifiers s
checked_can_have s ContentType.RELATIVE-OID = is_subidentifiers s
checked_can_have s ContentType.GeneralizedTime = is_generalized_time s
checked_can_have s ContentType.GeneralizedTime-later = is_generalized_time s
checked_can_have s ContentType.UTCTime = is_utc_time s
checked_can_have s _ = true

abbrev pub type_can_have : List ℕ → Notation → Bool
type_can_have s Notation.BOOLEAN = is_truth_value s
type_can_have s (Notation.checked-content c) = checked_can_have s c
type_can_have s (Notation.INTEGER-named numbers) = is_integer s
type_can_have s (Notation.unsigned bits) = is_integer s
type_can_have s (Notation.signed bits) = is_integer s
type_can_have s (Notation.ENUMERATED numbers) = is_integer s
type_can_have s Notation.NULL = length s == 0
type_can_have s (Notation.content-under tag t) = type_can_have s t
type_can_have s (Notation.in-range least most t) = type_can_have s t
type_can_have s (Notation.at-least least t) = type_can_have s t
type_can_have s (Notation.at-most most t) = type_can_have s t
type_can_have s (Notation.outside least most t) = type_can_have s t
type_can_have s (Notation.sized least most t) = type_can_have s t
type_can_have s (Notation.permitted ranges t) = type_can_have s t
type_can_have s _ = true

-- one of the type of the node at this index
unfoldable pub can_have : List Node → ℕ → List ℕ → Bool
can_have nodes index s = type_can_have s (notation_of nodes index)

-- one of an element that has a node or none
abbrev pub node_can_have : List Node → Option ℕ → List ℕ → Bool
node_can_have nodes (Some index) s = can_have nodes index s
node_can_have nodes None s = true

-- ---- the same by the kind of a node

-- the node of the type whose contents values of this kind have
abbrev pub content_node : Kind → Option ℕ
content_node (kind.Reference i) = Some i
content_node (kind.ContentUnder tag i) = Some i
content_node (kind.InRange least most i) = Some i
content_node (kind.AtLeast least i) = Some i
content_node (kind.AtMost most i) = Some i
content_node (kind.Outside least most i) = Some i
content_node (kind.Sized least most i) = Some i
content_node (kind.Permitted ranges i) = Some i
content_node _ = None

abbrev pub kind_can_have : List ℕ → Kind → Bool
kind_can_have s kind.Boolean = is_truth_value s
kind_can_have s kind.Integer = is_integer s
kind_can_have s (kind.NamedInteger items) = is_integer s
kind_can_have s (kind.Unsigned bits) = is_integer s
kind_can_have s (kind.Signed bits) = is_integer s
kind_can_have s (kind.Enumerated items) = is_integer s
kind_can_have s (kind.ExtensibleEnumerated items) = is_integer s
kind_can_have s kind.Null = length s == 0
kind_can_have s kind.ObjectIdentifier = is_subidentifiers s
kind_can_have s kind.RelativeOid = is_subidentifiers s
kind_can_have s kind.GeneralizedTime = is_generalized_time s
kind_can_have s kind.LaterTime = is_generalized_time s
kind_can_have s kind.UtcTime = is_utc_time s
kind_can_have s _ = true

-- one of a kind whose node has this index, or of the type inside, whose node comes before it
abbrev pub kind_or_inner : List Node → ℕ → List ℕ → Kind → Option ℕ → Bool
kind_or_inner nodes index s k (Some inner) = if nat_lt inner index then can_have nodes inner s else true
kind_or_inner nodes index s k None = kind_can_have s k
