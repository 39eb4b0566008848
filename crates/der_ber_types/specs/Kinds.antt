-- What a kind of types says of its elements.
use Rattle.std.specs.Prelude.{ℕ, ◌-◌, Option, Some, None, ◌==◌, if◌then◌else◌}
use Rattle.picky_der_core.specs.declared.asn1.wrapper.Wrapper.TheVariants as wrapper
use Rattle.der_schema.specs.declared.node.Kind.{Kind}
use Rattle.der_schema.specs.declared.node.Kind.TheVariants as kind
use Rattle.der_ber_types.specs.declared.inside.Inside.{Inside}
use Rattle.der_ber_types.specs.declared.inside.Inside.TheVariants as inside

-- members under the tag of a SET, which come in any order (X.690, 8.11.3)
abbrev pub in_any_order : Inside → Inside
in_any_order (inside.Members members) = inside.AnyOrder members
in_any_order x = x

-- what is in an element of a kind with the content of another, which is this
abbrev pub inside_same : Kind → Inside → Inside
inside_same (kind.Wrapped (wrapper.ImplicitList tag) i) x = if tag == 0x31 then in_any_order x else x
inside_same _ x = x

-- what is in an element of a kind that has a content of its own
abbrev pub inside_here : Kind → Inside
inside_here kind.Boolean = inside.Boolean
inside_here kind.Integer = inside.Number
inside_here (kind.NamedInteger items) = inside.Number
inside_here (kind.Unsigned bits) = inside.Number
inside_here (kind.Signed bits) = inside.Number
inside_here (kind.Enumerated items) = inside.Number
inside_here (kind.ExtensibleEnumerated items) = inside.Number
inside_here kind.BitString = inside.Bits
inside_here (kind.NamedBits items) = inside.Bits
inside_here kind.OctetString = inside.Octets
inside_here kind.Utf8String = inside.Octets
inside_here kind.Character = inside.Octets
inside_here (kind.RestrictedString tag) = inside.Octets
inside_here kind.GeneralizedTime = inside.Octets
inside_here kind.LaterTime = inside.Octets
inside_here kind.UtcTime = inside.Octets
inside_here (kind.Sequence members) = inside.Members members
inside_here (kind.SequenceOf i) = inside.Each i
inside_here (kind.SetOf i) = inside.Set i
inside_here (kind.Wrapped (wrapper.Explicit number) i) = inside.One i
inside_here (kind.Wrapped (wrapper.Application number) i) = inside.One i
inside_here _ = inside.Same

-- what is in a string in parts, whose content in one part is this: its elements (X.690, 8.6.4, 8.7.3, 8.23.3)
abbrev pub in_parts : Inside → Option Inside
in_parts inside.Octets = Some inside.Parts
in_parts inside.Bits = Some inside.BitParts
in_parts _ = None

-- the tag in DER of an element with this in it: a string is primitive (10.2)
abbrev pub tag_in_der : Inside → ℕ → ℕ
tag_in_der inside.Parts tag = tag - 0x20
tag_in_der inside.BitParts tag = tag - 0x20
tag_in_der _ tag = tag
