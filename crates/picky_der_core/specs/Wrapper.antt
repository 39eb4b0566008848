-- The wrappers, each one element around one value (X.690, 8.6.2, 8.7, 8.14). Each table has a line for each of them.
use Rattle.std.specs.Prelude.{ℕ, ◌+◌, Bool, true, false, List, [], ◌∷◌, ⊤, if◌then◌else◌}
use Rattle.picky_der_core.specs.declared.asn1.wrapper.Wrapper.{Wrapper}
use Rattle.picky_der_core.specs.declared.asn1.wrapper.Wrapper.TheVariants.{OctetContainer, BitContainer, Explicit}
use Rattle.picky_der_core.specs.declared.asn1.wrapper.Wrapper.TheVariants.{Implicit, Application, ImplicitList}
use Rattle.picky_der_core.specs.Tag.{number_of, is_tag_number, IsTagNumber, is_constructed_tag, IsConstructedTag}

abbrev pub wrapper_tag : Wrapper → ℕ
wrapper_tag OctetContainer = 0x04
wrapper_tag BitContainer = 0x03
wrapper_tag (Explicit n) = 0xA0 + n
wrapper_tag (Implicit n) = 0x80 + n
wrapper_tag (Application n) = 0x60 + n
wrapper_tag (ImplicitList tag) = tag

-- whether a byte before the value counts unused bits (8.6.2)
abbrev pub counts_unused_bits : Wrapper → Bool
counts_unused_bits OctetContainer = false
counts_unused_bits BitContainer = true
counts_unused_bits (Explicit n) = false
counts_unused_bits (Implicit n) = false
counts_unused_bits (Application n) = false
counts_unused_bits (ImplicitList tag) = false

-- whether a plain value keeps its header in it; it doesn't in an implicit tag
abbrev pub keeps_header : Wrapper → Bool
keeps_header OctetContainer = true
keeps_header BitContainer = true
keeps_header (Explicit n) = true
keeps_header (Implicit n) = false
keeps_header (Application n) = true
keeps_header (ImplicitList tag) = false

-- whether nothing is written of it around an absent value (`Tree.is_absent`)
abbrev pub can_vanish : Wrapper → Bool
can_vanish OctetContainer = true
can_vanish BitContainer = true
can_vanish (Explicit n) = true
can_vanish (Implicit n) = true
can_vanish (Application n) = false
can_vanish (ImplicitList tag) = true

-- the bytes between its header and the value: there are no unused bits
abbrev pub wrapper_front : Wrapper → List ℕ
wrapper_front w = if counts_unused_bits w then 0x00 ∷ [] else []

-- the number of its tag
abbrev pub wrapper_number : Wrapper → ℕ
wrapper_number OctetContainer = 4
wrapper_number BitContainer = 3
wrapper_number (Explicit n) = n
wrapper_number (Implicit n) = n
wrapper_number (Application n) = n
wrapper_number (ImplicitList tag) = number_of tag

-- That is at most 30, and a tag in place of a list's own is a constructed one.
abbrev pub HasTagNumber : Wrapper → Type 0
HasTagNumber OctetContainer = ⊤
HasTagNumber BitContainer = ⊤
HasTagNumber (Explicit n) = IsTagNumber n
HasTagNumber (Implicit n) = IsTagNumber n
HasTagNumber (Application n) = IsTagNumber n
HasTagNumber (ImplicitList tag) = IsConstructedTag tag

abbrev pub has_tag_number : Wrapper → Bool
has_tag_number OctetContainer = true
has_tag_number BitContainer = true
has_tag_number (Explicit n) = is_tag_number n
has_tag_number (Implicit n) = is_tag_number n
has_tag_number (Application n) = is_tag_number n
has_tag_number (ImplicitList tag) = is_constructed_tag tag
