-- The parts of an identifier byte (X.690, 8.1.2).
use Rattle.std.specs.Prelude.{◌≡◌, ℕ, ◌/◌, ◌%◌, ◌≤◌, Bool, ◌&&◌, nat_le, ◌==◌, if◌then◌else◌}
use Rattle.picky_der_core.specs.declared.asn1.tag.TagClass.{TagClass}
use Rattle.picky_der_core.specs.declared.asn1.tag.TagClass.TheVariants.{Universal, Application, ContextSpecific}
use Rattle.picky_der_core.specs.declared.asn1.tag.TagClass.TheVariants.{Private}

-- bits 8 and 7 of a byte
abbrev pub class_of : ℕ → TagClass
class_of tag =
    if tag / 64 == 0 then Universal
    else (if tag / 64 == 1 then Application
    else (if tag / 64 == 2 then ContextSpecific
    else Private))

-- bit 6 is set: the content is made of elements
abbrev pub IsConstructed : ℕ → Type 0
IsConstructed tag = tag / 32 % 2 ≡ 1

abbrev pub is_constructed : ℕ → Bool
is_constructed tag = tag / 32 % 2 == 1

-- the low five bits
abbrev pub number_of : ℕ → ℕ
number_of tag = tag % 32

-- a tag number: 31, five bits set, would announce the long form
abbrev pub IsTagNumber : ℕ → Type 0
IsTagNumber n = n ≤ 30

abbrev pub is_tag_number : ℕ → Bool
is_tag_number n = nat_le n 30

-- an identifier byte that can replace that of a list, whose content is made of elements
abbrev pub IsConstructedTag : ℕ → Type 0
IsConstructedTag tag = IsTagNumber (number_of tag) × IsConstructed tag

abbrev pub is_constructed_tag : ℕ → Bool
is_constructed_tag tag = is_tag_number (number_of tag) && is_constructed tag
