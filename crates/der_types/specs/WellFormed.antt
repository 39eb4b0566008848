-- Elements of DER, whatever their types, with the elements in them.
use Rattle.std.specs.Prelude.{◌≡◌, ℕ, Bool, true, false, ◌||◌, nat_le, List, [], ◌∷◌, ◌++◌}
use Rattle.picky_der_core.specs.Tag.{number_of, IsTagNumber, is_constructed}
use Rattle.picky_der_core.specs.Element.{tlv, IsElement}
use Rattle.picky_der_core.specs.Shape.{contains}

-- The identifier bytes of the universal types (X.690, 8.2 to 8.24). Strings aren't in parts (10.2). EXTERNAL, EMBEDDED
-- PDV, SEQUENCE, SET and CHARACTER STRING are constructed. The number 15 has no type yet, so that both forms are here.
abbrev pub universal_identifiers : List ℕ
universal_identifiers = 0x01 ∷ 0x02 ∷ 0x03 ∷ 0x04 ∷ 0x05 ∷ 0x06 ∷ 0x07 ∷ 0x28 ∷ 0x09 ∷ 0x0A ∷ 0x2B ∷ 0x0C ∷ 0x0D ∷ 0x0E
    ∷ 0x0F ∷ 0x2F ∷ 0x30 ∷ 0x31 ∷ 0x12 ∷ 0x13 ∷ 0x14 ∷ 0x15 ∷ 0x16 ∷ 0x17 ∷ 0x18 ∷ 0x19 ∷ 0x1A ∷ 0x1B ∷ 0x1C ∷ 0x3D
    ∷ 0x1E ∷ []

-- Some type has such encodings. Which types have tags of other classes isn't known, so that both forms are right there.
abbrev pub is_identifier : ℕ → Bool
is_identifier tag = contains universal_identifiers tag || nat_le 0x40 tag

-- The bytes are elements, one after another. Each has a tag of the short form and a length in the fewest bytes (X.690,
-- 8.1.2, 8.1.3 and 10.1). One that is constructed has such elements in it (8.1.4).
pub data AreWellFormed : List ℕ → Type 0 where
  none : AreWellFormed []
  primitive : (bytes : List ℕ) (tag : ℕ) (content after : List ℕ) → bytes ≡ tlv tag content ++ after
      → IsTagNumber (number_of tag) → is_identifier tag ≡ true → is_constructed tag ≡ false → AreWellFormed after
      → AreWellFormed bytes
  constructed : (bytes : List ℕ) (tag : ℕ) (content after : List ℕ) → bytes ≡ tlv tag content ++ after
      → IsTagNumber (number_of tag) → is_identifier tag ≡ true → is_constructed tag ≡ true → AreWellFormed content
      → AreWellFormed after → AreWellFormed bytes

-- the bytes are one such element
pub record IsWellFormed (bytes : List ℕ) : Type 0 where
  pub one : IsElement bytes
  pub elements : AreWellFormed bytes
