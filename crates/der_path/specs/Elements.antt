-- Elements at the front of bytes (X.690, 8.1.1 to 8.1.3, 10.1).
use Rattle.std.specs.Prelude.{◌≡◌, ℕ, ◌^◌, ◌<◌, List, ◌++◌}
use Rattle.picky_der_core.specs.Tag.{number_of, IsTagNumber}
use Rattle.picky_der_core.specs.Element.{tlv, length_octets, IsPrefix}

-- the bytes are an element with this tag and content, and others after it
pub record BeginsWith (bytes : List ℕ) (tag : ℕ) (content after : List ℕ) : Type 0 where
  pub number : IsTagNumber (number_of tag)
  pub is : bytes ≡ tlv tag content ++ after

-- no element is at their front
abbrev pub BeginsWithNone : List ℕ → Type 0
BeginsWithNone bytes = (tag : ℕ) (content after : List ℕ) → BeginsWith bytes tag content after → ⊥

-- nor a length
abbrev pub HasNoLength : List ℕ → Type 0
HasNoLength bytes = (n : ℕ) → n < 2 ^ 64 → IsPrefix (length_octets n) bytes → ⊥
