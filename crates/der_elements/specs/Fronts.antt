-- What is at the front of bytes.
use Rattle.std.specs.Prelude.{◌≡◌, ℕ, List, ◌++◌}
use Rattle.picky_der_core.specs.Tag.{number_of, IsTagNumber}
use Rattle.picky_der_core.specs.Element.{tlv}

-- an element with this tag and this content is there, and others after it
pub record IsFront (bytes : List ℕ) (tag : ℕ) (content after : List ℕ) : Type 0 where
  pub number : IsTagNumber (number_of tag)
  pub is : bytes ≡ tlv tag content ++ after

-- no element is there
abbrev pub HasNoFront : List ℕ → Type 0
HasNoFront bytes = (tag : ℕ) (content after : List ℕ) → IsFront bytes tag content after → ⊥
