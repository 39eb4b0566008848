-- Bytes that the reader has ahead.
use Rattle.std.specs.Prelude.{◌≡◌, ℕ, ◌<◌, ◌≤◌, List, ◌∷◌, ◌++◌, length, take}
use Rattle.picky_der_core.specs.Element.{length_octets}
use Rattle.picky_der_core.specs.Tag.{number_of, IsTagNumber}

-- the first `count` bytes are one element
pub record IsElementInFront (bytes : List ℕ) (count : ℕ) : Type 0 where
  pub tag : ℕ
  pub number : IsTagNumber (number_of tag)
  pub byte : tag < 256
  pub content : List ℕ
  pub is : take count bytes ≡ (tag ∷ length_octets (length content)) ++ content
  pub fits : count ≤ length bytes
