-- Lengths and elements (X.690, 8.1.1 to 8.1.3 and 10.1).
use Rattle.std.specs.Prelude.{◌≡◌, ℕ, zero, suc, ◌+◌, ◌/◌, ◌%◌, ◌<◌, true, false, List, [], ◌∷◌, ◌++◌, length, nat_lt}
use Rattle.std.specs.Prelude.{◌==◌, if◌then◌else◌}
use Rattle.std.specs.List.{AllByRecursion}
use Rattle.picky_der_core.specs.Tag.{number_of, IsTagNumber}

-- each number is a byte's
abbrev pub AreBytes : List ℕ → Type 0
AreBytes s = AllByRecursion (λ b. b < 256) s

-- at most `most` of the last bytes of a number
abbrev pub big_endian_within : ℕ → ℕ → List ℕ
big_endian_within zero n = []
big_endian_within (suc most) n =
    elim (n == 0) [ true ↦ [] | false ↦ big_endian_within most (n / 256) ++ (n % 256 ∷ []) ]

-- the bytes of a number, the most significant first and no 0 in front: none for 0
unfoldable pub big_endian : ℕ → List ℕ
big_endian n = big_endian_within n n

-- a length: the number in one byte, or how many bytes it has and these bytes
unfoldable pub length_octets : ℕ → List ℕ
length_octets n = if nat_lt n 0x80 then n ∷ [] else (0x80 + length (big_endian n)) ∷ big_endian n

-- an element: a tag, the length of its content, and the content
unfoldable pub tlv : ℕ → List ℕ → List ℕ
tlv tag content = tag ∷ (length_octets (length content) ++ content)

-- these bytes are one element, whose tag isn't of the long form
pub record IsElement (b : List ℕ) : Type 0 where
  pub tag : ℕ
  pub content : List ℕ
  pub number : IsTagNumber (number_of tag)
  pub is : b ≡ tlv tag content

-- the second list is the first followed by any bytes, also none
pub record IsPrefix (b c : List ℕ) : Type 0 where
  pub rest : List ℕ
  pub is : c ≡ b ++ rest
