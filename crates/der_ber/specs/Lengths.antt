-- Lengths of BER (X.690, 8.1.3).
use Rattle.std.specs.Prelude.{◌≡◌, ℕ, ◌+◌, ◌<◌, ◌≤◌, List, [], ◌∷◌, ◌++◌, length}
use Rattle.std.specs.Int.Digits.{number_from_digits}

-- A length of the definite form (8.1.3.3 to 8.1.3.5): the number in one byte, or how many bytes it has, at most 126,
-- and these bytes, of which the first may be 0.
pub data IsLength (n : ℕ) (octets : List ℕ) : Type 0 where
  short : n < 0x80 → octets ≡ n ∷ [] → IsLength n octets
  long : (digits : List ℕ) → 0 < length digits → length digits ≤ 126 → n ≡ number_from_digits 256 digits
      → octets ≡ (0x80 + length digits) ∷ digits → IsLength n octets

-- a length of the definite form is at the front, and others are after it
pub record IsSplit (bytes : List ℕ) (n : ℕ) (after : List ℕ) : Type 0 where
  pub octets : List ℕ
  pub is_length : IsLength n octets
  pub is : bytes ≡ octets ++ after
