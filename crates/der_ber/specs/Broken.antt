-- Which rule an element breaks.
use Rattle.std.specs.Prelude.{◌≡◌, ℕ, ◌+◌, ◌<◌, ◌≤◌, true, false, List, [], ◌∷◌, ◌++◌, length}
use Rattle.picky_der_core.specs.Tag.{number_of, is_constructed}
use Rattle.der_ber.specs.declared.error.BerRule.{BerRule}
use Rattle.der_ber.specs.declared.error.BerRule.TheVariants as rule
use Rattle.der_ber.specs.declared.lengths.AnyLength.{AnyLength}
use Rattle.der_ber.specs.declared.lengths.AnyLength.TheVariants as any
use Rattle.der_ber.specs.Lengths.{IsLength, IsSplit}
use Rattle.der_ber.specs.LongLengths.{is_reserved}

-- why the bytes don't begin with a length and as many bytes as it says
pub data BreaksLength (bytes : List ℕ) (r : BerRule) : Type 0 where
  none : bytes ≡ [] → r ≡ rule.CutHeader → BreaksLength bytes r
  cut : (count : ℕ) (rest : List ℕ) → 0 < count → count ≤ 126 → bytes ≡ (0x80 + count) ∷ rest → length rest < count
      → r ≡ rule.CutHeader → BreaksLength bytes r
  reserved : (rest : List ℕ) → bytes ≡ 0xFF ∷ rest → r ≡ rule.ReservedLength → BreaksLength bytes r
  past_end : (n : ℕ) (octets rest : List ℕ) → IsLength n octets → bytes ≡ octets ++ rest → length rest < n
      → r ≡ rule.PastEnd → BreaksLength bytes r

-- the length at the front, of the definite form or the one that announces the indefinite form (8.1.3.6), and the bytes
-- after it
abbrev pub IsAnyLength : List ℕ → AnyLength → Type 0
IsAnyLength bytes (any.Definite n after) = IsSplit bytes n after.now
IsAnyLength bytes (any.Indefinite after) = bytes ≡ 0x80 ∷ after.now
IsAnyLength bytes (any.Broken r) = BreaksLength bytes r

-- why the bytes don't begin with an element that has so many levels of constructed ones
pub data Breaks (room : ℕ) (bytes : List ℕ) (r : BerRule) : Type 0 where
  none : bytes ≡ [] → r ≡ rule.CutHeader → Breaks room bytes r
  long_tag : (tag : ℕ) (rest : List ℕ) → bytes ≡ tag ∷ rest → 30 < number_of tag → r ≡ rule.LongTag
      → Breaks room bytes r
  reserved : (tag : ℕ) (rest : List ℕ) → bytes ≡ tag ∷ rest → is_reserved tag ≡ true → r ≡ rule.EndOfContents
      → Breaks room bytes r
  no_length : (tag : ℕ) (rest : List ℕ) → bytes ≡ tag ∷ rest → BreaksLength rest r → Breaks room bytes r
  primitive : (tag : ℕ) (rest : List ℕ) → bytes ≡ tag ∷ (0x80 ∷ rest) → is_constructed tag ≡ false
      → r ≡ rule.IndefinitePrimitive → Breaks room bytes r
  too_deep : (tag : ℕ) (rest : List ℕ) → bytes ≡ tag ∷ rest → is_constructed tag ≡ true → room ≡ 0
      → r ≡ rule.TooDeep → Breaks room bytes r
