-- What is at the front of bytes.
use Rattle.std.proofs.Common.{◌≡◌, ℕ, ◌+◌, ◌^◌, ◌<◌, ◌≤◌, List, [], ◌∷◌, ◌++◌, length, take, drop, get_or, refl, sym}
use Rattle.std.proofs.Common.{ap}
use Rattle.std.proofs.Common.{subst, ◌∙◌, arith, take-append-drop, length-take-le}
use Rattle.std.specs.Prelude.{slice_range}
use Rattle.std.specs.Int.Digits.{number_from_digits}
use Rattle.std.proofs.lemmas.Slice.{first_rest}
use Rattle.der_ber.specs.declared.error.BerRule.TheVariants as rule
use Rattle.der_ber.specs.Lengths.{IsLength, IsSplit}
use Rattle.der_ber.specs.LongLengths.{IsDefinite}
use Rattle.der_ber.specs.Broken.{BreaksLength}

-- the first byte, and those after it
pub first_of : (bytes : List ℕ) (tag : ℕ) → tag ≡ get_or bytes 0 0 → 1 ≤ length bytes
    → bytes ≡ tag ∷ slice_range bytes 1 (length bytes)
first_of bytes tag e some = first_rest bytes 0 some ∙ ap (λ t. t ∷ slice_range bytes 1 (length bytes)) (sym e)

-- ---- lengths

pub short_split : (bytes : List ℕ) (n : ℕ) → n ≡ get_or bytes 0 0 → 1 ≤ length bytes → n < 0x80
    → IsSplit bytes n (slice_range bytes 1 (length bytes))
short_split bytes n e some small =
    record { octets = n ∷ []; is_length = IsLength.short small refl; is = first_of bytes n e some }

pub reserved_length : (bytes : List ℕ) → 0xFF ≡ get_or bytes 0 0 → 1 ≤ length bytes
    → BreaksLength bytes rule.ReservedLength
reserved_length bytes e some =
    BreaksLength.reserved (slice_range bytes 1 (length bytes)) (first_of bytes 0xFF e some) refl

-- the long form
module _ (bytes : List ℕ) (count : ℕ) (e : 0x80 + count ≡ get_or bytes 0 0) (some : 1 ≤ length bytes)
    (any : 0 < count) (most : count ≤ 126) where
  pub cut_length : length (slice_range bytes 1 (length bytes)) < count → BreaksLength bytes rule.CutHeader
  cut_length few =
      BreaksLength.cut count (slice_range bytes 1 (length bytes)) any most (first_of bytes (0x80 + count) e some) few
      refl

  module _ (octets after : List ℕ) (enough : count ≤ length (slice_range bytes 1 (length bytes)))
      (front : octets ≡ take count (slice_range bytes 1 (length bytes)))
      (back : after ≡ drop count (slice_range bytes 1 (length bytes))) where
    as_many : length octets ≡ count
    as_many = ap length front ∙ length-take-le count (slice_range bytes 1 (length bytes)) enough

    pub long_split : (n : ℕ) → n ≡ number_from_digits 256 octets → IsSplit bytes n after
    long_split n number =
        let size = as_many in
        let whole : slice_range bytes 1 (length bytes) ≡ octets ++ after =
        sym (take-append-drop count (slice_range bytes 1 (length bytes)))
        ∙ ap (λ l. l ++ drop count (slice_range bytes 1 (length bytes))) (sym front)
        ∙ ap (λ l. octets ++ l) (sym back) in
        record {
          octets = (0x80 + length octets) ∷ octets;
          is_length = IsLength.long octets (omega arith) (omega arith) number refl;
          is = first_of bytes (0x80 + length octets) (ap (λ k. 0x80 + k) size ∙ e) some
              ∙ ap (λ l. (0x80 + length octets) ∷ l) whole;
        }

    pub wide_length : length after < 2 ^ 64 → 2 ^ 64 ≤ number_from_digits 256 octets
        → BreaksLength bytes rule.PastEnd
    wide_length small large =
        let s = long_split (number_from_digits 256 octets) refl in
        BreaksLength.past_end (number_from_digits 256 octets) s.octets after s.is_length s.is (omega arith) refl

-- ---- elements

module _ (others rest : List ℕ) (len : ℕ) (s : IsSplit others len rest) where
  pub past_end : length rest < len → BreaksLength others rule.PastEnd
  past_end short = BreaksLength.past_end len s.octets rest s.is_length s.is short refl

  pub definite_front : (tag : ℕ) (content after : List ℕ) → len ≤ length rest → content ≡ take len rest
      → after ≡ drop len rest → IsDefinite tag content (tag ∷ others) after
  definite_front tag content after enough front back =
      let size : length content ≡ len = ap length front ∙ length-take-le len rest enough in
      let whole : rest ≡ content ++ after =
      sym (take-append-drop len rest) ∙ ap (λ l. l ++ drop len rest) (sym front) ∙ ap (λ l. content ++ l) (sym back) in
      record {
        octets = s.octets;
        is_length = subst (λ n. IsLength n s.octets) (sym size) s.is_length;
        is = ap (λ l. tag ∷ l) (s.is ∙ ap (λ l. s.octets ++ l) whole);
      }
