-- The contents that are numbers.
use Rattle.std.proofs.Common.{◌≡◌, ℕ, zero, suc, ◌+◌, ◌-◌, ◌*◌, ◌/◌, ◌^◌, ◌<◌, ◌≤◌, Bool, true, false, ◌||◌, cond, List}
use Rattle.std.proofs.Common.{[], ◌∷◌, ◌++◌, length, drop, replicate, nat_lt, ◌==◌, refl, sym, ap, subst, ◌∙◌, arith}
use Rattle.std.proofs.Common.{lt-ltb, le-ltb, ltb-true, ltb-false, pow-suc, Some, None, pow_mono, inl, inr, ne_eqb}
use Rattle.std.proofs.Common.{eqb-true, mul-le-mul_right}
use Rattle.std.specs.Int.{bytes_high_first, to_be_bytes, leading_zeros, w128}
use Rattle.std.specs.Int.Count.{count_leading_zeros, leading_of_zero}
use Rattle.std.specs.Int.Digits.{number_from_digits, number_from_digits_after}
use Rattle.std.proofs.Math.Nat.{pow-le-pow_right, pow-zero}
use Rattle.std.proofs.lemmas.Nat.{pow_pos, pow-add, leading_top}
use Rattle.std.proofs.lemmas.Bool.{cases_lt, cond_both, eqb-false}
use Rattle.std.proofs.lemmas.Int.Digits.{number_after_lt, number_lt}
use Rattle.picky_der_core.specs.Primitive.{as_positive, unsigned_content}
use Rattle.picky_der_core.specs.Element.{big_endian, AreBytes}
use Rattle.picky_der_core.specs.Refusal.{number_error, unsigned_error}
use Rattle.picky_der_core.specs.BigEndianLaws.{number-big_endian, AreBytes-big_endian, first-big_endian}
use Rattle.picky_der_core.specs.BigEndianLaws.{big_endian-number, length-big_endian, power_of_2}
use Rattle.picky_der_core.specs.BigEndianLaws.{bytes_high_first-big_endian}
use Rattle.picky_der_core.specs.declared.error.Asn1DerError.TheVariants.{InvalidData, UnsupportedValue}

-- ---- how many bits a number has

-- the first byte alone
number-first : (b : ℕ) (bs : List ℕ) → number_from_digits 256 (b ∷ bs) ≡ number_from_digits_after 256 b bs
number-first b bs = ap (λ n. number_from_digits_after 256 n bs) (omega arith)

-- a byte more after a number
front_counts : (n b unit : ℕ) → n * (unit * 256) ≤ (n * 256 + b) * unit
front_counts n b unit = grind arith

-- what a number counts before bytes
number_after-least : (n : ℕ) (bs : List ℕ) → n * 256 ^ length bs ≤ number_from_digits_after 256 n bs
number_after-least n [] = omega (arith, pow-zero 256)
number_after-least n (b ∷ bs) =
    rw (pow-suc 256 (length bs))
    (grind (arith, number_after-least (n * 256 + b) bs, front_counts n b (256 ^ length bs)))

-- n lies between what b counts before l bytes, and what the next byte would
abbrev BeginsWith : ℕ → ℕ → ℕ → Type 0
BeginsWith b l n = (b * 256 ^ l ≤ n) × (n < (b + 1) * 256 ^ l)

-- so does a number whose first byte is b
big_endian-begins : (n b : ℕ) (bs : List ℕ) → big_endian n ≡ b ∷ bs → BeginsWith b (length bs) n
big_endian-begins n b bs e =
    let is : number_from_digits_after 256 b bs ≡ n = sym (number-first b bs) ∙ ap (number_from_digits 256) (sym e)
    ∙ number-big_endian n in
    let bytes : AreBytes (b ∷ bs) = subst AreBytes e (AreBytes-big_endian n) in
    (omega (arith, number_after-least b bs), omega (arith, number_after_lt 256 b bs bytes.1))

-- n lies between these powers of two
abbrev IsBetweenPowers : ℕ → ℕ → ℕ → Type 0
IsBetweenPowers i j n = (2 ^ i ≤ n) × (n < 2 ^ j)

-- a first byte below 80 has one to seven bits
few_bits : (b l n : ℕ) → 0 < b → b < 0x80 → BeginsWith b l n → IsBetweenPowers (8 * l) (8 * l + 7) n
few_bits b l n h low begins =
    let unit = power_of_2 l in
    let least = mul-le-mul_right (256 ^ l) h in
    let most : (b + 1) * 256 ^ l ≤ 0x80 * 256 ^ l = mul-le-mul_right (256 ^ l) (omega arith) in
    (omega arith, omega (arith, pow-add 2 (8 * l) 7))

-- any other has eight
eight_bits : (b l n : ℕ) → 0x80 ≤ b → b < 256 → BeginsWith b l n → IsBetweenPowers (8 * l + 7) (8 * l + 8) n
eight_bits b l n high byte begins =
    let unit = power_of_2 l in
    let least = mul-le-mul_right (256 ^ l) high in
    let most : (b + 1) * 256 ^ l ≤ 256 * 256 ^ l = mul-le-mul_right (256 ^ l) (omega arith) in
    (omega (arith, pow-add 2 (8 * l) 7), omega (arith, pow-add 2 (8 * l) 8))

-- the powers around a number are in order
powers_in_order : (i j n : ℕ) → 2 ^ i ≤ n → n < 2 ^ j → i < j
powers_in_order i j n under over = elim (cases_lt i j) [
  | inl h ↦ h
  | inr h ↦ let p : 2 ^ j ≤ 2 ^ i = pow_mono h in absurd (omega arith)
]

-- the zero bits before a number between two powers
leading_between : (k i j n : ℕ) → n < 256 ^ k → IsBetweenPowers i j n
    → (count_leading_zeros (8 * k) n + i < 8 * k) × (8 * k ≤ count_leading_zeros (8 * k) n + j)
leading_between k i j n h between =
    let top = leading_top (8 * k) n (omega (arith, pow_pos i)) (omega (arith, power_of_2 k)) in
    let under = powers_in_order i (suc top.0) n between.0 top.3 in
    let over = powers_in_order top.0 j n top.2 between.1 in
    (omega (arith, top.1), omega (arith, top.1))

-- ---- the content among the bytes of an integer

-- what follows zeros
drop_zeros : (j : ℕ) (bs : List ℕ) → drop (suc j) (0 ∷ (replicate j 0 ++ bs)) ≡ bs
drop_zeros zero bs = refl
drop_zeros (suc j) bs = drop_zeros j bs

-- and what after all but one
drop_other_zeros : (j : ℕ) (bs : List ℕ) → drop j (0 ∷ (replicate j 0 ++ bs)) ≡ 0 ∷ bs
drop_other_zeros zero bs = refl
drop_other_zeros (suc j) bs = drop_other_zeros j bs

-- after the zeros that are left out of a content
drop_all_or_other : (all : Bool) (j b : ℕ) (bs : List ℕ)
    → drop (cond all (suc j) j) (0 ∷ (replicate j 0 ++ (b ∷ bs))) ≡ cond all (b ∷ bs) (0 ∷ b ∷ bs)
drop_all_or_other true j b bs = drop_zeros j (b ∷ bs)
drop_all_or_other false j b bs = drop_other_zeros j (b ∷ bs)

-- the zero bits determine how many of the zeros in front are left out: all if the first byte is below 80
left_out : (k n b : ℕ) (bs : List ℕ) → n < 256 ^ k → big_endian n ≡ b ∷ bs
    → (count_leading_zeros (8 * k) n + 7) / 8 ≡ cond (nat_lt b 0x80) (suc (k - length (b ∷ bs))) (k - length (b ∷ bs))
left_out k n b bs h e = elim (cases_lt b 0x80) [
  | inl low ↦
      let zeros =
      leading_between k _ _ n h
      (few_bits b (length bs) n (first-big_endian n b bs e) low (big_endian-begins n b bs e)) in
      rw (lt-ltb b 0x80 low) (omega arith)
  | inr high ↦
      let bytes : AreBytes (b ∷ bs) = subst AreBytes e (AreBytes-big_endian n) in
      let zeros = leading_between k _ _ n h (eight_bits b (length bs) n high bytes.0 (big_endian-begins n b bs e)) in
      rw (le-ltb b 0x80 high) (omega arith)
]

-- the content of an integer of k bytes, from 00 and these bytes
pub unsigned_content-bytes_high_first : (k n : ℕ) → n < 256 ^ k
    → drop ((count_leading_zeros (8 * k) n + 7) / 8) (0 ∷ bytes_high_first k n) ≡ unsigned_content n
unfolding unsigned_content
unsigned_content-bytes_high_first k n h = by_bytes (big_endian n) refl
  where
    by_bytes : (bs : List ℕ) → big_endian n ≡ bs
        → drop ((count_leading_zeros (8 * k) n + 7) / 8) (0 ∷ bytes_high_first k n) ≡ as_positive (big_endian n)
    by_bytes [] e =
        let is : n ≡ 0 = sym (number-big_endian n) ∙ ap (number_from_digits 256) e in
        let zeros : count_leading_zeros (8 * k) n ≡ 8 * k = ap (count_leading_zeros (8 * k)) is
        ∙ leading_of_zero (8 * k) in
        let all_but_one : (count_leading_zeros (8 * k) n + 7) / 8 ≡ k - length (big_endian n) =
        omega (arith, ap length e) in
        rw (bytes_high_first-big_endian k n h, all_but_one, e) (drop_other_zeros (k - 0) [])
    by_bytes (b ∷ bs) e =
        rw (bytes_high_first-big_endian k n h, left_out k n b bs h e, e)
        (drop_all_or_other (nat_lt b 0x80) (k - length (b ∷ bs)) b bs)

-- the same of a `u128`
pub unsigned_content-be_bytes : (n : ℕ) → n < 2 ^ 128 → drop ((leading_zeros w128 n + 7) / 8) (0 ∷ to_be_bytes w128 n)
    ≡ unsigned_content n
unsigned_content-be_bytes n h = unsigned_content-bytes_high_first 16 n h

-- ---- contents

-- a byte in front is one more byte
AreBytes-positive : (bs : List ℕ) → AreBytes bs → AreBytes (as_positive bs)
AreBytes-positive [] p = (omega arith, tt)
AreBytes-positive (b ∷ bs) p = cond_both (nat_lt b 0x80) (b ∷ bs) (0 ∷ b ∷ bs) AreBytes (λ e. p) (λ e. (omega arith, p))

-- the content of a number is bytes
pub AreBytes-unsigned_content : (n : ℕ) → AreBytes (unsigned_content n)
unfolding unsigned_content
AreBytes-unsigned_content n = AreBytes-positive (big_endian n) (AreBytes-big_endian n)

-- at most one byte is put in front
length-as_positive : (bs : List ℕ) → length (as_positive bs) ≤ suc (length bs)
length-as_positive [] = omega arith
length-as_positive (b ∷ bs) = cond_both (nat_lt b 0x80) (b ∷ bs) (0 ∷ b ∷ bs) (λ cs. length cs ≤ suc (suc (length bs)))
    (λ e. omega arith) (λ e. omega arith)

-- the content of a number of 128 bits has at most 17 bytes
pub length-unsigned_content : (n : ℕ) → n < 2 ^ 128 → length (unsigned_content n) ≤ 17
unfolding unsigned_content
length-unsigned_content n h =
    let bytes : length (big_endian n) ≤ 16 = length-big_endian 16 n h in
    omega (arith, length-as_positive (big_endian n))

-- the content of the number that bytes make
unsigned_content-number : (b : ℕ) (bs : List ℕ) → 0 < b → AreBytes (b ∷ bs)
    → unsigned_content (number_from_digits 256 (b ∷ bs)) ≡ as_positive (b ∷ bs)
unfolding unsigned_content
unsigned_content-number b bs h p = ap as_positive (big_endian-number b bs h p)

-- ---- which contents are read

-- the number of these bytes isn't too large to be read
abbrev IsSmall : ℕ → List ℕ → Type 0
IsSmall most bs = (length bs ≤ 16) × (number_from_digits 256 bs ≤ most)

-- such a number is read
number_error-small : (most : ℕ) (bs : List ℕ) → IsSmall most bs → number_error most bs ≡ None
number_error-small most bs h = rw (le-ltb 16 (length bs) h.0, le-ltb most (number_from_digits 256 bs) h.1) refl

-- and no other
small-number_error : (most : ℕ) (bs : List ℕ) → number_error most bs ≡ None → IsSmall most bs
small-number_error most bs = by_tests (nat_lt 16 (length bs)) (nat_lt most (number_from_digits 256 bs)) refl refl
  where
    by_tests : (long large : Bool) → nat_lt 16 (length bs) ≡ long → nat_lt most (number_from_digits 256 bs) ≡ large
        → cond (long || large) (Some UnsupportedValue) None ≡ None → IsSmall most bs
    by_tests false false e f h = (ltb-false 16 (length bs) e, ltb-false most (number_from_digits 256 bs) f)
    by_tests true large e f h = cc
    by_tests false true e f h = cc

-- a first byte from 01 to 7F is the whole content
unsigned_error-low : (most b : ℕ) (bs : List ℕ) → 0 < b → b < 0x80
    → unsigned_error most (b ∷ bs) ≡ number_error most (b ∷ bs)
unsigned_error-low most b [] h low = rw (lt-ltb b 0x80 low) refl
unsigned_error-low most b (c ∷ bs) h low = rw (lt-ltb b 0x80 low, ne_eqb b 0 (λ e. omega arith)) refl

-- a first byte from 80 follows 00
unsigned_error-high : (most b : ℕ) (bs : List ℕ) → 0x80 ≤ b
    → unsigned_error most (0 ∷ b ∷ bs) ≡ number_error most (b ∷ bs)
unsigned_error-high most b bs high = rw (le-ltb b 0x80 high) refl

-- the rule of the first byte is that of `as_positive`
unsigned_error-as_positive : (most b : ℕ) (bs : List ℕ) → 0 < b
    → unsigned_error most (as_positive (b ∷ bs)) ≡ number_error most (b ∷ bs)
unsigned_error-as_positive most b bs h = elim (cases_lt b 0x80) [
  | inl low ↦ rw (lt-ltb b 0x80 low) (unsigned_error-low most b bs h low)
  | inr high ↦ rw (le-ltb b 0x80 high) (unsigned_error-high most b bs high)
]

-- the content of a number is read
pub unsigned_error-content : (most n : ℕ) → n ≤ most → n < 2 ^ 128 → unsigned_error most (unsigned_content n) ≡ None
unfolding unsigned_content
unsigned_error-content most n h k = by_bytes (big_endian n) refl
  where
    small : IsSmall most (big_endian n)
    small = (length-big_endian 16 n k, rw (number-big_endian n) h)

    by_bytes : (bs : List ℕ) → big_endian n ≡ bs → unsigned_error most (as_positive bs) ≡ None
    by_bytes [] e = number_error-small most (0 ∷ []) (omega arith, omega arith)
    by_bytes (b ∷ bs) e = unsigned_error-as_positive most b bs (first-big_endian n b bs e)
        ∙ number_error-small most (b ∷ bs) (subst (IsSmall most) e small)

-- these bytes are the content of the number that they make, and this isn't too large
abbrev IsContent : ℕ → List ℕ → Type 0
IsContent most bs = (bs ≡ unsigned_content (number_from_digits 256 bs)) × (number_from_digits 256 bs ≤ most)
    × (number_from_digits 256 bs < 2 ^ 128)

-- it has at most 128 bits
number_below : (most : ℕ) (bs : List ℕ) → AreBytes bs → IsSmall most bs → number_from_digits 256 bs < 2 ^ 128
number_below most bs p small =
    let power : 256 ^ length bs ≤ 256 ^ 16 = pow-le-pow_right (omega arith) small.0 in
    omega (arith, number_lt 256 bs p)

-- 00 alone
content_zero : (most : ℕ) → IsContent most (0 ∷ [])
unfolding unsigned_content big_endian
content_zero most = (refl, omega arith, omega arith)

-- a first byte from 01 to 7F
content_low : (most b : ℕ) (bs : List ℕ) → 0 < b → b < 0x80 → AreBytes (b ∷ bs) → IsSmall most (b ∷ bs)
    → IsContent most (b ∷ bs)
content_low most b bs h low p small =
    let alone : as_positive (b ∷ bs) ≡ b ∷ bs = rw (lt-ltb b 0x80 low) refl in
    (sym (unsigned_content-number b bs h p ∙ alone), small.1, number_below most (b ∷ bs) p small)

-- 00, and a byte from 80 after it
content_high : (most b : ℕ) (bs : List ℕ) → 0x80 ≤ b → AreBytes (b ∷ bs) → IsSmall most (b ∷ bs)
    → IsContent most (0 ∷ b ∷ bs)
content_high most b bs high p small =
    let after : as_positive (b ∷ bs) ≡ 0 ∷ b ∷ bs = rw (le-ltb b 0x80 high) refl in
    (sym (unsigned_content-number b bs (omega arith) p ∙ after), small.1, number_below most (b ∷ bs) p small)

-- what is read is the content of a number
pub content-unsigned_error : (most : ℕ) (bs : List ℕ) → AreBytes bs → unsigned_error most bs ≡ None
    → (bs ≡ unsigned_content (number_from_digits 256 bs)) × (number_from_digits 256 bs ≤ most)
    × (number_from_digits 256 bs < 2 ^ 128)
content-unsigned_error most [] p e = cc
content-unsigned_error most (b ∷ []) p e = by_tests (nat_lt b 0x80) (b == 0) refl refl e
  where
    by_tests : (low none : Bool) → nat_lt b 0x80 ≡ low → (b == 0) ≡ none
        → cond low (number_error most (b ∷ [])) (Some UnsupportedValue) ≡ None → IsContent most (b ∷ [])
    by_tests true true f g h = let is : b ≡ 0 = eqb-true b 0 g in rw is (content_zero most)
    by_tests true false f g h = content_low most b [] (omega (arith, eqb-false b 0 g)) (ltb-true b 0x80 f) p
        (small-number_error most (b ∷ []) h)
    by_tests false none f g h = cc
content-unsigned_error most (b ∷ c ∷ bs) p e = by_tests (nat_lt b 0x80) (b == 0) (nat_lt c 0x80) refl refl refl e
  where
    by_tests : (low none needless : Bool) → nat_lt b 0x80 ≡ low → (b == 0) ≡ none → nat_lt c 0x80 ≡ needless
        → cond low (cond none (cond needless (Some InvalidData) (number_error most (c ∷ bs)))
        (number_error most (b ∷ c ∷ bs))) (Some UnsupportedValue) ≡ None → IsContent most (b ∷ c ∷ bs)
    by_tests true true false f g i h =
        let is : b ≡ 0 = eqb-true b 0 g in
        rw is (content_high most c bs (ltb-false c 0x80 i) p.1 (small-number_error most (c ∷ bs) h))
    by_tests true false needless f g i h =
        content_low most b (c ∷ bs) (omega (arith, eqb-false b 0 g)) (ltb-true b 0x80 f) p
        (small-number_error most (b ∷ c ∷ bs) h)
    by_tests true true true f g i h = cc
    by_tests false none needless f g i h = cc
