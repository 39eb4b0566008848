-- Digits of numbers, with each bit inverted or as it is.
use Rattle.std.proofs.Common.{◌≡◌, ◌≢◌, ℕ, suc, ◌+◌, ◌-◌, ◌*◌, ◌^◌, ◌<◌, ◌≤◌, Bool, true, false, not, ◌||◌, ◌==◌, List}
use Rattle.std.proofs.Common.{[], ◌∷◌, length, take, drop, get_or, nat_lt, Option, Some, None, IfSome, IfNone, ℤ, cond}
use Rattle.std.proofs.Common.{refl, sym, ap, subst, ◌∙◌, arith, inl, inr, lt-ltb, le-ltb, eqb-true, pow-suc, add-one}
use Rattle.std.proofs.Common.{mul-le-mul_right}
use Rattle.std.specs.Int.{complement_if}
use Rattle.std.specs.Int.Digits.{number_from_digits, number_from_digits_after}
use Rattle.std.proofs.Math.Nat.{pow-le-pow_right, pow-zero}
use Rattle.std.proofs.lemmas.Bool.{cases_lt, eqb-false}
use Rattle.std.proofs.lemmas.Int.Digits.{number_push}
use Rattle.std.proofs.lemmas.List.{map_more, length-map, drop-map}
use Rattle.picky_der_core.specs.Element.{AreBytes}
use Rattle.picky_der_core.specs.Primitive.{unsigned_content}
use Rattle.picky_der_core.specs.Integer.{is_integer, is_negative, turned_byte, turned_if, after_sign, integer_content}
use Rattle.picky_der_core.specs.Integer.{content_bits, integer_value}
use Rattle.picky_der_core.specs.IntegerLaws.{content-value, value-content}

-- a list that holds a byte at each index
pub bytes_by_index : (bs : List ℕ) → ((i : ℕ) → get_or bs i 0 < 256) → AreBytes bs
bytes_by_index [] h = tt
bytes_by_index (b ∷ bs) h = (h 0, bytes_by_index bs (λ i. h (suc i)))

-- ---- one digit more

pub turned_small : (t : Bool) (b : ℕ) → b < 256 → turned_byte t b < 256
turned_small true b h = omega arith
turned_small false b h = h

pub number_more : (t : Bool) (bs : List ℕ) (i : ℕ) → i < length bs
    → number_from_digits 256 (turned_if t (take (i + 1) bs)) ≡ number_from_digits 256
    (turned_if t (take i bs)) * 256 + turned_byte t (get_or bs i 0)
number_more t bs i h = ap (number_from_digits 256) (map_more (turned_byte t) bs i 0 h)
    ∙ number_push 256 (turned_if t (take i bs)) (turned_byte t (get_or bs i 0))

pub more_digits : (k n d : ℕ) → n < 256 ^ k → d < 256 → n * 256 + d < 256 ^ (k + 1)
more_digits k n d h l =
    let e : 256 ^ (k + 1) ≡ 256 ^ k * 256 = ap (λ m. 256 ^ m) (add-one k) ∙ pow-suc 256 k in
    omega (arith, e)

pub more_digits_fit : (k m n d : ℕ) → k < m → n < 256 ^ k → d < 256 → n * 256 + d < 256 ^ m
more_digits_fit k m n d l h b =
    let most : 256 ^ (k + 1) ≤ 256 ^ m = pow-le-pow_right {n = 256} (omega arith) {i = k + 1} {j = m} (omega arith) in
    omega (arith, more_digits k n d h b, most)

-- ---- after the sign

-- the bits, where the sign is known
bits_as : (bs : List ℕ) (t : Bool) → is_negative bs ≡ t → content_bits bs ≡ number_from_digits 256 (turned_if t bs)
bits_as bs t e = ap (λ t. number_from_digits 256 (turned_if t bs)) e

-- what a number counts before bytes
number_after-least : (n : ℕ) (bs : List ℕ) → n * 256 ^ length bs ≤ number_from_digits_after 256 n bs
number_after-least n [] = omega (arith, pow-zero 256)
number_after-least n (b ∷ bs) =
    let step : n * (256 ^ length bs * 256) ≤ (n * 256 + b) * 256 ^ length bs = grind arith in
    rw (pow-suc 256 (length bs)) (omega (arith, number_after-least (n * 256 + b) bs, step))

-- more than sixteen bytes, of which the first isn't 0, are past 128 bits
past_bits : (b : ℕ) (bs : List ℕ) → 0 < b → 16 < length (b ∷ bs) → 2 ^ 128 ≤ number_from_digits 256 (b ∷ bs)
past_bits b bs some h =
    let power : 256 ^ 16 ≤ 256 ^ length bs =
    pow-le-pow_right {n = 256} (omega arith) {i = 16} {j = length bs} (omega arith) in
    let least : 1 * 256 ^ length bs ≤ b * 256 ^ length bs = mul-le-mul_right (256 ^ length bs) (omega arith) in
    omega (arith, number_after-least (0 * 256 + b) bs)

-- so are more than sixteen after the sign of a content
pub long_bits : (bs : List ℕ) → AreBytes bs → is_integer bs ≡ true → 16 < length (after_sign bs)
    → 2 ^ 128 ≤ content_bits bs
long_bits [] p e h = absurd (omega arith)
long_bits (b ∷ []) p e h = by_sign (b == 0x00 || b == 0xFF) h
  where
    by_sign : (t : Bool) → 16 < length (cond t [] (b ∷ [])) → 2 ^ 128 ≤ content_bits (b ∷ [])
    by_sign true h = absurd (omega arith)
    by_sign false h = absurd (omega arith)
long_bits (b ∷ c ∷ bs) p e h = by_tests (b == 0x00) (b == 0xFF) refl refl e h
  where
    IsPast : ℕ → Type 0
    IsPast b = 2 ^ 128 ≤ content_bits (b ∷ c ∷ bs)

    others : (t : Bool) → length (turned_if t bs) ≡ length bs
    others t = length-map bs (turned_byte t)

    by_tests : (zero full : Bool) → (b == 0x00) ≡ zero → (b == 0xFF) ≡ full
        → cond (nat_lt c 0x80) (not zero) (not full) ≡ true → 16 < length (cond (zero || full) (c ∷ bs) (b ∷ c ∷ bs))
        → 2 ^ 128 ≤ content_bits (b ∷ c ∷ bs)
    by_tests true full f g e h = elim (cases_lt c 0x80) [
      | inl low ↦ let q : true ≡ false = sym e ∙ rw (lt-ltb c 0x80 low) refl in cc
      | inr high ↦ subst IsPast (sym (eqb-true b 0x00 f))
          (past_bits c (turned_if false bs) (omega arith) (omega (arith, others false)))
    ]
    by_tests false true f g e h = elim (cases_lt c 0x80) [
      | inl low ↦ subst IsPast (sym (eqb-true b 0xFF g))
          (past_bits (0xFF - c) (turned_if true bs) (omega arith) (omega (arith, others true)))
      | inr high ↦ let q : true ≡ false = sym e ∙ rw (le-ltb c 0x80 high) refl in cc
    ]
    by_tests false false f g e h = elim (cases_lt b 0x80) [
      | inl low ↦ subst (λ n. 2 ^ 128 ≤ n) (sym (bits_as (b ∷ c ∷ bs) false (rw (lt-ltb b 0x80 low) refl)))
          (past_bits b (turned_if false (c ∷ bs)) (omega (arith, eqb-false b 0x00 f)) (omega (arith, others false)))
      | inr high ↦ subst (λ n. 2 ^ 128 ≤ n) (sym (bits_as (b ∷ c ∷ bs) true (rw (le-ltb b 0x80 high) refl)))
          (past_bits (0xFF - b) (turned_if true (c ∷ bs)) (omega (arith, eqb-false b 0xFF g, p.0))
          (omega (arith, others true)))
    ]

-- ---- contents among seventeen bytes

-- the bytes as they are, after some in front
pub content_positive : (n start : ℕ) (t : Bool) (bytes : List ℕ) → t ≡ false → drop start bytes ≡ unsigned_content n
    → drop start bytes ≡ integer_content (complement_if t n)
content_positive n start t bytes e f = f ∙ ap (λ t. integer_content (complement_if t n)) (sym e)

pub content_negative : (n start : ℕ) (t : Bool) (bytes turned : List ℕ) → t ≡ true
    → drop start bytes ≡ unsigned_content n → turned ≡ turned_if true bytes
    → drop start turned ≡ integer_content (complement_if t n)
content_negative n start t bytes turned e f g =
    ap (drop start) g ∙ drop-map (turned_byte true) start bytes ∙ ap (turned_if true) f
    ∙ ap (λ t. integer_content (complement_if t n)) (sym e)

-- ---- numbers of a type

-- the number is that of the content
pub content_as : {N : Type 0} (number : N → ℤ) (content : List ℕ) (r : Option N) → AreBytes content
    → is_integer content ≡ true → IfSome r (λ n. number n ≡ integer_value content)
    → IfSome r (λ n. content ≡ integer_content (number n))
content_as number content None p e h = tt
content_as number content (Some n) p e h = sym (content-value content p e) ∙ ap integer_content (sym h)

-- the type has no number with the content
pub no_content_as : {N : Type 0} (fits : ℤ → Bool) (content : List ℕ) (r : Option N)
    → IfNone r (fits (integer_value content) ≡ false) → IfNone r ((z : ℤ) → fits z ≡ true → content ≢ integer_content z)
no_content_as fits content (Some n) h = tt
no_content_as fits content None h = λ z fit e.
    let same : z ≡ integer_value content = sym (value-content z) ∙ ap integer_value (sym e) in
    let no : true ≡ false = sym fit ∙ ap fits same ∙ h in
    cc
