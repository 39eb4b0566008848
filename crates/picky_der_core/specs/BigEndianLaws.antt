-- The bytes of a number.
use Rattle.std.proofs.Common.{◌≡◌, ℕ, zero, suc, ◌+◌, ◌-◌, ◌*◌, ◌/◌, ◌%◌, ◌^◌, ◌<◌, ◌≤◌, Bool, true, false, cond, List}
use Rattle.std.proofs.Common.{[], ◌∷◌, ◌++◌, length, drop, replicate, ◌==◌, refl, sym, ap, ap₂, subst, ◌∙◌, arith, inl}
use Rattle.std.proofs.Common.{inr, append_assoc, append-nil, length-append, pow-suc}
use Rattle.std.specs.Int.{w64, leading_zeros, to_be_bytes, bytes_high_first, byte_at}
use Rattle.std.specs.Int.Digits.{digits_of, digits_with_fuel, number_from_digits, number_from_digits_after}
use Rattle.std.proofs.Math.Nat.{pow-le-pow_right, pow-zero, pow-succ', div-div-eq-div-mul, zero-div, sub-zero}
use Rattle.std.proofs.Math.Seq.{drop-append_seam}
use Rattle.std.proofs.lemmas.Bool.{cases_lt}
use Rattle.std.proofs.lemmas.Int.Digits.{all_below_base_digits_of, digits_of_step, first_digits_of, length-digits_of-le}
use Rattle.std.proofs.lemmas.Int.Digits.{number_digits_of, number_lt}
use Rattle.std.proofs.lemmas.List.{length-replicate}
use Rattle.std.proofs.lemmas.Nat.{pow-add, leading_top, div_below, div-mul-add, mod-mul-add}
use Rattle.picky_der_core.specs.Element.{big_endian_within, big_endian, AreBytes}

-- ---- the digits of a number

one_digit_more : (b : Bool) (n : ℕ) {xs ys : List ℕ} → xs ≡ ys
    → elim b as (λ x. List ℕ) [ true ↦ [] | false ↦ xs ++ (n ∷ []) ] ≡ cond b [] (ys ++ (n ∷ []))
one_digit_more true n e = refl
one_digit_more false n e = ap (λ ds. ds ++ (n ∷ [])) e

-- the bytes of a number are its digits at the base 256
big_endian_within-digits : (most n : ℕ) → big_endian_within most n ≡ digits_with_fuel 256 most n
big_endian_within-digits zero n = refl
big_endian_within-digits (suc most) n = one_digit_more (n == 0) (n % 256) (big_endian_within-digits most (n / 256))

pub big_endian-digits : (n : ℕ) → big_endian n ≡ digits_with_fuel 256 n n
unfolding big_endian
big_endian-digits n = big_endian_within-digits n n

pub number-big_endian : (n : ℕ) → number_from_digits 256 (big_endian n) ≡ n
number-big_endian n = ap (number_from_digits 256) (big_endian-digits n) ∙ number_digits_of 256 n (omega arith)

pub big_endian-same : (m n : ℕ) → big_endian m ≡ big_endian n → m ≡ n
big_endian-same m n e = sym (number-big_endian m) ∙ ap (number_from_digits 256) e ∙ number-big_endian n

-- the last byte apart
pub big_endian-step : (n : ℕ) → 0 < n → big_endian n ≡ big_endian (n / 256) ++ (n % 256 ∷ [])
big_endian-step n h = big_endian-digits n ∙ digits_of_step 256 n (omega arith) h
    ∙ ap (λ ds. ds ++ (n % 256 ∷ [])) (sym (big_endian-digits (n / 256)))

pub length-big_endian : (k n : ℕ) → n < 256 ^ k → length (big_endian n) ≤ k
length-big_endian k n h = rw (big_endian-digits n) (length-digits_of-le 256 k n (omega arith) h)

-- ---- which bytes they are

-- 0 has none
pub big_endian-zero : big_endian 0 ≡ []
unfolding big_endian
big_endian-zero = refl

-- each of them is a byte
pub AreBytes-big_endian : (n : ℕ) → AreBytes (big_endian n)
AreBytes-big_endian n = rw (big_endian-digits n) (all_below_base_digits_of 256 n (omega arith))

-- the first of them isn't 0
pub first-big_endian : (n b : ℕ) (bs : List ℕ) → big_endian n ≡ b ∷ bs → 0 < b
first-big_endian zero b bs e = absurd (cc (big_endian-zero))
first-big_endian (suc n) b bs e =
    let first = first_digits_of 256 (suc n) (omega arith) (omega arith) in
    let same : digits_of 256 (suc n) ≡ b ∷ bs = sym (big_endian-digits (suc n)) ∙ e in
    rw same at first

-- one more byte after them
big_endian-more : (n b : ℕ) → 0 < n * 256 + b → b < 256 → big_endian (n * 256 + b) ≡ big_endian n ++ (b ∷ [])
big_endian-more n b h byte = big_endian-step (n * 256 + b) h ∙ rw (div-mul-add n 256 b byte, mod-mul-add n 256 b byte)
    refl

-- any bytes after them
big_endian-after : (n : ℕ) (bs : List ℕ) → 0 < n → AreBytes bs
    → big_endian (number_from_digits_after 256 n bs) ≡ big_endian n ++ bs
big_endian-after n [] h p = rw append-nil refl
big_endian-after n (b ∷ bs) h p = big_endian-after (n * 256 + b) bs (omega arith) p.1
    ∙ rw (big_endian-more n b (omega arith) p.0, append_assoc) refl

-- bytes that don't begin with 0 are those of the number that they make
pub big_endian-number : (b : ℕ) (bs : List ℕ) → 0 < b → AreBytes (b ∷ bs)
    → big_endian (number_from_digits 256 (b ∷ bs)) ≡ b ∷ bs
big_endian-number b bs h p =
    let front : big_endian (0 * 256 + b) ≡ big_endian 0 ++ (b ∷ []) = big_endian-more 0 b (omega arith) p.0 in
    big_endian-after (0 * 256 + b) bs (omega arith) p.1 ∙ rw (front, big_endian-zero) refl

-- and so are bytes of the same number
pub big_endian-as_many : (bs : List ℕ) → AreBytes bs → length (big_endian (number_from_digits 256 bs)) ≡ length bs
    → big_endian (number_from_digits 256 bs) ≡ bs
big_endian-as_many [] h e = big_endian-zero
big_endian-as_many (zero ∷ bs) h e =
    absurd (omega (arith, length-big_endian (length bs) (number_from_digits 256 bs) (number_lt 256 bs h.1)))
big_endian-as_many (suc b ∷ bs) h e = big_endian-number (suc b) bs (omega arith) h

-- ---- how many they are

-- a number is below the power of 256 that has as many bytes
pub below-big_endian : (n : ℕ) → n < 256 ^ length (big_endian n)
below-big_endian n =
    subst (λ m. m < 256 ^ length (big_endian n)) (number-big_endian n)
    (number_lt 256 (big_endian n) (AreBytes-big_endian n))

-- more bytes hold more numbers
power_of_256 : (i j : ℕ) → i ≤ j → 256 ^ i ≤ 256 ^ j
power_of_256 i j h = pow-le-pow_right {n = 256} (omega arith) {i = i} {j = j} h

-- a number from a power of 256 on has more bytes than that power, and by `length-big_endian` no others
pub big_endian-least : (k n : ℕ) → 256 ^ k ≤ n → k < length (big_endian n)
big_endian-least k n h = elim (cases_lt k (length (big_endian n))) [
  | inl fewer ↦ fewer
  | inr enough ↦ absurd (omega (arith, below-big_endian n, power_of_256 (length (big_endian n)) k enough))
]

-- between two powers it has as many as the higher
pub big_endian-size : (k n : ℕ) → 256 ^ k ≤ n → n < 256 ^ suc k → length (big_endian n) ≡ suc k
big_endian-size k n l h = omega (arith, big_endian-least k n l, length-big_endian (suc k) n h)

-- a byte is eight bits
pub power_of_2 : (k : ℕ) → 256 ^ k ≡ 2 ^ (8 * k)
power_of_2 zero = refl
power_of_2 (suc k) =
    let more : 8 * suc k ≡ 8 * k + 8 = omega arith in
    rw (more, pow-suc 256 k, power_of_2 k, pow-add 2 (8 * k) 8) refl

-- the zeros before a number of 64 bits determine how many bytes it has
pub big_endian-zeros : (n : ℕ) → 0 < n → n < 2 ^ 64 → leading_zeros w64 n / 8 + length (big_endian n) ≡ 8
big_endian-zeros n some small =
    let (top, zeros, least, most) = leading_top 64 n some small in
    let k = 7 - leading_zeros w64 n / 8 in
    let low : 2 ^ (8 * k) ≤ 2 ^ top = pow-le-pow_right {n = 2} (omega arith) {i = 8 * k} {j = top} (omega arith) in
    let high : 2 ^ suc top ≤ 2 ^ (8 * suc k) =
    pow-le-pow_right {n = 2} (omega arith) {i = suc top} {j = 8 * suc k} (omega arith) in
    omega (arith, big_endian-size k n (omega (arith, power_of_2 k)) (omega (arith, power_of_2 (suc k))))

-- ---- the bytes of an integer

-- a byte of a number is one of the number without its last byte
byte_at-next : (i n : ℕ) → byte_at (suc i) n ≡ byte_at i (n / 256)
byte_at-next zero n = refl
byte_at-next (suc i) n = ap (λ m. m % 256) (rw (pow-succ' 256 (suc i)) (sym (div-div-eq-div-mul n 256 (256 ^ suc i))))

-- the last byte apart
bytes_high_first-step : (k n : ℕ) → bytes_high_first (suc k) n ≡ bytes_high_first k (n / 256) ++ (n % 256 ∷ [])
bytes_high_first-step zero n = refl
bytes_high_first-step (suc k) n = ap₂ (λ b bs. b ∷ bs) (byte_at-next k n) (bytes_high_first-step k n)

-- each byte of 0 is 0
byte_at-zero : (i : ℕ) → byte_at i 0 ≡ 0
byte_at-zero zero = refl
byte_at-zero (suc i) = rw (zero-div (256 ^ suc i)) refl

-- 0 is written as zeros
bytes_high_first-zero : (k : ℕ) → bytes_high_first k 0 ≡ replicate k 0
bytes_high_first-zero zero = refl
bytes_high_first-zero (suc k) = ap₂ (λ b bs. b ∷ bs) (byte_at-zero k) (bytes_high_first-zero k)

-- an integer of k bytes is written as zeros and the bytes of its number
pub bytes_high_first-big_endian : (k n : ℕ) → n < 256 ^ k
    → bytes_high_first k n ≡ replicate (k - length (big_endian n)) 0 ++ big_endian n
bytes_high_first-big_endian k zero h = rw (big_endian-zero, append-nil, sub-zero) (bytes_high_first-zero k)
bytes_high_first-big_endian zero (suc n) h = absurd (omega (arith, pow-zero 256))
bytes_high_first-big_endian (suc k) (suc n) h =
    let step = big_endian-step (suc n) (omega arith) in
    let front =
    bytes_high_first-big_endian k (suc n / 256)
    (div_below (suc n) 256 (256 ^ k) (omega arith) (omega (arith, pow-suc 256 k))) in
    let as_many : k - length (big_endian (suc n / 256)) ≡ suc k - length (big_endian (suc n)) =
    omega (arith, ap length step, length-append {A = ℕ}) in
    bytes_high_first-step k (suc n) ∙ ap (λ bs. bs ++ (suc n % 256 ∷ [])) front ∙ rw (as_many, step, append_assoc) refl

-- the bytes of a number of 64 bits are the last of its eight
pub big_endian-last : (n : ℕ) → n < 2 ^ 64 → drop (8 - length (big_endian n)) (to_be_bytes w64 n) ≡ big_endian n
big_endian-last n h =
    let k = 8 - length (big_endian n) in
    ap (λ bs. drop k bs) (bytes_high_first-big_endian 8 n (omega arith))
    ∙ ap (λ i. drop i (replicate k 0 ++ big_endian n)) (sym (length-replicate k 0))
    ∙ drop-append_seam (replicate k 0) (big_endian n)
