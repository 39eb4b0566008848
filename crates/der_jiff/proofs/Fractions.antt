-- Fractions of a second as digits.
use Rattle.std.proofs.Common.{◌≡◌, ◌<◌, ◌≤◌, ◌^◌, ℕ, zero, suc, ◌+◌, ◌-◌, ◌*◌, ◌/◌, ◌%◌, arith, pow-suc, Bool, true}
use Rattle.std.proofs.Common.{not, ◌&&◌, ◌==◌, nat_lt, List, [], ◌∷◌, ◌++◌, length, take, get_or, refl, sym, ap, ap₂}
use Rattle.std.proofs.Common.{subst, ◌∙◌, div-lt_iff_lt-mul, mod-lt, div-add-mod', cond, eq-eqb, lt-ltb, ltb-true}
use Rattle.std.proofs.Math.Seq.{take-append_seam, get_or-append_seam}
use Rattle.std.proofs.lemmas.List.{length-append}
use Rattle.std.proofs.Math.Nat.{one-le-pow, pow-le-pow_right, pow-zero}
use Rattle.std.proofs.lemmas.Bool.{and_parts, ne_eqb}
use Rattle.std.proofs.lemmas.Bool.Decides.{nat_tests}
use Rattle.der_types.specs.CalendarLaws.{part_lt}
use Rattle.der_types.specs.TimeContents.{is_digit, are_digits, is_fraction, fraction_of, is_ended, are_whole_seconds}
use Rattle.der_types.specs.TimeContents.{is_generalized_time}
use Rattle.der_types.specs.declared.date_time.DateTime.{DateTime}
use Rattle.der_types.specs.DateTimes.{two_digits}
use Rattle.der_types.specs.TimeValues.{month_to_second, after_point, generalized_content}
use Rattle.der_types.specs.GeneralizedTimes.{scaled}
use Rattle.jiff_core.specs.declared.civil.datetime.DateTime.{DateTime as Civil}
use Rattle.der_jiff.specs.JiffTimes.{fewest_digits, Shows, ShowsContent}

pub power_positive : (k : ℕ) → 0 < 10 ^ k
power_positive k = one-le-pow k 10 (omega arith)

-- ten to the number of all places is ten times that of the others
pub next_power : (k : ℕ) → 0 < k → 10 ^ k ≡ 10 ^ (k - 1) * 10
next_power k some =
    let back : suc (k - 1) ≡ k = omega (arith, some) in
    subst (λ n. 10 ^ n ≡ 10 ^ (k - 1) * 10) back (omega (arith, pow-suc 10 (k - 1)))

pub few_digits : (k : ℕ) → k ≤ 9 → 10 ^ k ≤ 1_000_000_000
few_digits k few = pow-le-pow_right (omega arith) few

pub first_digit : (ds : List ℕ) → are_digits ds ≡ true → 1 ≤ length ds → get_or ds 0 0 - 0x30 < 10
first_digit [] e h = absurd (omega (arith, h))
first_digit (d ∷ ds) e h =
    let a = and_parts (is_digit d) (are_digits ds) e in
    let b = and_parts (nat_lt 0x2F d) (nat_lt d 0x3A) a.0 in
    omega (arith, ltb-true d 0x3A b.1)

-- a digit before digits of fewer places
pub together : (k digit others : ℕ) → 0 < k → digit < 10 → others < 10 ^ (k - 1)
    → digit * 10 ^ (k - 1) + others < 10 ^ k
together k digit others some d o = omega (arith, next_power k some, part_lt (10 ^ (k - 1)) digit 10 others 0 o d)

-- only 0 has no digit
pub has_place : (k n : ℕ) → (n ≡ 0 → ⊥) → n < 10 ^ k → 0 < k
has_place zero n some below = absurd (some (omega (arith, below, pow-zero 10)))
has_place (suc k) n some below = omega arith

pub digit_of : (k n : ℕ) → 0 < k → n < 10 ^ k → n / 10 ^ (k - 1) < 10
digit_of k n some below = (div-lt_iff_lt-mul (power_positive (k - 1))).1 (omega (arith, below, next_power k some))

pub fewest_more : (k n : ℕ) → 0 < k → (n ≡ 0 → ⊥)
    → fewest_digits k n ≡ (0x30 + n / 10 ^ (k - 1)) ∷ fewest_digits (k - 1) (n % 10 ^ (k - 1))
fewest_more zero n some positive = absurd (omega (arith, some))
fewest_more (suc k) zero some positive = absurd (positive refl)
fewest_more (suc k) (suc n) some positive =
    let back : suc k - 1 ≡ k = omega arith in
    rw back refl

-- ---- the fewest digits

both : {p q : Bool} → p ≡ true → q ≡ true → (p && q) ≡ true
both h k = rw (h, k) refl

whole_and_rest : (k n : ℕ) → n / 10 ^ k * 10 ^ k + n % 10 ^ k ≡ n
whole_and_rest k n = div-add-mod' n (10 ^ k)

pub fewest_value : (k n : ℕ) → n < 10 ^ k → scaled k (fewest_digits k n) ≡ n
fewest_value zero n below = omega (arith, below, pow-zero 10)
fewest_value (suc k) zero below = refl
fewest_value (suc k) (suc n) below =
    let digit : 0x30 + suc n / 10 ^ k - 0x30 ≡ suc n / 10 ^ k = omega arith in
    ap₂ (λ q r. q * 10 ^ k + r) digit (fewest_value k (suc n % 10 ^ k) (mod-lt (suc n) (power_positive k)))
    ∙ whole_and_rest k (suc n)

-- the last one isn't 0
abbrev ends_well : List ℕ → Bool
ends_well ds = not (get_or ds (length ds - 1) 0 == 0x30)

longer : (d e : ℕ) (ds : List ℕ) → ends_well (e ∷ ds) ≡ true → ends_well (d ∷ e ∷ ds) ≡ true
longer d e ds h =
    let i : length (d ∷ e ∷ ds) - 1 ≡ suc (length ds) = omega arith in
    let j : length (e ∷ ds) - 1 ≡ length ds = omega arith in
    let last : not (get_or (e ∷ ds) (length ds) 0 == 0x30) ≡ true =
    subst (λ n. not (get_or (e ∷ ds) n 0 == 0x30) ≡ true) j h in
    subst (λ n. not (get_or (d ∷ e ∷ ds) n 0 == 0x30) ≡ true) (sym i) last

alone : (q : ℕ) → (q ≡ 0 → ⊥) → ends_well ((0x30 + q) ∷ []) ≡ true
alone q some = grind (arith, nat_tests)

one_more : (k q r : ℕ) → (r ≡ 0 → q ≡ 0 → ⊥) → r < 10 ^ k → ends_well (fewest_digits k r) ≡ true
    → ends_well ((0x30 + q) ∷ fewest_digits k r) ≡ true
one_more zero q zero some below h = alone q (some refl)
one_more (suc k) q zero some below h = alone q (some refl)
one_more zero q (suc r) some below h = absurd (omega (arith, below, pow-zero 10))
one_more (suc k) q (suc r) some below h = longer (0x30 + q) (0x30 + suc r / 10 ^ k) (fewest_digits k (suc r % 10 ^ k)) h

-- not both parts of a number are 0
parts : (k n : ℕ) → (n ≡ 0 → ⊥) → n % 10 ^ k ≡ 0 → n / 10 ^ k ≡ 0 → ⊥
parts k n some rest whole =
    let none : 0 * 10 ^ k + 0 ≡ 0 = omega arith in
    some (sym (whole_and_rest k n) ∙ ap₂ (λ q r. q * 10 ^ k + r) whole rest ∙ none)

ended : (k n : ℕ) → n < 10 ^ k → ends_well (fewest_digits k n) ≡ true
ended zero n below = refl
ended (suc k) zero below = refl
ended (suc k) (suc n) below =
    let less = mod-lt (suc n) (power_positive k) in
    one_more k (suc n / 10 ^ k) (suc n % 10 ^ k) (parts k (suc n) (λ e. omega (arith, e))) less
    (ended k (suc n % 10 ^ k) less)

digits_fit : (k n : ℕ) → n < 10 ^ k → are_digits (fewest_digits k n) ≡ true
digits_fit zero n below = refl
digits_fit (suc k) zero below = refl
digits_fit (suc k) (suc n) below =
    let ten : suc n < 10 * 10 ^ k = omega (arith, below, pow-suc 10 k) in
    let digit = (div-lt_iff_lt-mul (power_positive k)).1 ten in
    both (both (lt-ltb 0x2F (0x30 + suc n / 10 ^ k) (omega arith))
    (lt-ltb (0x30 + suc n / 10 ^ k) 0x3A (omega (arith, digit))))
    (digits_fit k (suc n % 10 ^ k) (mod-lt (suc n) (power_positive k)))

pub fewest_valid : (k n : ℕ) → n < 10 ^ k → is_fraction (fewest_digits k n) ≡ true
fewest_valid k n below = both (digits_fit k n below) (ended k n below)

-- ---- contents

same_seconds : (t : DateTime) (ds : List ℕ)
    → are_whole_seconds (generalized_content t ds) ≡ are_whole_seconds (generalized_content t [])
unfolding generalized_content month_to_second
same_seconds t ds = refl

pub fraction_is : (t : DateTime) (ds : List ℕ) → fraction_of (generalized_content t ds) ≡ ds
unfolding generalized_content month_to_second
fraction_is t [] = refl
fraction_is t (d ∷ ds) =
    let n : length (generalized_content t (d ∷ ds)) - 1 - 15 ≡ length (d ∷ ds) =
    omega (arith, length-append (d ∷ ds) (0x5A ∷ [])) in
    ap (λ n. take n ((d ∷ ds) ++ (0x5A ∷ []))) n ∙ take-append_seam (d ∷ ds) (0x5A ∷ [])

last_of : (xs : List ℕ) (z : ℕ) → get_or (xs ++ (z ∷ [])) (length (xs ++ (z ∷ [])) - 1) 0 ≡ z
last_of xs z =
    let n : length (xs ++ (z ∷ [])) - 1 ≡ length xs = omega (arith, length-append xs (z ∷ [])) in
    ap (λ n. get_or (xs ++ (z ∷ [])) n 0) n ∙ get_or-append_seam xs z [] 0

ended_so : (bs : List ℕ) → 16 < length bs → get_or bs 14 0 ≡ 0x2E → get_or bs (length bs - 1) 0 ≡ 0x5A
    → is_fraction (fraction_of bs) ≡ true → is_ended bs ≡ true
ended_so bs long point zed fraction =
    let other = ne_eqb (length bs) 15 (λ e. omega (arith, e, long)) in
    ap (λ t. cond t (get_or bs 14 0 == 0x5A)
    (nat_lt 16 (length bs) && (get_or bs 14 0 == 0x2E) && (get_or bs (length bs - 1) 0 == 0x5A) && is_fraction
    (fraction_of bs))) other
    ∙ both (both (both (lt-ltb 16 (length bs) long) (eq-eqb (get_or bs 14 0) 0x2E point))
    (eq-eqb (get_or bs (length bs - 1) 0) 0x5A zed)) fraction

length_of : (t : DateTime) (d : ℕ) (ds : List ℕ) → length (generalized_content t (d ∷ ds)) ≡ length ds + 17
unfolding generalized_content month_to_second
length_of t d ds = omega (arith, length-append ds (0x5A ∷ []))

point_of : (t : DateTime) (d : ℕ) (ds : List ℕ) → get_or (generalized_content t (d ∷ ds)) 14 0 ≡ 0x2E
unfolding generalized_content month_to_second
point_of t d ds = refl

zed_of : (t : DateTime) (d : ℕ) (ds : List ℕ)
    → get_or (generalized_content t (d ∷ ds)) (length (generalized_content t (d ∷ ds)) - 1) 0 ≡ 0x5A
unfolding generalized_content month_to_second
zed_of t d ds =
    last_of (two_digits (t.year / 100) ++ (two_digits (t.year % 100) ++ (month_to_second t ++ (0x2E ∷ d ∷ ds)))) 0x5A

-- a content with such a fraction is one of a GeneralizedTime
pub valid : (t : DateTime) (ds : List ℕ) → is_generalized_time (generalized_content t []) ≡ true → is_fraction ds ≡ true
    → is_generalized_time (generalized_content t ds) ≡ true
valid t [] whole fraction = whole
valid t (d ∷ ds) whole fraction =
    let bs = generalized_content t (d ∷ ds) in
    let a = and_parts (nat_lt 14 (length (generalized_content t [])) && are_whole_seconds (generalized_content t []))
    (is_ended (generalized_content t [])) whole in
    let b = and_parts (nat_lt 14 (length (generalized_content t []))) (are_whole_seconds (generalized_content t []))
    a.0 in
    let long = length_of t d ds in
    both (both (lt-ltb 14 (length bs) (omega (arith, long))) (same_seconds t (d ∷ ds) ∙ b.1))
    (ended_so bs (omega (arith, long)) (point_of t d ds) (zed_of t d ds) (ap is_fraction (fraction_is t (d ∷ ds))
    ∙ fraction))

-- put together of the content without a fraction
pub put_together : (t : DateTime) (ds : List ℕ) → take 14 (generalized_content t []) ++ after_point ds ++ (0x5A ∷ [])
    ≡ generalized_content t ds
unfolding generalized_content month_to_second
put_together t ds = refl

pub shows_content : (civil : Civil) (at : DateTime) (bs : List ℕ) (n : ℕ)
    → bs ≡ generalized_content at (fewest_digits 9 n) → n < 1_000_000_000 → Shows civil at n → ShowsContent civil bs
shows_content civil at bs n e below shows =
    let fraction : fraction_of bs ≡ fewest_digits 9 n = ap fraction_of e ∙ fraction_is at (fewest_digits 9 n) in
    let value : scaled 9 (fraction_of bs) ≡ n = ap (scaled 9) fraction ∙ fewest_value 9 n (omega (arith, below)) in
    record {
      at = at;
      is = ap (generalized_content at) fraction ∙ sym e;
      shows = subst (λ k. Shows civil at k) (sym value) shows;
    }
