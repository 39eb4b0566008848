-- Each list of numbers has one content, and each content is one of numbers.
use Rattle.picky_der_core.specs.Element.{AreBytes}
use Rattle.std.proofs.Common.{◌≡◌, ℕ, zero, suc, ◌+◌, ◌-◌, ◌*◌, ◌/◌, ◌%◌, ◌<◌, ◌≤◌, Bool, true, false, not, ◌&&◌, ◌||◌}
use Rattle.std.proofs.Common.{List, [], ◌∷◌, ◌++◌, map, nat_lt, ◌==◌, refl, ap, subst, ◌∙◌, arith, inl, inr, lt-ltb}
use Rattle.std.proofs.Common.{le-ltb, ne_eqb, append_assoc}
use Rattle.std.specs.Int.Digits.{digits_of, number_from_digits, number_from_digits_after, AllBelowBase}
use Rattle.std.proofs.lemmas.Bool.{cases_lt, eqb-false}
use Rattle.std.proofs.lemmas.Bool.Decides.{nat_tests}
use Rattle.std.proofs.lemmas.Int.Digits.{digits_of_step, number_digits_of, all_below_base_digits_of, first_digits_of}
use Rattle.std.proofs.lemmas.Nat.{div-mul-add, mod-mul-add}
use Rattle.std.proofs.lemmas.List.{map-append}
use Rattle.der_types.specs.Subidentifiers.{marked, subidentifier, subidentifiers, are_subidentifiers, is_subidentifiers}
use Rattle.der_types.specs.Subidentifiers.{numbers_after}

-- ---- each content is one of numbers

-- a last digit
last_digit : (n b : ℕ) → b < 128 → subidentifier (n * 128 + b) ≡ marked n ++ (b ∷ [])
unfolding subidentifier
last_digit n b h = rw (div-mul-add n 128 b h, mod-mul-add n 128 b h) refl

-- another digit
pub marked-zero : marked 0 ≡ []
unfolding marked
marked-zero = refl

pub marked-step : (n : ℕ) → 0 < n → marked n ≡ marked (n / 128) ++ ((0x80 + n % 128) ∷ [])
unfolding marked
marked-step n some = ap (map (λ d. 0x80 + d)) (digits_of_step 128 n (omega arith) some)
    ∙ map-append (λ d. 0x80 + d) (digits_of 128 (n / 128)) (n % 128 ∷ [])

marked-more : (n b : ℕ) → 0 < n * 128 + b → b < 128 → marked (n * 128 + b) ≡ marked n ++ ((0x80 + b) ∷ [])
marked-more n b some h = marked-step (n * 128 + b) some ∙ rw (div-mul-add n 128 b h, mod-mul-add n 128 b h) refl

-- whether digits were read
abbrev IsInside : Bool → ℕ → Type 0
IsInside true n = 0 < n
IsInside false n = n ≡ 0

some_read : (inside : Bool) (n b : ℕ) → IsInside inside n → 0x80 ≤ b → inside || not (b == 0x80) ≡ true
    → 0 < n * 128 + (b - 0x80)
some_read true n b h high e = omega arith
some_read false n b h high e = let other : (b == 0x80) ≡ false = grind (arith, nat_tests) in
    omega (arith, eqb-false b 0x80 other)

parted : (p q : Bool) → (p && q) ≡ true → (p ≡ true) × (q ≡ true)
parted true q e = (refl, e)
parted false q e = cc

pub content-numbers : (inside : Bool) (n : ℕ) (bs : List ℕ) → IsInside inside n → AreBytes bs
    → are_subidentifiers inside bs ≡ true → subidentifiers (numbers_after n bs) ≡ marked n ++ bs
content-numbers true n [] h p e = cc
content-numbers false n [] h p e = rw (h, marked-zero) refl
content-numbers inside n (b ∷ bs) h p e =
    let tests = parted (inside || not (b == 0x80)) (are_subidentifiers (not (nat_lt b 0x80)) bs) e in
    elim (cases_lt b 0x80) [
      | inl low ↦
          let is : nat_lt b 0x80 ≡ true = lt-ltb b 0x80 low in
          let others =
          content-numbers false 0 bs refl p.1 (subst (λ t. are_subidentifiers (not t) bs ≡ true) is tests.1) in
          rw (is, others, last_digit n b low, marked-zero, append_assoc) refl
      | inr high ↦
          let is : nat_lt b 0x80 ≡ false = le-ltb b 0x80 high in
          let some = some_read inside n b h high tests.0 in
          let others =
          content-numbers true (n * 128 + (b - 0x80)) bs some p.1
          (subst (λ t. are_subidentifiers (not t) bs ≡ true) is tests.1) in
          let same : 0x80 + (b - 0x80) ≡ b = omega arith in
          rw (is, others, marked-more n (b - 0x80) some (omega (arith, p.0)), same, append_assoc) refl
    ]

-- ---- numbers have a content

read_digits : (n : ℕ) (ds : List ℕ) (d : ℕ) (bs : List ℕ) → AllBelowBase 128 ds → d < 128
    → numbers_after n (map (λ d. 0x80 + d) ds ++ (d ∷ bs)) ≡ (number_from_digits_after 128 n ds * 128 + d)
    ∷ numbers_after 0 bs
read_digits n [] d bs p h = rw (lt-ltb d 0x80 h) refl
read_digits n (c ∷ ds) d bs p h =
    let same : 0x80 + c - 0x80 ≡ c = omega arith in
    rw (le-ltb (0x80 + c) 0x80 (omega arith), same) (read_digits (n * 128 + c) ds d bs p.1 h)

-- read from the first byte
numbers-subidentifier : (n : ℕ) (bs : List ℕ) → numbers_after 0 (subidentifier n ++ bs) ≡ n ∷ numbers_after 0 bs
unfolding subidentifier marked
numbers-subidentifier n bs =
    let low : n % 128 < 128 = omega arith in
    let read = read_digits 0 (digits_of 128 (n / 128)) (n % 128) bs
    (all_below_base_digits_of 128 (n / 128) (omega arith)) low in
    let whole : number_from_digits 128 (digits_of 128 (n / 128)) * 128 + n % 128 ≡ n =
    omega (arith, number_digits_of 128 (n / 128) (omega arith)) in
    ap (numbers_after 0) (append_assoc (map (λ d. 0x80 + d) (digits_of 128 (n / 128))) (n % 128 ∷ []) bs) ∙ read
    ∙ ap (λ m. m ∷ numbers_after 0 bs) whole

pub numbers-content : (ns : List ℕ) → numbers_after 0 (subidentifiers ns) ≡ ns
numbers-content [] = refl
numbers-content (n ∷ ns) = numbers-subidentifier n (subidentifiers ns) ∙ ap (λ ms. n ∷ ms) (numbers-content ns)

-- each digit of a number is one that is allowed there
valid_digits : (ds : List ℕ) (d : ℕ) (bs : List ℕ) → AllBelowBase 128 ds → d < 128
    → are_subidentifiers true (map (λ d. 0x80 + d) ds ++ (d ∷ bs)) ≡ are_subidentifiers false bs
valid_digits [] d bs p h = rw (lt-ltb d 0x80 h) refl
valid_digits (c ∷ ds) d bs p h = rw (le-ltb (0x80 + c) 0x80 (omega arith)) (valid_digits ds d bs p.1 h)

valid_subidentifier : (n : ℕ) (bs : List ℕ)
    → are_subidentifiers false (subidentifier n ++ bs) ≡ are_subidentifiers false bs
unfolding subidentifier marked
valid_subidentifier n bs =
    let low : n % 128 < 128 = omega arith in
    ap (are_subidentifiers false) (append_assoc (map (λ d. 0x80 + d) (digits_of 128 (n / 128))) (n % 128 ∷ []) bs)
    ∙ by_digits (digits_of 128 (n / 128)) refl low
  where
    by_digits : (ds : List ℕ) → digits_of 128 (n / 128) ≡ ds → n % 128 < 128
        → are_subidentifiers false (map (λ d. 0x80 + d) ds ++ (n % 128 ∷ bs)) ≡ are_subidentifiers false bs
    by_digits [] e low = rw (lt-ltb (n % 128) 0x80 low, ne_eqb (n % 128) 0x80 (λ e. omega arith)) refl
    by_digits (c ∷ ds) e low =
        let p : AllBelowBase 128 (c ∷ ds) =
        subst (AllBelowBase 128) e (all_below_base_digits_of 128 (n / 128) (omega arith)) in
        let some : 0 < c = first_of (n / 128) c ds e in
        rw (ne_eqb (0x80 + c) 0x80 (λ e. omega arith), le-ltb (0x80 + c) 0x80 (omega arith))
        (valid_digits ds (n % 128) bs p.1 low)
      where
        first_of : (m c : ℕ) (ds : List ℕ) → digits_of 128 m ≡ c ∷ ds → 0 < c
        first_of zero c ds e = cc
        first_of (suc m) c ds e = let first = first_digits_of 128 (suc m) (omega arith) (omega arith) in rw e at first

pub valid_subidentifiers : (ns : List ℕ) → are_subidentifiers false (subidentifiers ns) ≡ true
valid_subidentifiers [] = refl
valid_subidentifiers (n ∷ ns) = valid_subidentifier n (subidentifiers ns) ∙ valid_subidentifiers ns

-- something is there
pub subidentifier-some : (n : ℕ) (bs : List ℕ)
    → is_subidentifiers (subidentifier n ++ bs) ≡ are_subidentifiers false (subidentifier n ++ bs)
unfolding subidentifier marked
subidentifier-some n bs = by_digits (map (λ d. 0x80 + d) (digits_of 128 (n / 128)))
  where
    by_digits : (ds : List ℕ) → is_subidentifiers ((ds ++ (n % 128 ∷ [])) ++ bs) ≡ are_subidentifiers false
        ((ds ++ (n % 128 ∷ [])) ++ bs)
    by_digits [] = refl
    by_digits (c ∷ ds) = refl
