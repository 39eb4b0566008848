-- INTEGERs are in the order of their numbers.
use Rattle.std.proofs.Common.{◌≡◌, ℕ, zero, suc, ◌+◌, ◌-◌, ◌*◌, ◌<◌, ◌≤◌, Bool, true, false, List, [], ◌∷◌, length, pos}
use Rattle.std.proofs.Common.{negsuc}
use Rattle.std.proofs.Common.{not, ◌==◌, cond, refl, sym, ap, ap₂, subst, ◌∙◌, arith, inl, inr, lt-ltb, le-ltb, ne_eqb}
use Rattle.std.proofs.lemmas.Bool.{cases_lt}
use Rattle.std.proofs.lemmas.Bool.Decides.{nat_tests}
use Rattle.std.proofs.lemmas.List.{length-map}
use Rattle.std.specs.Cmp.{nat_cmp_total}
use Rattle.std.specs.Cmp.Lexicographic.{slice_cmp}
use Rattle.std.specs.declared.cmp.Ordering.{Ordering}
use Rattle.std.specs.declared.cmp.Ordering.TheVariants.{Less, Equal, Greater}
use Rattle.std.specs.Int.{complement_if}
use Rattle.std.specs.Int.Digits.{number_from_digits, number_from_digits_after}
use Rattle.std.specs.Ordering.{nat_cmp, int_cmp, ordering_then, ordering_reverse}
use Rattle.picky_der_core.specs.Element.{AreBytes}
use Rattle.picky_der_core.specs.Integer.{is_integer, is_negative, integer_value, turned_byte, turned_if}
use Rattle.picky_der_core.specs.IntegerLaws.{AreBytes-turned, unturned}
use Rattle.der_types.specs.CalendarLaws.{added, cmp_parts, equal, greater, less, then_assoc, when_equal, when_greater}
use Rattle.der_types.specs.CalendarLaws.{when_less}
use Rattle.der_types.specs.IntegerOrder.{signed_length}

-- ---- the number of a content whose first byte is known

value_as : (bs : List ℕ) (t : Bool) → is_negative bs ≡ t
    → integer_value bs ≡ complement_if t (number_from_digits 256 (turned_if t bs))
value_as bs t e = ap (λ t. complement_if t (number_from_digits 256 (turned_if t bs))) e

value_low : (x : ℕ) (xs : List ℕ) → x < 0x80 → integer_value (x ∷ xs) ≡ pos (number_from_digits 256 (x ∷ xs))
value_low x xs low = value_as (x ∷ xs) false (rw (lt-ltb x 0x80 low) refl)
    ∙ ap (λ ds. pos (number_from_digits 256 ds)) (unturned (x ∷ xs))

value_high : (x : ℕ) (xs : List ℕ) → 0x80 ≤ x
    → integer_value (x ∷ xs) ≡ negsuc (number_from_digits 256 (turned_if true (x ∷ xs)))
value_high x xs high = value_as (x ∷ xs) true (rw (le-ltb x 0x80 high) refl)

-- with inverted bits, it is that of a number that isn't negative
turned_valid : (x : ℕ) (xs : List ℕ) → 0x80 ≤ x → AreBytes (x ∷ xs) → is_integer (x ∷ xs) ≡ true
    → is_integer (turned_if true (x ∷ xs)) ≡ true
turned_valid x [] high p e = refl
turned_valid x (y ∷ xs) high p e = elim (cases_lt y 0x80) [
  | inl small ↦ rw (le-ltb (0xFF - y) 0x80 (omega arith), ne_eqb (0xFF - x) 0xFF (λ e. omega arith)) refl
  | inr large ↦
      let other : not (x == 0xFF) ≡ true =
      subst (λ t. cond t (not (x == 0x00)) (not (x == 0xFF)) ≡ true) (le-ltb y 0x80 large) e in
      rw (lt-ltb (0xFF - y) 0x80 (omega (arith, p.1.0))) (grind (arith, nat_tests))
]

-- ---- of as many bytes

then_none : (o : Ordering) → o ≡ ordering_then o Equal
then_none Less = refl
then_none Equal = refl
then_none Greater = refl

-- the number before the digits decides, and then the first digits that differ
cmp_after : (n m : ℕ) (xs ys : List ℕ) → length xs ≡ length ys → AreBytes xs → AreBytes ys
    → nat_cmp (number_from_digits_after 256 n xs) (number_from_digits_after 256 m ys)
    ≡ ordering_then (nat_cmp n m) (slice_cmp nat_cmp xs ys)
cmp_after n m [] [] e p q = then_none (nat_cmp n m)
cmp_after n m [] (y ∷ ys) e p q = absurd (omega (arith, e))
cmp_after n m (x ∷ xs) [] e p q = absurd (omega (arith, e))
cmp_after n m (x ∷ xs) (y ∷ ys) e p q =
    cmp_after (n * 256 + x) (m * 256 + y) xs ys (omega (arith, e)) p.1 q.1
    ∙ ap (λ o. ordering_then o (slice_cmp nat_cmp xs ys)) (cmp_parts 256 n m x y p.0 q.0)
    ∙ then_assoc (nat_cmp n m) (nat_cmp x y) (slice_cmp nat_cmp xs ys)

cmp_bytes : (xs ys : List ℕ) → length xs ≡ length ys → AreBytes xs → AreBytes ys
    → nat_cmp (number_from_digits 256 xs) (number_from_digits 256 ys) ≡ slice_cmp nat_cmp xs ys
cmp_bytes xs ys e p q = cmp_after 0 0 xs ys e p q

-- ---- of fewer bytes

-- zeros in front change no number
abbrev zeros : ℕ → List ℕ → List ℕ
zeros zero xs = xs
zeros (suc k) xs = 0 ∷ zeros k xs

number-zeros : (k : ℕ) (xs : List ℕ) → number_from_digits 256 (zeros k xs) ≡ number_from_digits 256 xs
number-zeros zero xs = refl
number-zeros (suc k) xs = number-zeros k xs

length-zeros : (k : ℕ) (xs : List ℕ) → length (zeros k xs) ≡ k + length xs
length-zeros zero xs = omega arith
length-zeros (suc k) xs = omega (arith, length-zeros k xs)

AreBytes-zeros : (k : ℕ) (xs : List ℕ) → AreBytes xs → AreBytes (zeros k xs)
AreBytes-zeros zero xs p = p
AreBytes-zeros (suc k) xs p = (omega arith, AreBytes-zeros k xs p)

second_less : (k x z : ℕ) (xs zs : List ℕ) → x < 0x80 → 0x80 ≤ z
    → slice_cmp nat_cmp (zeros k (x ∷ xs)) (z ∷ zs) ≡ Less
second_less zero x z xs zs low high = when_less x z (slice_cmp nat_cmp xs zs) (omega (arith, low, high))
second_less (suc k) x z xs zs low high = when_less 0 z (slice_cmp nat_cmp (zeros k (x ∷ xs)) zs) (omega (arith, high))

first_less : (k x y : ℕ) (xs ys : List ℕ) → x < 0x80 → is_integer (y ∷ ys) ≡ true → 0 < length ys
    → slice_cmp nat_cmp (0 ∷ zeros k (x ∷ xs)) (y ∷ ys) ≡ Less
first_less k x (suc y) xs ys low e n = when_less 0 (suc y) (slice_cmp nat_cmp (zeros k (x ∷ xs)) ys) (omega arith)
first_less k x zero xs [] low e n = absurd (omega (arith, n))
first_less k x zero xs (z ∷ zs) low e n = elim (cases_lt z 0x80) [
  | inl small ↦ let q : true ≡ false = sym e ∙ rw (lt-ltb z 0x80 small) refl in cc
  | inr high ↦ second_less k x z xs zs low high
]

fewer : (x y : ℕ) (xs ys : List ℕ) → x < 0x80 → is_integer (y ∷ ys) ≡ true → AreBytes (x ∷ xs) → AreBytes (y ∷ ys)
    → length (x ∷ xs) < length (y ∷ ys)
    → nat_cmp (number_from_digits 256 (x ∷ xs)) (number_from_digits 256 (y ∷ ys)) ≡ Less
fewer x y xs ys low e p q h =
    let k = length ys - length xs - 1 in
    let long : length (zeros (suc k) (x ∷ xs)) ≡ length (y ∷ ys) = length-zeros (suc k) (x ∷ xs) ∙ omega (arith, h) in
    ap (λ n. nat_cmp n (number_from_digits 256 (y ∷ ys))) (sym (number-zeros (suc k) (x ∷ xs)))
    ∙ cmp_bytes (zeros (suc k) (x ∷ xs)) (y ∷ ys) long (AreBytes-zeros (suc k) (x ∷ xs) p) q
    ∙ first_less k x y xs ys low e (omega (arith, h))

-- ---- of numbers that aren't negative

turned_order : (m n : ℕ) → nat_cmp n m ≡ Less → nat_cmp m n ≡ Greater
turned_order m n e = nat_cmp_total.antisymm m n ∙ ap ordering_reverse e

positive_order : (x y : ℕ) (xs ys : List ℕ) → x < 0x80 → y < 0x80 → is_integer (x ∷ xs) ≡ true
    → is_integer (y ∷ ys) ≡ true → AreBytes (x ∷ xs) → AreBytes (y ∷ ys)
    → ordering_then (nat_cmp (length (x ∷ xs)) (length (y ∷ ys))) (slice_cmp nat_cmp (x ∷ xs) (y ∷ ys))
    ≡ nat_cmp (number_from_digits 256 (x ∷ xs)) (number_from_digits 256 (y ∷ ys))
positive_order x y xs ys low small e f p q =
    let bytes = slice_cmp nat_cmp (x ∷ xs) (y ∷ ys) in
    elim (cases_lt (length (x ∷ xs)) (length (y ∷ ys))) [
      | inl h ↦ when_less (length (x ∷ xs)) (length (y ∷ ys)) bytes h ∙ sym (fewer x y xs ys low f p q h)
      | inr h ↦ elim (cases_lt (length (y ∷ ys)) (length (x ∷ xs))) [
        | inl k ↦
            when_greater (length (x ∷ xs)) (length (y ∷ ys)) bytes k
            ∙ sym (turned_order (number_from_digits 256 (x ∷ xs)) (number_from_digits 256 (y ∷ ys))
            (fewer y x ys xs small e q p k))
        | inr k ↦
            let same : length (x ∷ xs) ≡ length (y ∷ ys) = omega (arith, h, k) in
            when_equal (length (x ∷ xs)) (length (y ∷ ys)) bytes same ∙ sym (cmp_bytes (x ∷ xs) (y ∷ ys) same p q)
      ]
    ]

-- ---- of all numbers

turned_digits : (x y : ℕ) → x < 256 → y < 256 → nat_cmp (0xFF - y) (0xFF - x) ≡ nat_cmp x y
turned_digits x y p q = elim (cases_lt x y) [
  | inl h ↦ less (0xFF - y) (0xFF - x) (omega (arith, p, q, h)) ∙ sym (less x y h)
  | inr h ↦ elim (cases_lt y x) [
    | inl k ↦ greater (0xFF - y) (0xFF - x) (omega (arith, p, q, k)) ∙ sym (greater x y k)
    | inr k ↦ equal (0xFF - y) (0xFF - x) (omega (arith, p, q, h, k)) ∙ sym (equal x y (omega (arith, h, k)))
  ]
]

turned_bytes : (xs ys : List ℕ) → length xs ≡ length ys → AreBytes xs → AreBytes ys
    → slice_cmp nat_cmp (turned_if true ys) (turned_if true xs) ≡ slice_cmp nat_cmp xs ys
turned_bytes [] [] e p q = refl
turned_bytes [] (y ∷ ys) e p q = absurd (omega (arith, e))
turned_bytes (x ∷ xs) [] e p q = absurd (omega (arith, e))
turned_bytes (x ∷ xs) (y ∷ ys) e p q =
    ap₂ ordering_then (turned_digits x y p.0 q.0) (turned_bytes xs ys (omega (arith, e)) p.1 q.1)

-- what comes after a comparison of numbers counts only where they are equal
then_same : (a b : ℕ) (o r : Ordering) → (a ≡ b → o ≡ r)
    → ordering_then (nat_cmp a b) o ≡ ordering_then (nat_cmp a b) r
then_same a b o r e = elim (cases_lt a b) [
  | inl h ↦ when_less a b o h ∙ sym (when_less a b r h)
  | inr h ↦ elim (cases_lt b a) [
    | inl k ↦ when_greater a b o k ∙ sym (when_greater a b r k)
    | inr k ↦
        let same : a ≡ b = omega (arith, h, k) in
        when_equal a b o same ∙ e same ∙ sym (when_equal a b r same)
  ]
]

one_more : (x : ℕ) (xs : List ℕ) → 1 + length xs ≡ length (x ∷ xs)
one_more x xs = omega arith

negative_order : (x y : ℕ) (xs ys : List ℕ) → 0x80 ≤ x → 0x80 ≤ y → is_integer (x ∷ xs) ≡ true
    → is_integer (y ∷ ys) ≡ true → AreBytes (x ∷ xs) → AreBytes (y ∷ ys)
    → ordering_then (nat_cmp (length ys) (length xs)) (slice_cmp nat_cmp (x ∷ xs) (y ∷ ys))
    ≡ nat_cmp (number_from_digits 256 (turned_if true (y ∷ ys))) (number_from_digits 256 (turned_if true (x ∷ xs)))
negative_order x y xs ys high large e f p q =
    let us = turned_if true xs in
    let vs = turned_if true ys in
    let whole : ordering_then (nat_cmp (length ((0xFF - y) ∷ vs)) (length ((0xFF - x) ∷ us)))
    (slice_cmp nat_cmp ((0xFF - y) ∷ vs) ((0xFF - x) ∷ us))
    ≡ nat_cmp (number_from_digits 256 ((0xFF - y) ∷ vs)) (number_from_digits 256 ((0xFF - x) ∷ us)) =
    positive_order (0xFF - y) (0xFF - x) vs us (omega (arith, q.0)) (omega (arith, p.0))
    (turned_valid y ys large q f) (turned_valid x xs high p e) (AreBytes-turned (y ∷ ys))
    (AreBytes-turned (x ∷ xs)) in
    then_same (length ys) (length xs) (slice_cmp nat_cmp (x ∷ xs) (y ∷ ys))
    (slice_cmp nat_cmp ((0xFF - y) ∷ vs) ((0xFF - x) ∷ us))
    (λ same. sym (turned_bytes (x ∷ xs) (y ∷ ys) (ap suc (sym same)) p q))
    ∙ ap₂ (λ m n. ordering_then (nat_cmp m n) (slice_cmp nat_cmp ((0xFF - y) ∷ vs) ((0xFF - x) ∷ us)))
    (sym (length-map ys (turned_byte true))) (sym (length-map xs (turned_byte true)))
    ∙ ap (λ o. ordering_then o (slice_cmp nat_cmp ((0xFF - y) ∷ vs) ((0xFF - x) ∷ us)))
    (sym (added 1 1 (length vs) (length us) refl))
    ∙ ap₂ (λ m n. ordering_then (nat_cmp m n) (slice_cmp nat_cmp ((0xFF - y) ∷ vs) ((0xFF - x) ∷ us)))
    (one_more (0xFF - y) vs) (one_more (0xFF - x) us)
    ∙ whole

-- ---- signs

positive_cmp : (a b : ℕ) → int_cmp (pos a) (pos b) ≡ nat_cmp a b
positive_cmp a b = elim (cases_lt a b) [
  | inl h ↦
      let it : int_cmp (pos a) (pos b) ≡ Less = rw (lt-ltb a b h) refl in
      it ∙ sym (less a b h)
  | inr h ↦ elim (cases_lt b a) [
    | inl k ↦
        let it : int_cmp (pos a) (pos b) ≡ Greater = rw (le-ltb a b h, lt-ltb b a k) refl in
        it ∙ sym (greater a b k)
    | inr k ↦
        let it : int_cmp (pos a) (pos b) ≡ Equal = rw (le-ltb a b h, le-ltb b a k) refl in
        it ∙ sym (equal a b (omega (arith, h, k)))
  ]
]

negative_cmp : (a b : ℕ) → int_cmp (negsuc a) (negsuc b) ≡ nat_cmp b a
negative_cmp a b = elim (cases_lt b a) [
  | inl h ↦
      let it : int_cmp (negsuc a) (negsuc b) ≡ Less = rw (lt-ltb b a h) refl in
      it ∙ sym (less b a h)
  | inr h ↦ elim (cases_lt a b) [
    | inl k ↦
        let it : int_cmp (negsuc a) (negsuc b) ≡ Greater = rw (le-ltb b a h, lt-ltb a b k) refl in
        it ∙ sym (greater b a k)
    | inr k ↦
        let it : int_cmp (negsuc a) (negsuc b) ≡ Equal = rw (le-ltb b a h, le-ltb a b k) refl in
        it ∙ sym (equal b a (omega (arith, h, k)))
  ]
]

signed_low : (x : ℕ) (xs : List ℕ) → x < 0x80 → signed_length (x ∷ xs) ≡ pos (length (x ∷ xs))
signed_low x xs low = rw (lt-ltb x 0x80 low) refl

signed_high : (x : ℕ) (xs : List ℕ) → 0x80 ≤ x → signed_length (x ∷ xs) ≡ negsuc (length xs)
signed_high x xs high = rw (le-ltb x 0x80 high) refl

-- ---- of all contents

pub integer_order : (xs ys : List ℕ) → is_integer xs ≡ true → is_integer ys ≡ true → AreBytes xs → AreBytes ys
    → ordering_then (int_cmp (signed_length xs) (signed_length ys)) (slice_cmp nat_cmp xs ys)
    ≡ int_cmp (integer_value xs) (integer_value ys)
integer_order [] ys e f p q = cc
integer_order (x ∷ xs) [] e f p q = cc
integer_order (x ∷ xs) (y ∷ ys) e f p q =
    let bytes = slice_cmp nat_cmp (x ∷ xs) (y ∷ ys) in
    elim (cases_lt x 0x80) [
      | inl low ↦ elim (cases_lt y 0x80) [
        | inl small ↦
            ap₂ (λ m n. ordering_then (int_cmp m n) bytes) (signed_low x xs low) (signed_low y ys small)
            ∙ ap (λ o. ordering_then o bytes) (positive_cmp (length (x ∷ xs)) (length (y ∷ ys)))
            ∙ positive_order x y xs ys low small e f p q
            ∙ sym (positive_cmp (number_from_digits 256 (x ∷ xs)) (number_from_digits 256 (y ∷ ys)))
            ∙ sym (ap₂ int_cmp (value_low x xs low) (value_low y ys small))
        | inr large ↦
            ap₂ (λ m n. ordering_then (int_cmp m n) bytes) (signed_low x xs low) (signed_high y ys large)
            ∙ sym (ap₂ int_cmp (value_low x xs low) (value_high y ys large))
      ]
      | inr high ↦ elim (cases_lt y 0x80) [
        | inl small ↦
            ap₂ (λ m n. ordering_then (int_cmp m n) bytes) (signed_high x xs high) (signed_low y ys small)
            ∙ sym (ap₂ int_cmp (value_high x xs high) (value_low y ys small))
        | inr large ↦
            ap₂ (λ m n. ordering_then (int_cmp m n) bytes) (signed_high x xs high) (signed_high y ys large)
            ∙ ap (λ o. ordering_then o bytes) (negative_cmp (length xs) (length ys))
            ∙ negative_order x y xs ys high large e f p q
            ∙ sym (negative_cmp (number_from_digits 256 (turned_if true (x ∷ xs)))
            (number_from_digits 256 (turned_if true (y ∷ ys))))
            ∙ sym (ap₂ int_cmp (value_high x xs high) (value_high y ys large))
      ]
    ]
