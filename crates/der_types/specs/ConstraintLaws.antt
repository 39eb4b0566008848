-- What trees say of the sizes of values, and how numbers compare with bounds, each of which is an i128.
use Rattle.std.proofs.Common.{◌≡◌, ℕ, ◌^◌, ◌<◌, ℤ, pos, negsuc, Bool, true, false, not, List, [], ◌∷◌, length, map}
use Rattle.std.proofs.Common.{refl, sym, ap, ◌∙◌, arith, int_le, leb, nat_lt}
use Rattle.std.proofs.lemmas.Bool.Decides.{nat_tests}
use Rattle.std.specs.Int.{complement_if}
use Rattle.std.proofs.lemmas.Int.{ints}
use lib.IntN.{nat_abs}
use lib.Signed.{mag, ◌≤ℤ◌}
use Rattle.picky_der_core.specs.Tree.{ListKind, Tree, trees}
use Rattle.picky_der_ser.specs.Meaning.{list_meaning}
use Rattle.picky_der_core.specs.Integer.{content_bits, fits_signed, integer_value, is_negative}
use Rattle.der_types.specs.Constraints.{member_count, list_size}

members_counted : {V : Type 0} (meaning : V → Tree) (xs : List V) → member_count (trees (map meaning xs)) ≡ length xs
members_counted meaning [] = refl
members_counted meaning (x ∷ xs) = omega (arith, members_counted meaning xs)

pub same_length : {V : Type 0} (kind : ListKind) (meaning : V → Tree) (xs ys : List V)
    → list_meaning kind meaning xs ≡ list_meaning kind meaning ys → length xs ≡ length ys
same_length kind meaning xs ys e = sym (members_counted meaning xs) ∙ ap list_size e ∙ members_counted meaning ys

-- ---- numbers that no i128 is

-- whether a number is below zero
abbrev pub is_below_zero : ℤ → Bool
is_below_zero (pos n) = false
is_below_zero (negsuc n) = true

by_sign : (b : Bool) (n : ℕ) → is_below_zero (complement_if b n) ≡ b
by_sign true n = refl
by_sign false n = refl

-- its content says so
pub content_sign : (bs : List ℕ) → is_below_zero (integer_value bs) ≡ is_negative bs
content_sign bs = by_sign (is_negative bs) (content_bits bs)

le_beyond : (a n m : ℕ) → a < m → nat_lt n m ≡ false → leb a n ≡ true
le_beyond a n m small e = grind (arith, nat_tests)

beyond_le : (a n m : ℕ) → a < m → nat_lt n m ≡ false → leb n a ≡ false
beyond_le a n m small e = grind (arith, nat_tests)

-- it is above each i128, or else below zero and below each
pub unfit_is_above : (least z : ℤ) → mag least < 2 ^ 127 → fits_signed 128 z ≡ false
    → int_le least z ≡ not (is_below_zero z)
unfit_is_above (pos a) (pos n) small e = le_beyond a n (2 ^ 127) small e
unfit_is_above (pos a) (negsuc n) small e = refl
unfit_is_above (negsuc a) (pos n) small e = refl
unfit_is_above (negsuc a) (negsuc n) small e = beyond_le a n (2 ^ 127) small e

pub unfit_is_below : (most z : ℤ) → mag most < 2 ^ 127 → fits_signed 128 z ≡ false → int_le z most ≡ is_below_zero z
unfit_is_below (pos a) (pos n) small e = beyond_le a n (2 ^ 127) small e
unfit_is_below (pos a) (negsuc n) small e = refl
unfit_is_below (negsuc a) (pos n) small e = refl
unfit_is_below (negsuc a) (negsuc n) small e = le_beyond a n (2 ^ 127) small e

-- ---- numbers without a sign

-- beside a bound that has none either
pub unsigned_le : (z : ℤ) (n b : ℕ) → pos 0 ≤ℤ z → b ≡ nat_abs z → leb b n ≡ int_le z (pos n)
unsigned_le (pos m) n b h e = ap (λ k. leb k n) e
unsigned_le (negsuc m) n b h e = absurd h.le

pub unsigned_ge : (z : ℤ) (n b : ℕ) → pos 0 ≤ℤ z → b ≡ nat_abs z → leb n b ≡ int_le (pos n) z
unsigned_ge (pos m) n b h e = ap (leb n) e
unsigned_ge (negsuc m) n b h e = absurd h.le

-- beside a bound below zero
pub negative_le : (z : ℤ) (n : ℕ) → (pos 0 ≤ℤ z → ⊥) → true ≡ int_le z (pos n)
negative_le (pos m) n h = absurd (h (omega (arith, ints)))
negative_le (negsuc m) n h = refl

pub negative_ge : (z : ℤ) (n : ℕ) → (pos 0 ≤ℤ z → ⊥) → false ≡ int_le (pos n) z
negative_ge (pos m) n h = absurd (h (omega (arith, ints)))
negative_ge (negsuc m) n h = refl
