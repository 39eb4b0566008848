-- The order of INTEGERs.
use Rattle.std.proofs.Common.{refl, ap, sym, ◌∙◌}
use Rattle.std.specs.Prelude.{◌≡◌, ℕ, List, true, ◌==◌}
use Rattle.std.proofs.lemmas.Cmp.{int_cmp_total, tied_itself}
use Rattle.std.specs.Cmp.Lexicographic.{pointwise, slice_cmp, bytes_decides, texts_ties}
use Rattle.std.specs.declared.cmp.Ordering.{Ordering}
use Rattle.std.specs.declared.cmp.Ordering.TheVariants.{Less, Equal, Greater}
use Rattle.std.specs.Ordering.{nat_cmp, int_cmp, ordering_then, is_eq}
use Rattle.der_types.specs.IntegerOrder.{signed_length}

-- the second of two orders decides which values tie, where the first ties the same
last_decides : (o p : Ordering) → (is_eq p ≡ true → o ≡ Equal) → is_eq (ordering_then o p) ≡ is_eq p
last_decides Less Less h = refl
last_decides Less Equal h = ap is_eq (h refl)
last_decides Less Greater h = refl
last_decides Equal p h = refl
last_decides Greater Less h = refl
last_decides Greater Equal h = ap is_eq (h refl)
last_decides Greater Greater h = refl

-- contents tie exactly where they are equal
pub integer_ties : (xs ys : List ℕ) → pointwise ◌==◌ xs ys ≡ is_eq (ordering_then (int_cmp (signed_length xs)
    (signed_length ys)) (slice_cmp nat_cmp xs ys))
integer_ties xs ys =
    let ties : pointwise ◌==◌ xs ys ≡ is_eq (slice_cmp nat_cmp xs ys) = texts_ties xs ys in
    ties ∙ sym (last_decides (int_cmp (signed_length xs) (signed_length ys)) (slice_cmp nat_cmp xs ys)
    (λ e. same_lengths xs ys (ties ∙ e)))
  where
    same_lengths : (xs ys : List ℕ) → pointwise ◌==◌ xs ys ≡ true
        → int_cmp (signed_length xs) (signed_length ys) ≡ Equal
    same_lengths xs ys e =
        ap (λ zs. int_cmp (signed_length xs) (signed_length zs)) (sym ((bytes_decides xs ys).0 e))
        ∙ tied_itself int_cmp_total (signed_length xs)
