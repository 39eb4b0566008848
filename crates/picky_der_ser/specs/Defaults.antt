-- Values that are left out, as the default is.
use Rattle.std.proofs.Common.{◌≡◌, ℕ, ℤ, Bool, true, false, refl, nat_eq, ap, sym, ◌∙◌, eq-eqb, eqb-true}
use Rattle.std.specs.Prelude.{◌↔◌, IsTrue, not}
use Rattle.std.specs.Ordering.{int_eq}
use Rattle.std.proofs.lemmas.Bool.Decides.{Decides-int_eq}
use mathlib.Core.Bool.{beq}
use Rattle.picky_der_core.specs.declared.asn1.wrapper.Wrapper.{Wrapper}
use Rattle.picky_der_core.specs.Tree.{Tree}
use Rattle.picky_der_core.specs.Integer.{content_within, int_tree, unsigned_tree}
use Rattle.picky_der_core.specs.IntLaws.{same_within}
use Rattle.picky_der_core.specs.UnsignedTreeLaws.{unsigned_tree-same}

-- a value is the default exactly if it means the tree that the default means
abbrev pub IsByTree : {V : Type 0} → (V → Tree) → (V → Bool) → Type 0
IsByTree {V} meaning left_out = (x y : V) → IsTrue (left_out x) → IsTrue (left_out y) ↔ (meaning x ≡ meaning y)

-- all that are the default are equal
abbrev pub IsOne : {V : Type 0} → (V → V → Bool) → (V → Bool) → Type 0
IsOne {V} eq left_out = (x y : V) → IsTrue (left_out x) → IsTrue (left_out y) → IsTrue (eq x y)

-- numbers of an unsigned type, by the greatest that it has
pub numbers_by_tree : (most n : ℕ) → IsByTree (unsigned_tree most) (λ x. nat_eq x n)
numbers_by_tree most n x y h =
    let x_is : x ≡ n = eqb-true x n h in (
      λ k. ap (unsigned_tree most) (x_is ∙ sym (eqb-true y n k)),
      λ e. eq-eqb y n (sym (unsigned_tree-same most x y e) ∙ x_is),
    )

pub one_number : (n : ℕ) → IsOne nat_eq (λ x. nat_eq x n)
one_number n x y h k = eq-eqb x y (eqb-true x n h ∙ sym (eqb-true y n k))

-- numbers of an integer type
pub ints_by_tree : (fits : ℤ → Bool) (n : ℤ) → IsByTree (int_tree fits) (λ x. int_eq x n)
ints_by_tree fits n x y h =
    let x_is : x ≡ n = (Decides-int_eq x n).0 h in (
      λ k. ap (int_tree fits) (x_is ∙ sym ((Decides-int_eq y n).0 k)),
      λ e. let same : content_within fits x
          ≡ content_within fits y = cc in (Decides-int_eq y n).1 (sym (same_within fits x y same) ∙ x_is),
    )

pub one_int : (n : ℤ) → IsOne int_eq (λ x. int_eq x n)
one_int n x y h k = (Decides-int_eq x y).1 ((Decides-int_eq x n).0 h ∙ sym ((Decides-int_eq y n).0 k))

pub one_false : IsOne beq not
one_false true y h k = cc
one_false false true h k = cc
one_false false false h k = refl

pub one_true : IsOne beq (λ value. value)
one_true true true h k = refl
one_true true false h k = cc
one_true false y h k = cc

-- a wrapper keeps trees apart
wrapped_injective : (w : Wrapper) (t u : Tree) → Tree.wrapped w t ≡ Tree.wrapped w u → t ≡ u
wrapped_injective w t u e = cc

-- a default is one in a wrapper, too
pub wrapped_by_tree : (w : Wrapper) {V : Type 0} (meaning : V → Tree) (left_out : V → Bool) → IsByTree meaning left_out
    → (x y : V) → IsTrue (left_out x) → IsTrue (left_out y) ↔ (Tree.wrapped w (meaning x) ≡ Tree.wrapped w (meaning y))
wrapped_by_tree w meaning left_out h x y d =
    (λ e. ap (Tree.wrapped w) ((h x y d).0 e), λ e. (h x y d).1 (wrapped_injective w (meaning x) (meaning y) e))
