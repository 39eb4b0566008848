-- Defaults of members: what they say of themselves.
use Rattle.std.specs.Prelude.{◌≡◌, ℕ, ℤ, Bool, true, false, not, nat_eq, refl}
use Rattle.std.specs.Ordering.{int_eq}
use Rattle.std.proofs.Common.{ap, sym, ◌∙◌, eq-eqb, eqb-true}
use Rattle.std.proofs.lemmas.Bool.Decides.{Decides-int_eq}
use Rattle.picky_der_core.specs.declared.asn1.wrapper.Wrapper.{Wrapper}
use Rattle.picky_der_core.specs.Integer.{int_tree, unsigned_tree}
use Rattle.picky_der_core.specs.Primitive.{Primitive}
use Rattle.picky_der_core.specs.Tree.{Tree}
use Rattle.picky_der_ser.specs.Defaults.{IsByTree, numbers_by_tree, ints_by_tree, wrapped_by_tree}
use Rattle.der_types.specs.ExactMembers.{Default, IsDefault, ProvedDefault}
use Rattle.der_types.specs.NotationLaws.{false_value, true_value}

abbrev bool_tree : Bool → Tree
bool_tree b = Tree.primitive (Primitive.boolean b)

false_by_tree : IsByTree bool_tree not
false_by_tree true y h = cc
false_by_tree false true h = (λ k. cc, λ e. cc)
false_by_tree false false h = (λ k. refl, λ e. refl)

true_by_tree : IsByTree bool_tree (λ b. b)
true_by_tree true true h = (λ k. refl, λ e. refl)
true_by_tree true false h = (λ k. cc, λ e. cc)
true_by_tree false y h = cc

pub false_is : IsDefault bool_tree not (bool_tree false) false
false_is = record { by_tree = false_by_tree; is_value = false_value; is_one = refl }

pub true_is : IsDefault bool_tree (λ b. b) (bool_tree true) true
true_is = record { by_tree = true_by_tree; is_value = true_value; is_one = refl }

abbrev pub false_default : Default Bool
false_default = record { meaning = bool_tree; left_out = not; value = bool_tree false; one = false; is = false_is }

abbrev pub true_default : Default Bool
true_default = record { meaning = bool_tree; left_out = λ b. b; value = bool_tree true; one = true; is = true_is }

-- a number of an unsigned type, by the greatest that it has
pub number_is : (most n : ℕ) → IsDefault (unsigned_tree most) (λ x. nat_eq x n) (unsigned_tree most n) n
number_is most n =
    record {
      by_tree = numbers_by_tree most n;
      is_value = λ it h. ap (unsigned_tree most) (eqb-true it n h);
      is_one =
          eq-eqb n n refl;
    }

abbrev pub number_default : ℕ → ℕ → Default ℕ
number_default most n = record {
  meaning = unsigned_tree most;
  left_out = λ x. nat_eq x n;
  value = unsigned_tree most n;
  one = n;
  is = number_is most n;
}

-- one of a signed type
pub int_is : (fits : ℤ → Bool) (n : ℤ) → IsDefault (int_tree fits) (λ x. int_eq x n) (int_tree fits n) n
int_is fits n =
    record {
      by_tree = ints_by_tree fits n;
      is_value = λ it h. ap (int_tree fits) ((Decides-int_eq it n).0 h);
      is_one =
          (Decides-int_eq n n).1 refl;
    }

abbrev pub signed_default : (ℤ → Bool) → ℤ → Default ℤ
signed_default fits n = record {
  meaning = int_tree fits;
  left_out = λ x. int_eq x n;
  value = int_tree fits n;
  one =
      n;
  is = int_is fits n;
}

-- an item of an enumeration, or another value of which one is left out
abbrev pub item_default : {A : Type 0} (meaning : A → Tree) (left_out : A → Bool) (one : A) → IsByTree meaning left_out
    → left_out one ≡ true → Default A
item_default meaning left_out one by_tree is_one = record {
  meaning = meaning;
  left_out = left_out;
  value = meaning one;
  one = one;
  is = record { by_tree = by_tree; is_value = λ it h. sym ((by_tree one it is_one).0 h); is_one = is_one };
}

-- one in a wrapper
module _ {A V : Type 0} (w : Wrapper) (part : V → A) (whole : (x : A) → (v : V) × (part v ≡ x)) where
  pub wrapped_is : {means : A → Tree} {left_out : A → Bool} {value : Tree} {one : A}
      → IsDefault means left_out value one → IsDefault (λ v. Tree.wrapped w (means (part v))) (λ v. left_out (part v))
      (Tree.wrapped w value) (whole one).0
  wrapped_is {means} {left_out} {value} {one} d = record {
    by_tree = λ x y h. wrapped_by_tree w means left_out d.by_tree (part x) (part y) h;
    is_value = λ v h. ap (Tree.wrapped w) (d.is_value (part v) h);
    is_one = ap left_out (whole one).1 ∙ d.is_one;
  }

  abbrev pub wrapped_default : Default A → Default V
  wrapped_default d = record {
    meaning = λ v. Tree.wrapped w (d.meaning (part v));
    left_out = λ v. d.left_out (part v);
    value = Tree.wrapped w d.value;
    one = (whole d.one).0;
    is = wrapped_is d.is;
  }

  pub wrapped_proved : {d : Default A} {means : A → Tree} {left_out : A → Bool} {value : Tree}
      → ProvedDefault d means left_out value → ProvedDefault (wrapped_default d) (λ v. Tree.wrapped w (means (part v)))
      (λ v. left_out (part v)) (Tree.wrapped w value)
  wrapped_proved t = record {
    means = ap {B = V → Tree} (λ (m : A → Tree) v. Tree.wrapped w (m (part v))) t.means;
    leaves_out = ap {B = V → Bool} (λ (l : A → Bool) v. l (part v)) t.leaves_out;
    is_value = ap (Tree.wrapped w) t.is_value;
  }
