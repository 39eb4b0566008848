-- Arrays: as many members of one shape as there are slots.
use Rattle.std.proofs.Common.{◌≡◌, ℕ, zero, suc, List, [], ◌∷◌, length, ◌==◌, Bool, true, false, map, refl, sym, ap}
use Rattle.std.proofs.Common.{subst, ◌∙◌, arith, eqb-true, eq-eqb}
use lib.Pointwise.{pointwise}
use Rattle.picky_der_core.specs.Tree.{ListKind, Tree, Trees, trees}
use Rattle.picky_der_core.specs.Readable.{IsReadable, AreReadable}
use Rattle.picky_der_core.specs.Shape.{Shape, IsOf, AreMembersOf, EachIs, IsSound, Layout, AreMembersSound}
use Rattle.picky_der_core.specs.Shape.{AreMembersDistinct}
use Rattle.picky_der_ser.specs.Meaning.{list_meaning, if_as_many, array_meaning}
use Rattle.picky_der_de.specs.InjectiveLaws.{IsInjective, HasShape, list_injective}

-- so many members of this shape
abbrev pub times : ℕ → Shape → Layout
times zero s = Layout.empty
times (suc n) s = Layout.required s (times n s)

-- the shape of an array with so many slots
abbrev pub array_of : ℕ → Shape → Shape
array_of n s = Shape.fields ListKind.sequence (times n s)

slots_sound : (n : ℕ) (s : Shape) → IsSound s → AreMembersSound (times n s)
slots_sound zero s h = tt
slots_sound (suc n) s h = (h, slots_sound n s h)

slots_distinct : (n : ℕ) (s : Shape) → AreMembersDistinct (times n s)
slots_distinct zero s = tt
slots_distinct (suc n) s = slots_distinct n s

pub array_sound : (n : ℕ) (s : Shape) → IsSound s → IsSound (array_of n s)
array_sound n s h = (slots_sound n s h, slots_distinct n s)

-- each is of that shape
pub slots_each : (n : ℕ) (s : Shape) (ts : Trees) → AreMembersOf (times n s) ts → EachIs (IsOf s) ts
slots_each zero s Trees.none h = tt
slots_each zero s (Trees.more t ts) h = absurd h
slots_each (suc n) s Trees.none h = absurd h
slots_each (suc n) s (Trees.more t ts) h = (h.0, slots_each n s ts h.1)

-- so many that are each of that shape
pub slots_of_shape : {V : Type 0} (meaning : V → Tree) (s : Shape) → HasShape meaning s → (n : ℕ) (vs : List V)
    → length vs ≡ n → AreReadable (trees (map meaning vs)) → AreMembersOf (times n s) (trees (map meaning vs))
slots_of_shape meaning s has zero [] e r = tt
slots_of_shape meaning s has zero (v ∷ vs) e r = absurd (omega (arith, e))
slots_of_shape meaning s has (suc n) [] e r = absurd (omega (arith, e))
slots_of_shape meaning s has (suc n) (v ∷ vs) e r =
    (has v r.0, slots_of_shape meaning s has n vs (omega (arith, e)) r.1)

-- readable members are the members of an array with as many slots
there : (t : Bool) (ts : Trees) → AreReadable (if_as_many t ts) → if_as_many t ts ≡ ts
there true ts r = refl
there false ts r = absurd r.0

as_many : (t : Bool) (ts : Trees) → AreReadable (if_as_many t ts) → t ≡ true
as_many true ts r = refl
as_many false ts r = absurd r.0

-- so an array means the list of its values
pub array_meaning-list : {V : Type 0} (meaning : V → Tree) (n : ℕ) (vs : List V) → length vs ≡ n
    → array_meaning n meaning vs ≡ list_meaning ListKind.sequence meaning vs
array_meaning-list meaning n vs e = rw (eq-eqb (length vs) n e) refl

pub array_meaning-readable : {V : Type 0} (meaning : V → Tree) (n : ℕ) (vs : List V)
    → IsReadable (array_meaning n meaning vs) → array_meaning n meaning vs ≡ list_meaning ListKind.sequence meaning vs
array_meaning-readable meaning n vs r =
    ap (Tree.list ListKind.sequence) (there (length vs == n) (trees (map meaning vs)) r.1)

module _ {V : Type 0} (meaning : V → Tree) (s : Shape) (n : ℕ) where
  pub array_has_shape : HasShape meaning s → HasShape (array_meaning n meaning) (array_of n s)
  array_has_shape has vs r =
      let ts = trees (map meaning vs) in
      let same = there (length vs == n) ts r.1 in
      let full : length vs ≡ n = eqb-true (length vs) n (as_many (length vs == n) ts r.1) in (
        refl,
        subst (AreMembersOf (times n s)) (sym same)
            (slots_of_shape meaning s has n vs full (subst AreReadable same r.1)),
      )

  -- arrays of values that are known by their trees
  pub array_injective : (eq : V → V → Bool) → IsInjective meaning s eq
      → IsInjective (array_meaning n meaning) (array_of n s) (pointwise eq)
  array_injective eq known xs ys p q r e =
      let f : if_as_many (length xs == n) (trees (map meaning xs))
      ≡ if_as_many (length ys == n) (trees (map meaning ys)) = cc in
      let x = there (length xs == n) (trees (map meaning xs)) r.1 in
      let y = there (length ys == n) (trees (map meaning ys)) (subst AreReadable f r.1) in
      list_injective meaning s eq known {k = ListKind.sequence} {l = ListKind.sequence} xs ys
      (slots_each n s _ (subst (AreMembersOf (times n s)) x p.1))
      (slots_each n s _ (subst (AreMembersOf (times n s)) y q.1)) (subst AreReadable x r.1)
      (ap (Tree.list ListKind.sequence) (sym x ∙ f ∙ y))
