-- Arrays: a SEQUENCE of as many members as there are slots, all of one type.
use Rattle.std.specs.Prelude.{◌≡◌, ℕ, zero, suc, ◌==◌, Bool, true, false, List, [], ◌∷◌, length, map, refl}
use Rattle.std.proofs.Common.{sym, ap, ◌∙◌, subst, arith, eqb-true, eq-eqb}
use Rattle.picky_der_core.specs.Readable.{AreReadable}
use Rattle.picky_der_core.specs.Shape.{Shape, Layout}
use Rattle.picky_der_core.specs.Tree.{ListKind, Tree, Trees, trees}
use Rattle.picky_der_ser.specs.Meaning.{if_as_many, array_meaning}
use Rattle.picky_der_de.specs.ArrayLaws.{times}
use Rattle.der_types.specs.Notation.{Notation, Member, Members, shape_of, layout_of}
use Rattle.der_types.specs.Denotes.{Denotes, DenoteMembers, EachIsShort}
use Rattle.der_types.specs.Exact.{IsExact, Values, made_exact, values_by}

-- so many members of this type
abbrev pub repeated : ℕ → Notation → Members
repeated zero t = Members.end
repeated (suc n) t = Members.member (Member.required t) (repeated n t)

pub repeated_layout : (n : ℕ) {s : Shape} (t : Notation) → s ≡ shape_of t → times n s ≡ layout_of (repeated n t)
repeated_layout zero t e = refl
repeated_layout (suc n) {s} t e = ap (λ x. Layout.required x (times n s)) e
    ∙ ap (Layout.required (shape_of t)) (repeated_layout n t e)

module _ {A : Type 0} (n : Notation) (means : A → Tree) (is : IsExact (Denotes n) means) where
  slots_sound : (k : ℕ) (xs : List A) → length xs ≡ k → AreReadable (trees (map means xs))
      → DenoteMembers (repeated k n) (trees (map means xs))
  slots_sound zero [] e r = tt
  slots_sound zero (x ∷ xs) e r = absurd (omega (arith, e))
  slots_sound (suc k) [] e r = absurd (omega (arith, e))
  slots_sound (suc k) (x ∷ xs) e r = (is.sound x r.0, slots_sound k xs (omega (arith, e)) r.1)

  slots_made : (k : ℕ) (ts : Trees) → DenoteMembers (repeated k n) ts → AreReadable ts → EachIsShort ts
      → (xs : List A) × (length xs ≡ k) × (trees (map means xs) ≡ ts)
  slots_made zero Trees.none d r s = ([], refl, refl)
  slots_made zero (Trees.more t ts) d r s = absurd d
  slots_made (suc k) Trees.none d r s = absurd d
  slots_made (suc k) (Trees.more t ts) d r s =
      let x = is.complete t d.0 r.0 s.0 in
      let xs = slots_made k ts d.1 r.1 s.1 in
      (x.0 ∷ xs.0, omega (arith, xs.1), ap (λ u. Trees.more u (trees (map means xs.0))) x.1 ∙ ap (Trees.more t) xs.2)

  -- a readable array has as many values as slots
  all_there : (b : Bool) (ts : Trees) → AreReadable (if_as_many b ts) → (b ≡ true) × (if_as_many b ts ≡ ts)
  all_there true ts r = (refl, refl)
  all_there false ts r = absurd r.0

  pub array_exact : (k : ℕ) → IsExact (Denotes (Notation.sequence (repeated k n))) (array_meaning k means)
  array_exact k =
      made_exact (Tree.list ListKind.sequence) (DenoteMembers (repeated k n))
      (λ xs. if_as_many (length xs == k) (trees (map means xs)))
      (λ xs r.
      let there = all_there (length xs == k) (trees (map means xs)) r.1 in
      subst (DenoteMembers (repeated k n)) (sym there.1)
      (slots_sound k xs (eqb-true (length xs) k there.0) (subst AreReadable there.1 r.1)))
      (λ ts d r s.
      let xs = slots_made k ts d r.1 s.1 in
      (xs.0, ap (λ b. if_as_many b (trees (map means xs.0))) (eq-eqb (length xs.0) k xs.1) ∙ xs.2))

module _ {A : Type 0} (a : Values A) (n : Notation) (means : A → Tree) where
  -- an array of so many values
  abbrev pub array_values : ℕ → Values (List A)
  array_values k = values_by a n means (Notation.sequence (repeated k n)) (array_meaning k means)
      (λ is. array_exact n means is k)
