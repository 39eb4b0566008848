-- A test that computes: whether the first byte distinguishes the members that may be absent from those that may come
-- instead.
use Rattle.std.specs.Prelude.{◌≡◌, ℕ, Bool, true, false, not, ◌&&◌, ◌||◌, ◌==◌, cond, List, [], ◌∷◌, ◌++◌, refl}
use Rattle.std.specs.List.{list_all, filter}
use Rattle.std.proofs.Common.{subst, sym, ◌∙◌, eqb-true}
use Rattle.std.proofs.lemmas.Bool.{and_parts}
use Rattle.picky_der_core.specs.Shape.{Layout, AreMembersDistinct, firsts, next_firsts, contains, are_disjoint}
use Rattle.picky_der_core.specs.Shape.{tags_below}
use Rattle.picky_der_de.specs.InjectiveLaws.{both}

-- None of these bytes begins the first of the members. After the last member nothing comes, and nothing has to be
-- distinguished.
abbrev pub is_disjoint : List ℕ → Layout → Bool
is_disjoint fs Layout.empty = true
is_disjoint fs (Layout.required s l) = are_disjoint fs (firsts s)
is_disjoint fs (Layout.maybe s l) = are_disjoint fs (firsts s) && is_disjoint fs l
is_disjoint fs (Layout.added l) = is_disjoint fs l
is_disjoint fs (Layout.others excluded) = list_all (contains excluded) fs

abbrev pub are_members_distinct : Layout → Bool
are_members_distinct Layout.empty = true
are_members_distinct (Layout.required s l) = are_members_distinct l
are_members_distinct (Layout.maybe s l) = is_disjoint (firsts s) l && are_members_distinct l
are_members_distinct (Layout.added l) = are_members_distinct l
are_members_distinct (Layout.others excluded) = true

-- ---- what it tests

disjoint_from_none : (fs : List ℕ) → are_disjoint fs [] ≡ true
disjoint_from_none [] = refl
disjoint_from_none (f ∷ fs) = disjoint_from_none fs

not_in_both : (f : ℕ) (gs hs : List ℕ) → not (contains gs f) ≡ true → not (contains hs f) ≡ true
    → not (contains (gs ++ hs) f) ≡ true
not_in_both f [] hs p q = q
not_in_both f (g ∷ gs) hs p q = by_first (f == g) p (λ r. not_in_both f gs hs r q)
  where
    by_first : (b : Bool) → not (b || contains gs f) ≡ true
        → (not (contains gs f) ≡ true → not (contains (gs ++ hs) f) ≡ true) → not (b || contains (gs ++ hs) f) ≡ true
    by_first true r next = cc
    by_first false r next = next r

disjoint_from_both : (fs gs hs : List ℕ) → are_disjoint fs gs ≡ true → are_disjoint fs hs ≡ true
    → are_disjoint fs (gs ++ hs) ≡ true
disjoint_from_both [] gs hs p q = refl
disjoint_from_both (f ∷ fs) gs hs p q =
    let a = and_parts (not (contains gs f)) (are_disjoint fs gs) p in
    let b = and_parts (not (contains hs f)) (are_disjoint fs hs) q in
    both (not_in_both f gs hs a.0 b.0) (disjoint_from_both fs gs hs a.1 b.1)

-- an excluded byte is none of the bytes that are left
pub excluded_not_left : (excluded : List ℕ) (x : ℕ) (xs : List ℕ) → contains excluded x ≡ true
    → not (contains (filter (λ b. not (contains excluded b)) xs) x) ≡ true
excluded_not_left excluded x [] h = refl
excluded_not_left excluded x (y ∷ ys) h = by_test (contains excluded y) refl (excluded_not_left excluded x ys h)
  where
    left : List ℕ
    left = filter (λ b. not (contains excluded b)) ys

    by_test : (b : Bool) → contains excluded y ≡ b → not (contains left x) ≡ true
        → not (contains (cond (not b) (y ∷ left) left) x) ≡ true
    by_test true e next = next
    by_test false e next = by_first (x == y) refl
      where
        by_first : (b : Bool) → (x == y) ≡ b → not (b || contains left x) ≡ true
        by_first true same =
            let is : contains excluded y ≡ true = subst (λ z. contains excluded z ≡ true) (eqb-true x y same) h in
            let never : true ≡ false = sym is ∙ e in
            cc
        by_first false same = next

disjoint_from_left : (excluded fs : List ℕ) → list_all (contains excluded) fs ≡ true
    → are_disjoint fs (filter (λ b. not (contains excluded b)) (tags_below 256)) ≡ true
disjoint_from_left excluded [] h = refl
disjoint_from_left excluded (f ∷ fs) h =
    let parts = and_parts (contains excluded f) (list_all (contains excluded) fs) h in
    both (excluded_not_left excluded f (tags_below 256) parts.0) (disjoint_from_left excluded fs parts.1)

disjoint_of : (fs : List ℕ) (l : Layout) → is_disjoint fs l ≡ true → are_disjoint fs (next_firsts l) ≡ true
disjoint_of fs Layout.empty h = disjoint_from_none fs
disjoint_of fs (Layout.required s l) h = h
disjoint_of fs (Layout.maybe s l) h =
    let parts = and_parts (are_disjoint fs (firsts s)) (is_disjoint fs l) h in
    disjoint_from_both fs (firsts s) (next_firsts l) parts.0 (disjoint_of fs l parts.1)
disjoint_of fs (Layout.added l) h = disjoint_of fs l h
disjoint_of fs (Layout.others excluded) h = disjoint_from_left excluded fs h

pub members_distinct : (l : Layout) → are_members_distinct l ≡ true → AreMembersDistinct l
members_distinct Layout.empty h = tt
members_distinct (Layout.required s l) h = members_distinct l h
members_distinct (Layout.maybe s l) h =
    let parts = and_parts (is_disjoint (firsts s) l) (are_members_distinct l) h in
    (disjoint_of (firsts s) l parts.0, members_distinct l parts.1)
members_distinct (Layout.added l) h = members_distinct l h
members_distinct (Layout.others excluded) h = tt
