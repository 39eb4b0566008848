-- The bytes that are still to be looked at.
use Rattle.std.proofs.Common.{◌≡◌, ℕ, ◌+◌, ◌<◌, ◌==◌, Bool, true, false, List, [], ◌∷◌, ◌++◌, length}
use Rattle.std.proofs.Common.{refl, sym, ap, subst, ◌∙◌, arith, eqb-true}
use Rattle.std.specs.Prelude.{◌↔◌}
use Rattle.std.specs.Borrow.{Bor}
use Rattle.picky_der_core.specs.Tag.{is_constructed}
use Rattle.der_elements.specs.Fronts.{IsFront}
use Rattle.der_types.specs.WellFormed.{is_identifier, AreWellFormed}
use Rattle.der_elements.proofs.WellFormedLemmas.{by_primitive, by_constructed, front_longer}

pub none_left : (xs : List ℕ) (b : Bool) → b ≡ (length xs == 0) → b ≡ true → xs ≡ []
none_left [] b e h = refl
none_left (x ∷ xs) b e h = absurd (omega (arith, eqb-true (length (x ∷ xs)) 0 (sym e ∙ h)))

pub some_left : (xs : List ℕ) (b : Bool) → b ≡ (length xs == 0) → b ≡ false → 0 < length xs
some_left [] b e h = let bad : false ≡ true = sym h ∙ e in absurd (cc)
some_left (x ∷ xs) b e h = omega arith

pub no_more : (xs : List (Bor (List ℕ))) → length xs ≡ 0 → xs ≡ []
no_more [] e = refl
no_more (x ∷ xs) e = absurd (omega arith)

-- each of them is elements
abbrev pub AreAll : List (Bor (List ℕ)) → Type 0
AreAll [] = Unit {0}
AreAll (x ∷ xs) = AreWellFormed x.now × AreAll xs

-- how many bytes they are, and one more for each
abbrev pub size : List (Bor (List ℕ)) → ℕ
size [] = 0
size (x ∷ xs) = length x.now + 1 + size xs

all_before : (xs : List (Bor (List ℕ))) (x : Bor (List ℕ)) → AreAll (xs ++ (x ∷ [])) → AreAll xs × AreWellFormed x.now
all_before [] x h = (tt, h.0)
all_before (y ∷ ys) x h = let rest = all_before ys x h.1 in ((h.0, rest.0), rest.1)

all_after : (xs : List (Bor (List ℕ))) (x : Bor (List ℕ)) → AreAll xs → AreWellFormed x.now → AreAll (xs ++ (x ∷ []))
all_after [] x h k = (k, tt)
all_after (y ∷ ys) x h k = (h.0, all_after ys x h.1 k)

size_after : (xs : List (Bor (List ℕ))) (x : Bor (List ℕ)) → size (xs ++ (x ∷ [])) ≡ size xs + length x.now + 1
size_after [] x = omega arith
size_after (y ∷ ys) x = omega (arith, size_after ys x)

-- All bytes are elements exactly if these, and those for later, are.
abbrev pub Remain : List ℕ → List ℕ → List (Bor (List ℕ)) → Type 0
Remain bytes rest later = AreWellFormed bytes ↔ (AreWellFormed rest × AreAll later)

pub remain_all : (bytes : List ℕ) → Remain bytes bytes []
remain_all bytes = (λ are. (are, tt), λ both. both.0)

-- the last ones for later, where nothing is left before them
module _ (bytes rest : List ℕ) (old new : List (Bor (List ℕ))) (nothing : rest ≡ []) (remain : Remain bytes rest old)
  where
    empty : AreWellFormed rest
    empty = subst AreWellFormed (sym nothing) AreWellFormed.none

    pub remain_others : (others : Bor (List ℕ)) → old ≡ new ++ (others ∷ []) → Remain bytes others.now new
    remain_others others e = (
      λ are. let p = all_before new others (subst AreAll e (remain.0 are).1) in (p.1, p.0),
      λ both. remain.1 (empty, subst AreAll (sym e) (all_after new others both.1 both.0)),
    )

    pub size_others : (others : Bor (List ℕ)) → old ≡ new ++ (others ∷ [])
        → length others.now + size new < length rest + size old
    size_others others e = omega (arith, ap size e, size_after new others)

    pub remain_none : old ≡ [] → AreWellFormed bytes
    remain_none e = remain.1 (empty, subst AreAll (sym e) tt)

-- the element at the front
module _ (bytes rest : List ℕ) (later : List (Bor (List ℕ))) (tag : ℕ) (content after : List ℕ)
    (front : IsFront rest tag content after) (identifier : is_identifier tag ≡ true) (remain : Remain bytes rest later)
  where
    pub remain_after : is_constructed tag ≡ false → Remain bytes after later
    remain_after bit =
        let by = by_primitive rest tag content after front identifier bit in (
          λ are. let p = remain.0 are in (by.0 p.0, p.1),
          λ both. remain.1 (by.1 both.0, both.1),
        )

    pub size_after_one : length after + size later < length rest + size later
    size_after_one = omega (arith, front_longer rest tag content after front)

    pub size_last : length content + size later < length rest + size later
    size_last = omega (arith, front_longer rest tag content after front)

    pub size_inside : (others : Bor (List ℕ)) → others.now ≡ after
        → length content + size (later ++ (others ∷ [])) < length rest + size later
    size_inside others same =
        omega (arith, front_longer rest tag content after front, size_after later others, ap length same)

    module _ (bit : is_constructed tag ≡ true) where
      pub remain_inside : (others : Bor (List ℕ)) → others.now ≡ after → Remain bytes content (later ++ (others ∷ []))
      remain_inside others same =
          let by = by_constructed rest tag content after front identifier bit in (
            λ are. let p = remain.0 are in
                let q = by.0 p.0 in
                (q.0, all_after later others p.1 (subst AreWellFormed (sym same) q.1)),
            λ both. let q = all_before later others both.1 in
                remain.1 (by.1 (both.0, subst AreWellFormed same q.1), q.0),
          )

      pub remain_last : after ≡ [] → Remain bytes content later
      remain_last none =
          let by = by_constructed rest tag content after front identifier bit in (
            λ are. let p = remain.0 are in ((by.0 p.0).0, p.1),
            λ both. remain.1 (by.1 (both.0, subst AreWellFormed (sym none) AreWellFormed.none), both.1),
          )
