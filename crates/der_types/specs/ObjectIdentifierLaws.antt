-- Each list of arcs has one content, and each content is one of a list of arcs.
use Rattle.picky_der_core.specs.Element.{AreBytes}
use Rattle.std.proofs.Common.{◌≡◌, ℕ, ◌+◌, ◌-◌, ◌*◌, ◌/◌, ◌%◌, Bool, true, false, ◌&&◌, ◌||◌, List, [], ◌∷◌, ◌++◌}
use Rattle.std.proofs.Common.{nat_lt, ◌==◌, refl, sym, ap, ◌∙◌, arith, inl, inr, lt-ltb, le-ltb, ltb-true, eqb-true}
use Rattle.std.proofs.lemmas.Bool.{cases_lt}
use Rattle.der_types.specs.Subidentifiers.{subidentifiers, numbers_after}
use Rattle.der_types.specs.SubidentifierLaws.{marked-zero, content-numbers, numbers-content, valid_subidentifiers}
use Rattle.der_types.specs.SubidentifierLaws.{subidentifier-some}
use Rattle.der_types.specs.ObjectIdentifier.{is_object_identifier, object_identifier_content, are_arcs, arcs_of_numbers}
use Rattle.der_types.specs.ObjectIdentifier.{arcs_of}

-- ---- arcs

-- what is made of arcs is a content
pub valid-content : (arcs : List ℕ) → are_arcs arcs ≡ true
    → is_object_identifier (object_identifier_content arcs) ≡ true
valid-content [] e = cc
valid-content (x ∷ []) e = cc
valid-content (x ∷ y ∷ arcs) e = subidentifier-some (40 * x + y) (subidentifiers arcs)
    ∙ valid_subidentifiers ((40 * x + y) ∷ arcs)

-- and of these arcs
pub arcs-content : (arcs : List ℕ) → are_arcs arcs ≡ true → arcs_of (object_identifier_content arcs) ≡ arcs
arcs-content [] e = cc
arcs-content (x ∷ []) e = cc
arcs-content (x ∷ y ∷ arcs) e = ap arcs_of_numbers (numbers-content ((40 * x + y) ∷ arcs))
    ∙ first_two (nat_lt x 2) (nat_lt y 40) (x == 2) refl refl refl e
  where
    first_two : (p q r : Bool) → nat_lt x 2 ≡ p → nat_lt y 40 ≡ q → (x == 2) ≡ r → (p && q || r) ≡ true
        → arcs_of_numbers ((40 * x + y) ∷ arcs) ≡ x ∷ y ∷ arcs
    first_two true true r f g h e =
        let low = ltb-true x 2 f in
        let few = ltb-true y 40 g in
        let first : (40 * x + y) / 40 ≡ x = omega arith in
        let second : (40 * x + y) % 40 ≡ y = omega arith in
        rw (lt-ltb (40 * x + y) 80 (omega arith), first, second) refl
    first_two true false true f g h e = absurd (omega (arith, ltb-true x 2 f, eqb-true x 2 h))
    first_two true false false f g h e = cc
    first_two false q true f g h e =
        let two : x ≡ 2 = eqb-true x 2 h in
        let after : 40 * x + y - 80 ≡ y = omega arith in
        rw (le-ltb (40 * x + y) 80 (omega arith), after, two) refl
    first_two false q false f g h e = cc

-- two lists of arcs with one content are one
pub same_arcs : (a b : List ℕ) → are_arcs a ≡ true → are_arcs b ≡ true
    → object_identifier_content a ≡ object_identifier_content b → a ≡ b
same_arcs a b p q e = sym (arcs-content a p) ∙ ap arcs_of e ∙ arcs-content b q

-- each content is one of its arcs
pub content-arcs : (bs : List ℕ) → AreBytes bs → is_object_identifier bs ≡ true
    → (are_arcs (arcs_of bs) ≡ true) × (object_identifier_content (arcs_of bs) ≡ bs)
content-arcs [] p e = cc
content-arcs (b ∷ bs) p e =
    let all = content-numbers false 0 (b ∷ bs) refl p e ∙ ap (λ ds. ds ++ (b ∷ bs)) marked-zero in
    by_numbers (numbers_after 0 (b ∷ bs)) all
  where
    by_numbers : (ns : List ℕ) → subidentifiers ns ≡ b ∷ bs
        → (are_arcs (arcs_of_numbers ns) ≡ true) × (object_identifier_content (arcs_of_numbers ns) ≡ b ∷ bs)
    by_numbers [] e = cc
    by_numbers (n ∷ ns) e = elim (cases_lt n 80) [
      | inl small ↦
          let whole : 40 * (n / 40) + n % 40 ≡ n = omega arith in
          rw (lt-ltb n 80 small) (
            rw (lt-ltb (n / 40) 2 (omega arith), lt-ltb (n % 40) 40 (omega arith)) refl,
            rw whole e,
          )
      | inr large ↦
          let whole : 40 * 2 + (n - 80) ≡ n = omega arith in
          rw (le-ltb n 80 large) (refl, rw whole e)
    ]
