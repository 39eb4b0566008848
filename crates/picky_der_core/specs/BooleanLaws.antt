-- The contents that are bools.
use Rattle.std.proofs.Common.{◌≡◌, ℕ, Bool, true, false, ◌||◌, cond, List, [], ◌∷◌, ◌==◌, ◌⊎◌, inl, inr, refl, ap, None}
use Rattle.std.proofs.Common.{Some, eqb-true}
use Rattle.picky_der_core.specs.Primitive.{boolean_content}
use Rattle.picky_der_core.specs.declared.error.Asn1DerError.TheVariants.{InvalidData}
use Rattle.picky_der_core.specs.Refusal.{boolean_error}

-- the content of a bool is read
pub boolean_error-content : (b : Bool) → boolean_error (boolean_content b) ≡ None
boolean_error-content true = refl
boolean_error-content false = refl

-- what is read is the content of a bool
pub content-boolean_error : (bs : List ℕ) → boolean_error bs ≡ None
    → (bs ≡ boolean_content false) ⊎ (bs ≡ boolean_content true)
content-boolean_error [] e = cc
content-boolean_error (b ∷ []) e = by_tests (b == 0x00) (b == 0xFF) refl refl e
  where
    by_tests : (lowest highest : Bool) → (b == 0x00) ≡ lowest → (b == 0xFF) ≡ highest
        → cond (lowest || highest) None (Some InvalidData) ≡ None → (b ∷ [] ≡ 0x00 ∷ []) ⊎ (b ∷ [] ≡ 0xFF ∷ [])
    by_tests true highest f g h = inl (ap (λ x. x ∷ []) (eqb-true b 0x00 f))
    by_tests false true f g h = inr (ap (λ x. x ∷ []) (eqb-true b 0xFF g))
    by_tests false false f g h = cc
content-boolean_error (b ∷ c ∷ bs) e = cc
