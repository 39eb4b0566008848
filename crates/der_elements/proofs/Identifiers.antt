-- A test whether a byte is in a list.
use Rattle.std.proofs.Common.{◌≡◌, ℕ, ◌==◌, List, [], ◌∷◌, refl, sym, ap, ◌∙◌}
use Rattle.std.specs.Prelude.{◌||◌}
use Rattle.std.specs.List.{list_any}
use Rattle.std.proofs.lemmas.Bool.Decides.{same_from_decides, Decides-eqb}
use Rattle.picky_der_core.specs.Shape.{contains}

flipped : (x y : ℕ) → (x == y) ≡ (y == x)
flipped x y =
    same_from_decides (x == y) (y == x) (Decides-eqb x y)
    (λ h. sym ((Decides-eqb y x).0 h), λ h. (Decides-eqb y x).1 (sym h))

pub contains_flipped : (xs : List ℕ) (b : ℕ) → list_any (λ x. x == b) xs ≡ contains xs b
contains_flipped [] b = refl
contains_flipped (x ∷ xs) b =
    ap (λ h. h || list_any (λ y. y == b) xs) (flipped x b) ∙ ap (λ h. (b == x) || h) (contains_flipped xs b)
