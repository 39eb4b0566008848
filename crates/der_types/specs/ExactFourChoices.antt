-- Alternatives four at a time are those one by one.
use Rattle.std.specs.Prelude.{◌≡◌, refl}
use Rattle.picky_der_de.specs.declared.alternatives.OneOf.{OneOf}
use Rattle.picky_der_de.specs.declared.alternatives.OneOf.TheVariants.{This, Other}
use Rattle.picky_der_de.specs.declared.choice4.Choice4.{Choice4}
use Rattle.picky_der_de.specs.declared.choice4.Choice4.TheVariants.{First, Second, Third, Fourth, Later}
use Rattle.picky_der_de.specs.FourChoices.{one_by_one}

pub one_of_four : {A B C D E : Type 0} (r : OneOf A (OneOf B (OneOf C (OneOf D E))))
    → (v : Choice4 A B C D E) × (one_by_one v ≡ r)
one_of_four (This a) = (First a, refl)
one_of_four (Other (This b)) = (Second b, refl)
one_of_four (Other (Other (This c))) = (Third c, refl)
one_of_four (Other (Other (Other (This d)))) = (Fourth d, refl)
one_of_four (Other (Other (Other (Other e)))) = (Later e, refl)
