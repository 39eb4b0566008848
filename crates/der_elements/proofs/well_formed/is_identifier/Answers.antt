use Rattle.std.proofs.Common.{◌≡◌, true, sym, ap, ◌∙◌}
use Rattle.std.specs.Prelude.{◌||◌, nat_le}
use Rattle.picky_der_core.specs.Shape.{contains}
use Rattle.der_types.specs.WellFormed.{universal_identifiers}
use Rattle.der_elements.proofs.Identifiers.{contains_flipped}
use Rattle.der_elements.proofs.well_formed.is_identifier.Goals as goal

pub returns-then-contains : goal.returns-then-contains
returns-then-contains c =
    let here : contains universal_identifiers c.args.byte ≡ true =
    sym (contains_flipped universal_identifiers c.args.byte) ∙ (sym c.contains.ensures.value ∙ c.if-contains.true) in
    c.if-contains.true ∙ sym (ap (λ b. b || nat_le 0x40 c.args.byte) here)
