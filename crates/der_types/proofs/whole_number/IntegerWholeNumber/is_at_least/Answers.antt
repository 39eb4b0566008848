use Rattle.std.proofs.Common.{◌≡◌, not, sym, ap, ◌∙◌, int_le}
use Rattle.picky_der_core.specs.Integer.{integer_value}
use Rattle.der_types.specs.ConstraintLaws.{content_sign, unfit_is_above}
use Rattle.der_types.proofs.whole_number.IntegerWholeNumber.is_at_least.Goals as goal

pub returns-in-None : goal.returns-in-None
returns-in-None c =
    let content = c.content-content.result.now in
    ap not (c.is_negative.ensures ∙ sym (content_sign content))
    ∙ (sym (unfit_is_above c.args.least (integer_value content) c.ranges.least.sfits c.in-None.ensures.none)
    ∙ ap (λ bs. int_le c.args.least (integer_value bs)) c.content-content.ensures)
