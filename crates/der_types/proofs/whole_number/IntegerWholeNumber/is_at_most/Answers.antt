use Rattle.std.proofs.Common.{◌≡◌, sym, ap, ◌∙◌, int_le}
use Rattle.picky_der_core.specs.Integer.{integer_value}
use Rattle.der_types.specs.ConstraintLaws.{content_sign, unfit_is_below}
use Rattle.der_types.proofs.whole_number.IntegerWholeNumber.is_at_most.Goals as goal

pub returns-in-None : goal.returns-in-None
returns-in-None c =
    let content = c.content-content.result.now in
    (c.is_negative.ensures ∙ sym (content_sign content))
    ∙ (sym (unfit_is_below c.args.most (integer_value content) c.ranges.most.sfits c.in-None.ensures.none)
    ∙ ap (λ bs. int_le (integer_value bs) c.args.most) c.content-content.ensures)
