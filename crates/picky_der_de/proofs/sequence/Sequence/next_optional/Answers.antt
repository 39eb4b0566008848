use Rattle.std.proofs.Common.{◌≡◌, true, false, sym, ◌∙◌}
use Rattle.std.proofs.lemmas.Result.{err_from_is_err_and}
use Rattle.picky_der_de.specs.Layouts.{begins_otherwise, no_member}
use Rattle.picky_der_de.proofs.SetOrder.{identified_last}
use Rattle.picky_der_de.proofs.sequence.Sequence.next_optional.Goals as goal

pub returns-in_err-next_field-in-Ok-Some-clause-err :
    goal.returns-in_err-next_field-in-Ok-Some-clause-err
returns-in_err-next_field-in-Ok-Some-clause-err g c =
    let p = err_from_is_err_and c.from_residual.result c.from_residual.ensures.1 in
    rw (p.1, p.2) (no_member _ c.in-Ok-Some.tag (rw c.in-Ok-Some.field-0-is at c.in-Ok-Some.ensures.tag)
    (c.begins_from.ensures.0 c.if-begins_from.true) c.in_err-next_field-in-Ok-Some.ensures.err)

pub returns-else-begins_from-clause-none : goal.returns-else-begins_from-clause-none
returns-else-begins_from-clause-none g c =
    begins_otherwise c.in-Ok-Some.tag (rw c.in-Ok-Some.field-0-is at c.in-Ok-Some.ensures.tag) (λ own. let q : false
    ≡ true = sym c.if-begins_from.false ∙ c.begins_from.ensures.1 own in cc)

pub returns-in_err-next_field-in-Ok-Some-clause-last :
    goal.returns-in_err-next_field-in-Ok-Some-clause-last
returns-in_err-next_field-in-Ok-Some-clause-last g c =
    let p = err_from_is_err_and c.from_residual.result c.from_residual.ensures.1 in
    rw p.1 (c.in_err-next_field-in-Ok-Some.ensures.last
    ∙ identified_last (rw c.in-Ok-Some.field-0-is at c.in-Ok-Some.ensures.tag))
