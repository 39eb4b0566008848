use Rattle.std.proofs.Common.{sym, ◌∙◌}
use Rattle.std.proofs.lemmas.Result.{err_from_is_err_and}
use Rattle.picky_der_de.specs.Layouts.{as_optional, written_out}
use Rattle.picky_der_de.proofs.sequence.Sequence.next_or_default.Goals as goal

pub returns-in_err-value-clause-err : goal.returns-in_err-value-clause-err
returns-in_err-value-clause-err g c =
    let p = err_from_is_err_and c.from_residual.result c.from_residual.ensures.1 in
    rw (p.1, p.2) (as_optional c.in_err-value.ensures.err c.in_err-value.ensures.last)

pub returns-then-is_default-clause-err : goal.returns-then-is_default-clause-err
returns-then-is_default-clause-err g c =
    written_out _ c.in-Some.value (sym c.is_default.ensures ∙ c.if-is_default.true)
    (rw c.in-Some.is at c.in_ok-value.ensures.member) c.refuse.ensures.is c.refuse.ensures.fails
