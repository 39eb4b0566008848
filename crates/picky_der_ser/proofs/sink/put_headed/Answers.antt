use Rattle.std.proofs.lemmas.Result.{err_from_is_err_and}
use Rattle.picky_der_core.specs.Writer.{too_few_front, too_few_after}
use Rattle.picky_der_ser.proofs.sink.put_headed.Goals as goal

pub returns-in_err-first-clause-beginning : goal.returns-in_err-first-clause-beginning
returns-in_err-first-clause-beginning g c =
    let p = err_from_is_err_and c.from_residual.result c.from_residual.ensures.1 in
    rw p.1 (too_few_front _ _ c.args.headers.now c.args.content.now c.in_err-first.ensures.beginning)

pub returns-in_err-rest-clause-beginning : goal.returns-in_err-rest-clause-beginning
returns-in_err-rest-clause-beginning g c =
    let p = err_from_is_err_and c.from_residual-in_err-rest.result c.from_residual-in_err-rest.ensures.1 in
    rw p.1 (too_few_after _ _ _ c.args.headers.now c.args.content.now c.in_ok-first.ensures.appends
    c.in_err-rest.ensures.beginning)
