use Rattle.std.proofs.Common.{arith}
use Rattle.std.proofs.lemmas.Result.{err_from_is_err_and}
use Rattle.picky_der_de.proofs.Contents.{stops_later}
use Rattle.picky_der_de.proofs.deserializer.Deserializer.fetch_after.Goals as goal

pub returns-in_err-left-clause-err : goal.returns-in_err-left-clause-err
returns-in_err-left-clause-err g c =
    let p = err_from_is_err_and c.from_residual.result c.from_residual.ensures.1 in
    let i = c.loop-left.invariant in
    rw (p.1, p.2) (stops_later i.0.consumes.consumes (omega (arith, i.0.consumes.count, i.2)) c.in_err-left.ensures.err)
