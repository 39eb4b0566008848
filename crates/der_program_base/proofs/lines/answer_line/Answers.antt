use Rattle.std.proofs.Common.{◌≡◌, true, is_ok, not, ap, ◌∙◌, arith}
use Rattle.std.proofs.lemmas.Result.{err_from_is_err_and}
use Rattle.picky_der_core.specs.WriterFaults.{WriterFails}
use Rattle.der_program_base.specs.Run.{no_sink}
use Rattle.der_program_base.proofs.lines.answer_line.Goals as goal

pub returns-in_err-write_exact-clause-err : goal.returns-in_err-write_exact-clause-err
returns-in_err-write_exact-clause-err g c =
    let p = err_from_is_err_and c.from_residual-in_err-write_exact.result
    c.from_residual-in_err-write_exact.ensures.1 in
    let pushed : is_ok c.push.result ≡ true = c.is_err.ensures.negation ∙ ap not c.if-is_err.false in
    let text = c.as_bytes.ensures.value ∙ rw (pushed, c.push.ensures.ascii (omega arith)) at c.push.ensures.bytes in
    let failed = c.in_err-write_exact.ensures in
    let fault : WriterFails g.W.WriteExt c.args.output.now p.0 c.write_exact.new.self =
    record { rose = failed.fault.0; kind = _; answered = failed.fault.1; is = p.2 } in
    rw p.1 (no_sink fault _ c.in_ok-answer.ensures.ok (rw text at failed.beginning.begins))
