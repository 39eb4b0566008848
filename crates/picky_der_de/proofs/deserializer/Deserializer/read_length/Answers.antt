use Rattle.std.proofs.Common.{arith, refl}
use Rattle.std.proofs.lemmas.Result.{err_from_is_err_and}
use Rattle.picky_der_de.proofs.Steps.{consumes_none, consumes_then}
use Rattle.picky_der_de.proofs.Contents.{stops_short}
use Rattle.picky_der_de.proofs.Headers.{consumes_short, consumes_long, refuses_at_first, refuses_at_digits, refuses_bad}
use Rattle.picky_der_de.proofs.Headers.{no_long_count, longer}
use Rattle.picky_der_de.proofs.deserializer.Deserializer.read_length.Goals as goal

pub returns-in_err-first-clause-err : goal.returns-in_err-first-clause-err
returns-in_err-first-clause-err g c =
    let p = err_from_is_err_and c.from_residual.result c.from_residual.ensures.1 in
    let e = c.in_err-first.ensures in
    let none = consumes_none c.args.self.now c.requires.had_not_failed c.requires.unpeeked in
    rw (p.1, p.2) (refuses_at_first (stops_short none refl (omega arith) e.err e.missing e.unmoved))

pub returns-then-first-lt128-clause-ok : goal.returns-then-first-lt128-clause-ok
returns-then-first-lt128-clause-ok g c =
    rw c.from.ensures (consumes_short c.in_ok-first.ensures.ok c.if-first-lt128.true)

pub returns-in-Err-clause-err : goal.returns-in-Err-clause-err
returns-in-Err-clause-err g c =
    let f = c.fail.ensures in
    refuses_bad c.in_ok-first.ensures.ok f.fails f.error f.same (no_long_count c.in-Err.ensures.err)

pub returns-in_err-len-clause-err : goal.returns-in_err-len-clause-err
returns-in_err-len-clause-err g c =
    let p = err_from_is_err_and c.from_residual-in_err-len.result c.from_residual-in_err-len.ensures.1 in
    rw (p.1, p.2) (refuses_at_digits c.in_ok-first.ensures.ok c.in-Ok.ensures.ok c.in_err-len.ensures.err)

pub returns-in-Ok-shortest-clause-ok : goal.returns-in-Ok-shortest-clause-ok
returns-in-Ok-shortest-clause-ok g c =
    let s = c.in-Ok-shortest.ensures.ok in
    let same = s.0 in
    rw same (consumes_long c.in_ok-first.ensures.ok c.in-Ok.ensures.ok c.in_ok-len.ensures.ok s.1)

pub returns-in-Err-shortest-clause-err : goal.returns-in-Err-shortest-clause-err
returns-in-Err-shortest-clause-err g c =
    let s = c.in-Err-shortest.ensures.err in
    let d = c.in_ok-len.ensures.ok in
    let f = c.fail-in-Err-shortest.ensures in
    refuses_bad (consumes_then c.in_ok-first.ensures.ok d.consumes.consumes) f.fails f.error f.same
    (longer c.in-Ok.ensures.ok d s.0 s.1)
