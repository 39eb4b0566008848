use Rattle.std.proofs.lemmas.Result.{err_from_is_err_and}
use Rattle.der_show.proofs.Texts.{on_ok, if_err, writes_both, stops_in_first, stops_in_second}
use Rattle.der_show.proofs.entry_line.write_step.Goals as goal

pub returns-in_err-write_entry-in-Broken-clause-err : goal.returns-in_err-write_entry-in-Broken-clause-err
returns-in_err-write_entry-in-Broken-clause-err g c =
    let p = err_from_is_err_and c.from_residual.result c.from_residual.ensures.1 in
    rw (c.in-Broken.is, p.1, p.2)
    (stops_in_first g.W.WriteExt c.args.format.now _ _ _ _ _ c.in_err-write_entry-in-Broken.ensures.err)

pub returns-in_ok-write_entry-in-Broken-clause-ok : goal.returns-in_ok-write_entry-in-Broken-clause-ok
returns-in_ok-write_entry-in-Broken-clause-ok g c =
    let second = rw c.element_at.ensures at c.write_entry-in-Broken-2.ensures.ok in
    rw c.in-Broken.is
    (on_ok c.write_entry-in-Broken-2.result
    (λ w. writes_both c.args.format.now _ _ _ _ _ c.in_ok-write_entry-in-Broken.ensures.ok w) second)

pub returns-in_ok-write_entry-in-Broken-clause-err : goal.returns-in_ok-write_entry-in-Broken-clause-err
returns-in_ok-write_entry-in-Broken-clause-err g c =
    let second = rw c.element_at.ensures at c.write_entry-in-Broken-2.ensures.err in
    rw c.in-Broken.is
    (if_err c.write_entry-in-Broken-2.result (λ e s. stops_in_second g.W.WriteExt c.args.format.now _ _ _ _ _ e
    c.in_ok-write_entry-in-Broken.ensures.ok c.in_ok-write_entry-in-Broken.ensures.no_fault s) second)
