use Rattle.std.proofs.Common.{Some, sym, ◌∙◌, ap}
use Rattle.std.proofs.lemmas.Result.{err_from_is_err_and}
use Rattle.picky_der_de.proofs.Contents.{failed_same}
use Rattle.picky_der_de.proofs.PlainReads.{refuses_header, refuses_cut, reads_kept, refuses_kept}
use Rattle.picky_der_de.proofs.deserializer.Deserializer.fetch_plain.Goals as goal

pub returns-in_err-len-clause-err : goal.returns-in_err-len-clause-err
returns-in_err-len-clause-err g c =
    let p = err_from_is_err_and c.from_residual.result c.from_residual.ensures.1 in
    rw (p.1, p.2)
    (refuses_header g.met.K.PlainKind.kind.plain
    (rw (c.TAG.ensures ∙ g.met.K.PlainKind.tagged) at c.in_err-len.ensures.err))

pub returns-in_err-content-clause-err : goal.returns-in_err-content-clause-err
returns-in_err-content-clause-err g c =
    let p = err_from_is_err_and c.from_residual-in_err-content.result c.from_residual-in_err-content.ensures.1 in
    rw (p.1, p.2)
    (refuses_cut g.met.K.PlainKind.kind.plain
    (rw (c.TAG.ensures ∙ g.met.K.PlainKind.tagged) at c.in_ok-len.ensures.ok) c.in_err-content.ensures.err)

pub returns-in-Ok-clause-ok : goal.returns-in-Ok-clause-ok
returns-in-Ok-clause-ok g c =
    let h = rw (c.TAG.ensures ∙ g.met.K.PlainKind.tagged) at c.in_ok-len.ensures.ok in
    let k = c.in_ok-content.ensures in
    let v = c.in-Ok.ensures in
    let kept = sym c.deref.ensures.0 in
    reads_kept g.met.K.PlainKind.kind (g.K.PlainKind.view c.in-Ok.value) h k.ok (kept ∙ v.ok)
    (ap g.K.PlainKind.judge kept ∙ v.right) (k.implicit_tag ∙ h.implicit_tag)

pub returns-in-Err-clause-err : goal.returns-in-Err-clause-err
returns-in-Err-clause-err g c =
    let f = c.fail.ensures in
    let fault = ap g.K.PlainKind.judge (sym c.deref.ensures.0) ∙ c.in-Err.ensures.fault
    ∙ ap (λ e. Some e) (sym f.error) in
    refuses_kept g.met.K.PlainKind.kind (rw (c.TAG.ensures ∙ g.met.K.PlainKind.tagged) at c.in_ok-len.ensures.ok)
    c.in_ok-content.ensures.ok f.fails fault (failed_same c.fetch_kept.new.self f.error f.same)
