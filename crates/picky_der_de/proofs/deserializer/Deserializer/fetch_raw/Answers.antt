use Rattle.std.proofs.Common.{◌∙◌, ◌++◌, ap}
use Rattle.std.proofs.lemmas.Result.{err_from_is_err_and}
use Rattle.picky_der_de.proofs.Elements.{raw_cut, reads_raw}
use Rattle.picky_der_de.proofs.deserializer.Deserializer.fetch_raw.Goals as goal

pub returns-in_ok-fetch_after-in-Ok-header-clause-ok : goal.returns-in_ok-fetch_after-in-Ok-header-clause-ok
returns-in_ok-fetch_after-in-Ok-header-clause-ok g c =
    let h = c.in-Ok.ensures.ok in
    let front = c.in-Ok-header.ensures.ok in
    let k = c.in_ok-fetch_after-in-Ok-header.ensures in
    reads_raw h k.ok.consumes (k.implicit_tag ∙ h.implicit_tag) (k.ok.is ∙ ap (λ x. x ++ k.ok.content) front)

pub returns-in_err-fetch_after-in-Ok-header-clause-err : goal.returns-in_err-fetch_after-in-Ok-header-clause-err
returns-in_err-fetch_after-in-Ok-header-clause-err g c =
    let p = err_from_is_err_and c.from_residual.result c.from_residual.ensures.1 in
    rw (p.1, p.2) (raw_cut c.in-Ok.ensures.ok c.in_err-fetch_after-in-Ok-header.ensures.err)
