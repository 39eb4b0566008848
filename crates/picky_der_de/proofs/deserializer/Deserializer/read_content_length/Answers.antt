use Rattle.std.proofs.Common.{◌≡◌, ◌<◌, ◌∙◌, ap, arith}
use Rattle.std.proofs.lemmas.Result.{err_from_is_err_and}
use Rattle.picky_der_de.specs.State.{State}
use Rattle.picky_der_de.specs.Steps.{error_at_end}
use Rattle.picky_der_de.proofs.Contents.{failed_same}
use Rattle.picky_der_de.proofs.Headers.{content_no_length, content_too_long}
use Rattle.picky_der_de.proofs.deserializer.Deserializer.read_content_length.Goals as goal

pub returns-in_err-len-clause-err : goal.returns-in_err-len-clause-err
returns-in_err-len-clause-err g c =
    let p = err_from_is_err_and c.from_residual.result c.from_residual.ensures.1 in
    rw (p.1, p.2) (content_no_length c.in_err-len.ensures.err)

pub returns-then-len-self-clause-err : goal.returns-then-len-self-clause-err
returns-then-len-self-clause-err g c =
    let f = c.fail.ensures in
    let e = c.in_ok-len.ensures in
    let until_end : c.self.inside.until_end ≡ c.read_length.new.self.until_end =
    ap (λ (s : State). s.until_end) c.self.view_is in
    let end : c.self.inside.end ≡ c.read_length.new.self.end = ap (λ (s : State). s.end) c.self.view_is in
    let more : c.read_length.new.self.until_end < c.in_ok-len.len = omega (arith, c.if-len-self.true, until_end) in
    let error = f.error ∙ c.missing-error.ensures ∙ ap error_at_end end in
    content_too_long e.ok f.fails e.fits more error (failed_same c.read_length.new.self f.error f.same)
