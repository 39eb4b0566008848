use Rattle.std.proofs.Common.{◌∙◌}
use Rattle.std.proofs.lemmas.Result.{err_from_is_err_and}
use Rattle.picky_der_de.proofs.Contents.{consumes_kept-more, kept_push, stops_short}
use Rattle.picky_der_de.proofs.deserializer.Deserializer.fetch_kept.Goals as goal

pub loop-i-preserved : goal.loop-i-preserved
loop-i-preserved g c =
    let i = c.loop-i.invariant in
    let p = c.try_push.ensures in
    let e = c.in_ok-byte.ensures in
    let kept = kept_push (λ v. v.items) c.try_push.result _ c.try_push.new.self i.0.content c.in_ok-byte.byte i.0.first
    p.ok p.variant.0 p.err p.full in
    (consumes_kept-more i.0 e.ok kept, e.implicit_tag ∙ i.1)

pub returns-in_err-byte-clause-err : goal.returns-in_err-byte-clause-err
returns-in_err-byte-clause-err g c =
    let p = err_from_is_err_and c.from_residual.result c.from_residual.ensures.1 in
    let i = c.loop-i.invariant.0 in
    let e = c.in_err-byte.ensures in
    rw (p.1, p.2) (stops_short i.consumes i.count c.loop-i-test.true e.err e.missing e.unmoved)
