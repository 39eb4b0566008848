use Rattle.std.proofs.Common.{◌≡◌, ◌+◌, ◌-◌, ◌<◌, ◌++◌, take, ◌∙◌, arith}
use Rattle.std.proofs.lemmas.Result.{err_from_is_err_and}
use Rattle.picky_der_de.proofs.Contents.{stops_short, consumes_bytes-piece}
use Rattle.picky_der_de.proofs.deserializer.Deserializer.skip.Goals as goal

pub loop-left-preserved : goal.loop-left-preserved
loop-left-preserved g c =
    let i = c.loop-left.invariant in
    let e = c.in_ok-left.ensures in
    let n = c.in_ok-left.field-0 in
    let count : c.args.len - (c.loop-left.left - n) ≡ (c.args.len - c.loop-left.left) + n =
    omega (arith, i.3, e.ok.fits) in (
      i.0 ++ take n c.fetch_piece.new.piece,
      consumes_bytes-piece i.1 e.ok count,
      e.implicit_tag ∙ i.2,
      omega (arith, i.3),
    )

pub returns-in_err-left-clause-err : goal.returns-in_err-left-clause-err
returns-in_err-left-clause-err g c =
    let p = err_from_is_err_and c.from_residual.result c.from_residual.ensures.1 in
    let i = c.loop-left.invariant in
    let e = c.in_err-left.ensures in
    let few : c.args.len - c.loop-left.left < c.args.len = omega (arith, c.loop-left-test.true, i.3) in
    rw (p.1, p.2) (stops_short i.1.consumes i.1.count few e.err e.missing e.unmoved)
