use Rattle.std.proofs.Common.{◌≤◌, ◌+◌, ◌∷◌, length, drop, slice_index_or, subst, arith}
use Rattle.std.proofs.lemmas.List.{drop_more}
use Rattle.picky_der_ser.specs.Seams.{AreSeams, last_seam}
use Rattle.picky_der_ser.proofs.ListBytes.{last_seam-least}
use Rattle.picky_der_ser.proofs.order.cut.Goals as goal

pub slice_bounds-push-end : goal.slice_bounds-push-end
slice_bounds-push-end c =
    let ss = c.args.seams.now in
    let i = c.loop-seam.seam-index in
    let start = c.loop-seam.start in
    let seam = slice_index_or ss i 0 in
    let next = drop_more ss i 0 c.loop-seam-test.true in
    let rest : AreSeams start (seam ∷ drop (i + 1) ss) = subst (AreSeams start) next c.loop-seam.invariant.ascending in
    let within : last_seam seam (drop (i + 1) ss) ≤ length c.args.content.now =
    subst (λ l. last_seam start l ≤ length c.args.content.now) next c.loop-seam.invariant.within in
    omega (arith, within, last_seam-least seam (drop (i + 1) ss) rest.1)
