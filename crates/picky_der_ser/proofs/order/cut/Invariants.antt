use Rattle.std.proofs.Common.{◌≡◌, ◌≤◌, ◌++◌, length, map, drop}
use Rattle.picky_der_ser.specs.Seams.{cut_from, cut_at_seams, AreSeams, last_seam}
use Rattle.picky_der_ser.proofs.order.cut.Given as goal

abbrev pub invariant-loop-seam : goal.invariant-loop-seam
invariant-loop-seam l = record {
  ascending : AreSeams l.start (drop l.seam-index l.seams);
  within : last_seam l.start (drop l.seam-index l.seams) ≤ length l.fn.content;
  same : map (λ m. m.now) l.members.items ++ cut_from l.start (drop l.seam-index l.seams) l.fn.content
      ≡ cut_at_seams l.seams l.fn.content;
}
