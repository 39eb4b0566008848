use Rattle.std.proofs.Common.{append_assoc}
use Rattle.der_show.proofs.Padding.{padded_right, padded_left}
use Rattle.der_show.proofs.columns.front_of_complaint.Goals as goal

pub returns : goal.returns
returns c =
    let h = rw c.laid_out.ensures at c.format.ensures.ok in
    let k = simp (padded_right, append_assoc) at h in
    simp append_assoc k
