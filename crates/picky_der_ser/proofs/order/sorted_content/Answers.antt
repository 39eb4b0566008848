use Rattle.picky_der_ser.proofs.ListBytes.{joined-sorted}
use Rattle.picky_der_ser.proofs.order.sorted_content.Goals as goal

pub returns : goal.returns
returns c =
    let e = c.in_ok-sort.ensures in
    let cut_at_seams = c.concat.ensures.ok in
    joined-sorted c.in_ok-members.members.items c.sort.new.self.items _ c.concat.result c.in_ok-members.ensures
    e.permutation e.sorted (rw c.deref.ensures.value at cut_at_seams)
