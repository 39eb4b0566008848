use Rattle.std.proofs.Common.{◌≡◌, map, Ok, subst, refl}
use Rattle.std.specs.List.{concat}
use Rattle.picky_der_core.specs.Order.{in_ascending_order}
use Rattle.picky_der_ser.proofs.ListBytes.{joined-sorted}
use Rattle.der_c.specs.Order.{AreCut, AreMembers}
use Rattle.der_c.proofs.order.arranged.Goals as goal

pub returns-in_ok-concat-in-Ok : goal.returns-in_ok-concat-in-Ok
returns-in_ok-concat-in-Ok c =
    let xs = c.in-Ok.members.items in
    let cut : AreMembers (map (λ m. m.now) xs) c.args.bytes.now =
    subst (AreCut c.args.bytes.now) c.in-Ok.is c.in_ok-members.ensures in
    let e = c.in_ok-sort-in-Ok.ensures in
    let joined = c.in_ok-concat-in-Ok.ensures.ok in
    let is : c.in_ok-concat-in-Ok.field-0.items ≡ concat (in_ascending_order (map (λ m. m.now) xs)) =
    joined-sorted xs c.sort.new.self.items _ (Ok c.in_ok-concat-in-Ok.field-0) refl e.permutation e.sorted
    (rw c.deref.ensures.value at joined) in
    record { members = map (λ m. m.now) xs; cut = cut; is = is }
