use Rattle.std.proofs.Common.{◌≡◌, map, Ok, refl}
use Rattle.std.specs.List.{concat}
use Rattle.picky_der_core.specs.Order.{in_ascending_order}
use Rattle.picky_der_ser.proofs.ListBytes.{joined-sorted}
use Rattle.der_ber_types.proofs.order.in_order.Goals as goal

pub returns-clause-ok : goal.returns-clause-ok
returns-clause-ok c =
    let xs = c.in_ok-elements.elements.items in
    let e = c.in_ok-sort.ensures in
    let joined = c.in_ok-concat.ensures.ok in
    let is : c.in_ok-concat.field-0.items ≡ concat (in_ascending_order (map (λ m. m.now) xs)) =
    joined-sorted xs c.sort.new.self.items _ (Ok c.in_ok-concat.field-0) refl e.permutation e.sorted
    (rw c.deref.ensures.value at joined) in
    record { elements = map (λ m. m.now) xs; are_elements = c.in_ok-elements.ensures.ok; is = is }
