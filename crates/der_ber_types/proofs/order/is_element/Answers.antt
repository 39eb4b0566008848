use Rattle.der_ber_types.proofs.Cutting.{is_one}
use Rattle.der_ber_types.proofs.Writing.{nothing_left}
use Rattle.der_ber_types.proofs.order.is_element.Goals as goal

pub returns-in-Some : goal.returns-in-Some
returns-in-Some c = λ yes.
    let first = c.in-Some.first in
    is_one c.args.bytes.now first.tag first.content.now first.after.now c.in-Some.ensures
    (nothing_left first.after.now c.is_empty.result c.is_empty.ensures yes)
