use Rattle.std.proofs.Common.{◌≡◌, ◌<◌, ◌≤◌, ◌-◌, length, take, drop, get_or, subst, arith}
use Rattle.std.proofs.lemmas.Grind.{common_steps}
use Rattle.picky_der_core.specs.Element.{length_octets, IsPrefix}
use Rattle.picky_der_core.specs.Tag.{number_of, IsTagNumber}
use Rattle.picky_der_de.proofs.Ahead.{element_there}
use Rattle.picky_der_de.proofs.deserializer.ahead.element_at_front.Goals as goal

pub returns : goal.returns
returns c =
    let all = c.args.bytes.now in
    let some : 0 < length all = grind (arith, common_steps) in
    let n = c.in_ok-len.len in
    let h = c.in_ok-len.ensures in
    let rest : take (length all - 1) (drop 1 all) ≡ drop 1 all = grind (arith, common_steps) in
    let is : IsPrefix (length_octets n) (drop 1 all) = subst (IsPrefix (length_octets n)) rest h.is in
    let number : number_of c.from.result ≤ 30 = omega (arith, c.number.ensures, c.if-number-gt-MAX_NUMBER.false) in
    let tag : IsTagNumber (number_of (get_or all 0 0)) = subst (λ t. IsTagNumber (number_of t)) c.from.ensures number in
    let byte : get_or all 0 0 < 256 = omega (arith, c.type_inv.bytes 0) in
    record { is = element_there all n _ some tag byte is (omega (arith, h.size)) (omega arith) }
