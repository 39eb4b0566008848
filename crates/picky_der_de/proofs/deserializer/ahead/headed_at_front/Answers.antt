use Rattle.std.proofs.Common.{◌≡◌, ◌<◌, ◌-◌, ◌∙◌, length, take, drop, subst, arith}
use Rattle.picky_der_core.specs.Element.{length_octets, IsPrefix}
use Rattle.std.proofs.lemmas.Grind.{common_steps}
use Rattle.picky_der_de.proofs.Ahead.{header_there}
use Rattle.picky_der_de.proofs.deserializer.ahead.headed_at_front.Goals as goal

pub returns-clause-is : goal.returns-clause-is
returns-clause-is c =
    let all = c.args.bytes.now in
    let some : 0 < length all = grind (arith, common_steps) in
    let h = c.in_ok-len.ensures in
    let rest : take (length all - 1) (drop 1 all) ≡ drop 1 all = grind (arith, common_steps) in
    let is : IsPrefix (length_octets c.in_ok-len.len) (drop 1 all) =
    subst (IsPrefix (length_octets c.in_ok-len.len)) rest h.is in
    header_there all c.args.tag c.in_ok-len.len some (c.if-bytes-inner.false ∙ c.inner.ensures) is
