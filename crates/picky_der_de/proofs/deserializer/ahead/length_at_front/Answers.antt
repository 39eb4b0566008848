use Rattle.std.proofs.Common.{◌≡◌, ◌<◌, ◌+◌, ◌*◌, length, sym, arith, rules}
use Rattle.std.proofs.lemmas.Grind.{common_steps}
use Rattle.picky_der_core.specs.Element.{length_octets}
use Rattle.picky_der_de.proofs.Ahead.{short_front, one_front, two_front}
use Rattle.picky_der_de.proofs.deserializer.ahead.length_at_front.Goals as goal

pub returns-then-bytes-lt128-clause-is : goal.returns-then-bytes-lt128-clause-is
returns-then-bytes-lt128-clause-is c =
    let some : 0 < length c.args.bytes.now = grind (arith, common_steps) in
    (short_front c.args.bytes.now c.from.result some (sym c.from.ensures) (omega arith)).0

pub returns-then-bytes-lt128-clause-size : goal.returns-then-bytes-lt128-clause-size
returns-then-bytes-lt128-clause-size c =
    let some : 0 < length c.args.bytes.now = grind (arith, common_steps) in
    (short_front c.args.bytes.now c.from.result some (sym c.from.ensures) (omega arith)).1

pub returns-then-bytes-gt1-clause-is : goal.returns-then-bytes-gt1-clause-is
returns-then-bytes-gt1-clause-is c =
    let n = c.from-then-bytes-gt1 in
    let same : c.in_ok-ok.field-0 ≡ n.result = search rules in
    let size : length (length_octets n.result) ≡ 2 = search rules in
    rw same (one_front c.args.bytes.now n.result (omega arith) c.if-bytes.true (sym n.ensures)
    (omega (arith, c.type_inv.bytes 1)) size)

pub returns-then-bytes-gt2-clause-is : goal.returns-then-bytes-gt2-clause-is
returns-then-bytes-gt2-clause-is c =
    let n = c.from-then-bytes-gt2 in
    let m = c.from-then-bytes-gt2-2 in
    let same : c.in_ok-ok-2.field-0 ≡ n.result * 256 + m.result = grind (arith, common_steps) in
    let size : length (length_octets (n.result * 256 + m.result)) ≡ 3 = grind (arith, common_steps) in
    rw same (two_front c.args.bytes.now n.result m.result (omega arith) c.if-bytes-2.true (sym n.ensures)
    (sym m.ensures) (omega (arith, c.type_inv.bytes 1)) (omega (arith, c.type_inv.bytes 2)) size)
