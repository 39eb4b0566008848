use Rattle.std.proofs.Common.{arith}
use Rattle.std.proofs.lemmas.Int.Digits.{number_more}
use Rattle.der_ber.proofs.Numbers.{large_number}
use Rattle.der_ber.proofs.lengths.number_of.Goals as goal

pub returns-then-number-ge-LAST_STEP : goal.returns-then-number-ge-LAST_STEP
returns-then-number-ge-LAST_STEP c =
    large_number c.args.octets.now c.loop-octet.octet-index c.loop-octet.number (omega arith) c.loop-octet.invariant
    (omega arith)

pub loop-octet-preserved : goal.loop-octet-preserved
loop-octet-preserved c =
    let more = number_more 256 c.args.octets.now c.loop-octet.octet-index (omega arith) in
    omega (arith, more, c.loop-octet.invariant, c.from.ensures)
