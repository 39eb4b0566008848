use Rattle.std.proofs.Common.{◌≡◌, take}
use Rattle.der_ber.specs.Parts.{written}
use Rattle.der_ber.proofs.parts.written.Given as goal

abbrev pub invariant-loop-part : goal.invariant-loop-part
invariant-loop-part l = l.bytes.items ≡ written (take l.part-index l.parts)
