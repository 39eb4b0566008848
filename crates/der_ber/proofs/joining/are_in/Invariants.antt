use Rattle.std.proofs.Common.{◌≡◌, true, take}
use Rattle.der_ber.specs.Parts.{are_in}
use Rattle.der_ber.proofs.joining.are_in.Given as goal

abbrev pub invariant-loop-part : goal.invariant-loop-part
invariant-loop-part l = are_in l.segment (take l.part-index l.inside) ≡ true
