use Rattle.std.proofs.Common.{◌+◌, length}
use Rattle.der_elements.proofs.Later.{Remain, size}
use Rattle.der_elements.proofs.well_formed.are_well_formed.Given as goal

abbrev pub invariant-loop-rest : goal.invariant-loop-rest
invariant-loop-rest l = Remain l.fn.bytes l.rest l.later.items

abbrev pub decreases-loop-rest : goal.decreases-loop-rest
decreases-loop-rest l = length l.rest + size l.later.items
