use Rattle.std.proofs.Common.{length}
use Rattle.der_ber_types.proofs.SetLemmas.{ArePassed}
use Rattle.der_ber_types.proofs.sets.first_of.Given as goal

abbrev pub invariant-loop-element : goal.invariant-loop-element
invariant-loop-element l = ArePassed l.nodes l.index l.bytes l.rest

abbrev pub decreases-loop-element : goal.decreases-loop-element
decreases-loop-element l = length l.rest
