use Rattle.der_read.proofs.FittingLemmas.{ComesTo}
use Rattle.der_read.proofs.message.fitting_types.Given as goal

abbrev pub invariant-loop-named : goal.invariant-loop-named
invariant-loop-named l = ComesTo l.bytes l.tried l.named-index l.fitting.items
