use Rattle.std.proofs.Common.{length}
use Rattle.der_types.proofs.integer.significant.Given as goal

abbrev pub decreases-loop-others : goal.decreases-loop-others
decreases-loop-others l = length l.used
