use Rattle.std.proofs.Common.{length}
use Rattle.der_types.proofs.bits.+weigh.Given as goal

abbrev pub decreases-weigh : goal.decreases-weigh
decreases-weigh l = length l.bits.now
