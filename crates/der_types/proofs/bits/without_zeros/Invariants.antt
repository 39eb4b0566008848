use Rattle.std.proofs.Common.{◌≡◌, length}
use Rattle.der_types.specs.BitString.{without_zeros}
use Rattle.der_types.proofs.bits.without_zeros.Given as goal

abbrev pub decreases-loop-last : goal.decreases-loop-last
decreases-loop-last l = length l.used

abbrev pub invariant-loop-last : goal.invariant-loop-last
invariant-loop-last l = without_zeros l.used ≡ without_zeros l.bits
