use Rattle.std.proofs.Common.{◌≡◌, length}
use Rattle.der_error_path.specs.Awaited.{first_required}
use Rattle.der_error_path.proofs.expected.first_required.Given as goal

abbrev pub invariant-loop-left : goal.invariant-loop-left
invariant-loop-left l = first_required l.members ≡ first_required l.left

abbrev pub decreases-loop-left : goal.decreases-loop-left
decreases-loop-left l = length l.left
