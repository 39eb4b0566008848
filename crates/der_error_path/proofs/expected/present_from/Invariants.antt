use Rattle.std.proofs.Common.{◌≡◌, length}
use Rattle.der_error_path.specs.Awaited.{present_from}
use Rattle.der_error_path.proofs.expected.present_from.Given as goal

abbrev pub invariant-loop-left : goal.invariant-loop-left
invariant-loop-left l = present_from l.nodes l.tag l.members ≡ present_from l.nodes l.tag l.left

abbrev pub decreases-loop-left : goal.decreases-loop-left
decreases-loop-left l = length l.left
