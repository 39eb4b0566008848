use Rattle.std.proofs.Common.{◌≡◌, length}
use Rattle.der_error_path.specs.Inside.{first_beginning}
use Rattle.der_error_path.proofs.inside.first_beginning.Given as goal

abbrev pub invariant-loop-left : goal.invariant-loop-left
invariant-loop-left l = first_beginning l.nodes l.tag l.alternatives ≡ first_beginning l.nodes l.tag l.left

abbrev pub decreases-loop-left : goal.decreases-loop-left
decreases-loop-left l = length l.left
