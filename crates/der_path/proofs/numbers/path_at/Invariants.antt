use Rattle.std.proofs.Common.{length}
use Rattle.der_path.proofs.Paths.{LeadsTo}
use Rattle.der_path.proofs.numbers.path_at.Given as goal

abbrev pub invariant-loop-member : goal.invariant-loop-member
invariant-loop-member l = LeadsTo l.bytes l.place l.path.items l.around l.inner

abbrev pub decreases-loop-member : goal.decreases-loop-member
decreases-loop-member l = length l.around
