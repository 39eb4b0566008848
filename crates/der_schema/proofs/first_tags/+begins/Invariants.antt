use Rattle.std.proofs.Common.{◌≡◌, ◌+◌, ◌*◌, length}
use Rattle.der_schema.specs.Begins.{one_begins}
use Rattle.der_schema.proofs.first_tags.+begins.Given as goal

abbrev pub decreases-begins : goal.decreases-begins
decreases-begins l = 3 * l.index + 2

abbrev pub decreases-kind_begins : goal.decreases-kind_begins
decreases-kind_begins l = 3 * l.index + 1

abbrev pub decreases-one_begins : goal.decreases-one_begins
decreases-one_begins l = 3 * l.index

-- the alternatives that are left decide
abbrev pub invariant-one_begins-loop-left : goal.invariant-one_begins-loop-left
invariant-one_begins-loop-left l =
    one_begins l.nodes l.index l.tag l.alternatives ≡ one_begins l.nodes l.index l.tag l.left

abbrev pub decreases-one_begins-loop-left : goal.decreases-one_begins-loop-left
decreases-one_begins-loop-left l = length l.left
