use Rattle.std.proofs.Common.{◌+◌, ◌*◌}
use Rattle.der_ber_types.specs.Inside.{NoneBefore}
use Rattle.der_ber_types.proofs.inside.+inside.Given as goal

abbrev pub decreases-inside_of : goal.decreases-inside_of
decreases-inside_of l = 2 * l.index + 1

abbrev pub decreases-inside_of_one : goal.decreases-inside_of_one
decreases-inside_of_one l = 2 * l.index

abbrev pub invariant-inside_of_one-loop-alternative : goal.invariant-inside_of_one-loop-alternative
invariant-inside_of_one-loop-alternative l = NoneBefore l.nodes l.index l.alternatives l.alternative-index l.tag
