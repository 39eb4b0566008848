use Rattle.std.proofs.Common.{◌+◌, ◌*◌}
use Rattle.der_json.proofs.writer.Writer.+written.Given as goal

abbrev pub decreases-value : goal.decreases-value
decreases-value l = 3 * l.limit

abbrev pub decreases-contained : goal.decreases-contained
decreases-contained l = 3 * l.limit + 1

abbrev pub decreases-member : goal.decreases-member
decreases-member l = 3 * l.limit + 1

abbrev pub decreases-wrapped : goal.decreases-wrapped
decreases-wrapped l = 3 * l.limit + 2

abbrev pub decreases-members : goal.decreases-members
decreases-members l = 3 * l.limit + 2

abbrev pub decreases-items : goal.decreases-items
decreases-items l = 3 * l.limit + 2

abbrev pub decreases-choice : goal.decreases-choice
decreases-choice l = 3 * l.limit + 2
