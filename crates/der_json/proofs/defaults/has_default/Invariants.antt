use Rattle.std.proofs.Common.{length}
use Rattle.der_json.proofs.defaults.has_default.Given as goal

abbrev pub decreases-loop-element : goal.decreases-loop-element
decreases-loop-element l = length l.inside
