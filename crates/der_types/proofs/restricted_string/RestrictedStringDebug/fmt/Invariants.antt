use Rattle.std.proofs.Common.{length}
use Rattle.der_types.proofs.restricted_string.RestrictedStringDebug.fmt.Given as goal

abbrev pub decreases-loop-code : goal.decreases-loop-code
decreases-loop-code g l = length l.rest
