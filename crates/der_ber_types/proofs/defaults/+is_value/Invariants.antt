use Rattle.std.proofs.Common.{length}
use Rattle.der_ber_types.proofs.defaults.+is_value.Given as goal

abbrev pub decreases-is_value : goal.decreases-is_value
decreases-is_value l = length l.element.now
