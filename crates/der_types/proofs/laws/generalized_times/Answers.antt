use Rattle.der_types.specs.GeneralizedTimeLaws.{cmp_times, same_times}
use Rattle.der_types.proofs.laws.generalized_times.Goals as goal

pub returns-clause-order : goal.returns-clause-order
returns-clause-order c = cmp_times

pub returns-clause-equality : goal.returns-clause-equality
returns-clause-equality c = same_times
