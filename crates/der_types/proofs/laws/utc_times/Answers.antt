use Rattle.der_types.specs.TimeChoiceLaws.{utc-one}
use Rattle.der_types.specs.TimeLaws.{utc-valid}
use Rattle.der_types.proofs.laws.utc_times.Goals as goal

pub returns-clause-made : goal.returns-clause-made
returns-clause-made c = utc-valid

pub returns-clause-one : goal.returns-clause-one
returns-clause-one c = utc-one
