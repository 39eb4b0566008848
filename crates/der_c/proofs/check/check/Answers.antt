use Rattle.der_c.proofs.Findings.{verdict}
use Rattle.der_c.proofs.check.check.Goals as goal

pub returns : goal.returns
returns c = verdict _ _ _ _ c.find.ensures
