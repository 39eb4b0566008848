use Rattle.picky_der_core.proofs.LawProofs.{one_value}
use Rattle.picky_der_core.proofs.laws.one_value.Goals as goal

pub returns : goal.returns
returns c = one_value
