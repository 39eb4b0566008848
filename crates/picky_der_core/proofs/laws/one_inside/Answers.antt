use Rattle.picky_der_core.proofs.LawProofs.{one_inside}
use Rattle.picky_der_core.proofs.laws.one_inside.Goals as goal

pub returns : goal.returns
returns c = one_inside
