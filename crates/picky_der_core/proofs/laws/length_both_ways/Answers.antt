use Rattle.picky_der_core.proofs.LawProofs.{length_both_ways}
use Rattle.picky_der_core.proofs.laws.length_both_ways.Goals as goal

pub returns : goal.returns
returns c = length_both_ways
