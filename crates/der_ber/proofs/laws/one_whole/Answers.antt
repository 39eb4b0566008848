use Rattle.der_ber.proofs.LawLemmas.{one_whole}
use Rattle.der_ber.proofs.laws.one_whole.Goals as goal

pub returns : goal.returns
returns c = one_whole
