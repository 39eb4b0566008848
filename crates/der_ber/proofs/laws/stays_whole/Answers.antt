use Rattle.der_ber.proofs.LawLemmas.{stays_whole}
use Rattle.der_ber.proofs.laws.stays_whole.Goals as goal

pub returns : goal.returns
returns c = stays_whole
