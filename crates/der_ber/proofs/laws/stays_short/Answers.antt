use Rattle.der_ber.proofs.LawLemmas.{stays_short}
use Rattle.der_ber.proofs.laws.stays_short.Goals as goal

pub returns : goal.returns
returns c = stays_short
