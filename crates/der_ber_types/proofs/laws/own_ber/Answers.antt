use Rattle.der_ber_types.proofs.LawLemmas.{own_ber}
use Rattle.der_ber_types.proofs.laws.own_ber.Goals as goal

pub returns : goal.returns
returns c = own_ber
