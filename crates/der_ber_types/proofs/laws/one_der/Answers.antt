use Rattle.der_ber_types.proofs.LawLemmas.{one_der}
use Rattle.der_ber_types.proofs.laws.one_der.Goals as goal

pub returns : goal.returns
returns c = one_der
