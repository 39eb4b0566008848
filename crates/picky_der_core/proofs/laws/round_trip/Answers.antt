use Rattle.picky_der_core.proofs.LawProofs.{round_trip}
use Rattle.picky_der_core.proofs.laws.round_trip.Goals as goal

pub returns : goal.returns
returns c = round_trip
