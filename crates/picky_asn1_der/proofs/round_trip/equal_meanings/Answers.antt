use Rattle.picky_der_de.specs.Faithful.{respects_of}
use Rattle.picky_asn1_der.proofs.round_trip.equal_meanings.Goals as goal

pub returns : goal.returns
returns g c = respects_of g.T.Faithful.sameness g.met.T.Faithful.respects
