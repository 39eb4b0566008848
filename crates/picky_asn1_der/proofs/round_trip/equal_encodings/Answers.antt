use Rattle.picky_der_de.specs.Faithful.{respects_of}
use Rattle.picky_asn1_der.proofs.SameEncodings.{equal_encodings}
use Rattle.picky_asn1_der.proofs.round_trip.equal_encodings.Goals as goal

pub returns : goal.returns
returns g c =
    equal_encodings g.T.Deserialize.facts g.met.T.Deserialize.proved
    (respects_of g.T.Faithful.sameness g.met.T.Faithful.respects)
