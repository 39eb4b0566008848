use Rattle.picky_asn1_der.specs.Parts.{first_member_of}
use Rattle.picky_asn1_der.proofs.PartLemmas.{first_part}
use Rattle.picky_asn1_der.proofs.parts.from_der_signed.Goals as goal

pub unreachable-requires : goal.unreachable-requires
unreachable-requires g c =
    let is = c.in_ok-value.ensures.ok.is in
    let t = g.T.Serialize.meaning c.in_ok-value.value in
    c.in-None.ensures.part t (first_member_of t) is.readable is.encoding
    (first_part g.T.Deserialize.shape t c.requires is.of_shape)

pub returns-clause-part : goal.returns-clause-part
returns-clause-part g c =
    let is = c.in_ok-value.ensures.ok.is in
    let t = g.T.Serialize.meaning c.in_ok-value.value in
    c.in-Some.ensures.part t (first_member_of t) is.readable is.encoding
    (first_part g.T.Deserialize.shape t c.requires is.of_shape)
