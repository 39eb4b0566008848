use Rattle.std.proofs.Common.{◌∙◌}
use Rattle.std.proofs.lemmas.Result.{MatchResult-weaker}
use Rattle.picky_asn1_der.proofs.RoundTrips.{reads_encoding}
use Rattle.picky_asn1_der.proofs.round_trip.read_back.Goals as goal

pub returns-clause-equal : goal.returns-clause-equal
returns-clause-equal g c =
    let reads = reads_encoding g.T.Deserialize.facts g.met.T.Deserialize.proved c.args.value.now c.deref.result.now
    c.requires.readable (c.deref.ensures.value ∙ c.in_ok-bytes.ensures.ok) in
    MatchResult-weaker c.from_bytes.result c.from_bytes.ensures.ok (λ back h. h.only c.args.value.now reads) (λ e h. tt)

pub returns-clause-same : goal.returns-clause-same
returns-clause-same g c =
    let reads = reads_encoding g.T.Deserialize.facts g.met.T.Deserialize.proved c.args.value.now c.deref.result.now
    c.requires.readable (c.deref.ensures.value ∙ c.in_ok-bytes.ensures.ok) in
    MatchResult-weaker c.from_bytes.result c.from_bytes.ensures.ok (λ back h. h.same c.args.value.now reads) (λ e h. tt)
