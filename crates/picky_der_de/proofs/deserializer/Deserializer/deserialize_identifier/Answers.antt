use Rattle.std.proofs.Common.{◌∙◌, sym, ap}
use Rattle.std.proofs.lemmas.Result.{MatchResult-weaker}
use Rattle.picky_der_de.specs.State.{State}
use Rattle.picky_der_de.proofs.Peeked.{identifier_unread}
use Rattle.picky_der_de.proofs.deserializer.Deserializer.deserialize_identifier.Goals as goal

pub returns-in-None-clause-err : goal.returns-in-None-clause-err
returns-in-None-clause-err g c =
    let whole = sym (ap (λ (s : State). s.implicit_tag) c.self.view_is) ∙ c.in-None.is in
    MatchResult-weaker c.peek_tag.result c.peek_tag.ensures.err (λ tag k. tt) (λ e k. identifier_unread whole k)

pub returns-in-None-clause-last : goal.returns-in-None-clause-last
returns-in-None-clause-last g c =
    MatchResult-weaker c.peek_tag.result c.peek_tag.ensures.err (λ tag k. tt) (λ e k. ap (λ (s : State). s.last)
    k.refuses.same)
