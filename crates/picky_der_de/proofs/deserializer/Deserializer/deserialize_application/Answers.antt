use Rattle.std.proofs.lemmas.Result.{MatchResult-weaker}
use Rattle.picky_der_de.proofs.WrapperReads.{refuses_wrapped}
use Rattle.picky_der_de.proofs.deserializer.Deserializer.deserialize_application.Goals as goal

pub returns-clause-err : goal.returns-clause-err
returns-clause-err g c = MatchResult-weaker c.read_wrapped.result c.read_wrapped.ensures.err (λ v h. tt)
    (λ e h. refuses_wrapped h)
