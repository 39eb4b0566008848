use Rattle.std.proofs.lemmas.Result.{MatchResult-weaker}
use Rattle.picky_der_de.proofs.WrapperReads.{refuses_wrapped}
use Rattle.picky_der_de.proofs.deserializer.Deserializer.deserialize_implicit_list.Goals as goal

pub returns-clause-err : goal.returns-clause-err
returns-clause-err g c = MatchResult-weaker c.read_wrapped.result (rw c.inner.ensures at c.read_wrapped.ensures.err)
    (λ v h. tt) (λ e h. refuses_wrapped h)

pub returns-clause-refused_by : goal.returns-clause-refused_by
returns-clause-refused_by g c = rw c.inner.ensures at c.read_wrapped.ensures.refused_by
