use Rattle.std.proofs.lemmas.Result.{MatchResult-weaker}
use Rattle.picky_der_de.specs.Facts.{is_lawful}
use Rattle.picky_der_de.proofs.EntryReads.{err_both, reads_front, refuses_front}
use Rattle.picky_der_de.proofs.WholeRuled.{front_refused_by}
use Rattle.std.proofs.Common.{sym, ◌∙◌}
use Rattle.picky_der_de.proofs.entry.read_from.Goals as goal

pub returns-clause-ok : goal.returns-clause-ok
returns-clause-ok g c =
    let is = is_lawful g.T.Deserialize.facts g.met.T.Deserialize.proved in
    MatchResult-weaker c.deserialize-result.result c.deserialize-result.ensures.ok
    (λ v r. reads_front g.T.Serialize.meaning g.T.Deserialize.shape _ _ c.new_from_reader-de.ensures
    c.into_reader.ensures.input c.into_reader.ensures.faults g.T.PartialEq.eq is.sound is.injective v r)
    (λ e h. tt)

pub returns-clause-err : goal.returns-clause-err
returns-clause-err g c =
    MatchResult-weaker c.deserialize-result.result c.deserialize-result.ensures.err
    (λ v h. tt)
    (λ e r. refuses_front g.T.Serialize.meaning g.T.Deserialize.shape _ _ c.new_from_reader-de.ensures
    c.into_reader.ensures.input c.into_reader.ensures.faults r)

pub returns-clause-refused_by : goal.returns-clause-refused_by
returns-clause-refused_by g c =
    MatchResult-weaker c.deserialize-result.result (err_both _ _ c.deserialize-result.result
    c.deserialize-result.ensures.err c.deserialize-result.ensures.refused_by)
    (λ v h. tt)
    (λ e r still memory bytes k. front_refused_by g.T.Deserialize.facts.rule c.new_from_reader-de.ensures r.0 r.1
    (sym c.into_reader.ensures.faults ∙ still) memory bytes k)
