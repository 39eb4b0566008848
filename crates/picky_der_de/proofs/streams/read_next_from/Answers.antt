use Rattle.std.proofs.lemmas.Option.{IfSome_then}
use Rattle.std.proofs.lemmas.Result.{MatchResult-weaker}
use Rattle.picky_der_de.specs.Facts.{is_lawful}
use Rattle.picky_der_de.proofs.EntryReads.{err_both, reads_front, refuses_next_value}
use Rattle.std.proofs.Common.{sym, ◌∙◌}
use Rattle.picky_der_de.specs.Rules.{next_rule}
use Rattle.picky_der_de.proofs.WholeRuled.{front_refused_by}
use Rattle.picky_der_de.proofs.streams.read_next_from.Goals as goal

pub returns-clause-value : goal.returns-clause-value
returns-clause-value g c =
    let is = is_lawful g.T.Deserialize.facts g.met.T.Deserialize.proved in
    MatchResult-weaker c.next_value-next.result c.next_value-next.ensures.value
    (λ next h. IfSome_then next h (λ v r. reads_front g.T.Serialize.meaning g.T.Deserialize.shape _ _
    c.new_from_reader-de.ensures c.into_reader.ensures.input c.into_reader.ensures.faults g.T.PartialEq.eq is.sound
    is.injective v r))
    (λ e h. tt)

pub returns-clause-err : goal.returns-clause-err
returns-clause-err g c =
    MatchResult-weaker c.next_value-next.result (err_both _ _ c.next_value-next.result c.next_value-next.ensures.err
    c.next_value-next.ensures.ahead)
    (λ next h. tt)
    (λ e r. refuses_next_value g.T.Serialize.meaning g.T.Deserialize.shape _ _ c.new_from_reader-de.ensures
    c.into_reader.ensures.input c.into_reader.ensures.faults r.0 r.1)

pub returns-clause-refused_by : goal.returns-clause-refused_by
returns-clause-refused_by g c =
    MatchResult-weaker c.next_value-next.result (err_both _ _ c.next_value-next.result c.next_value-next.ensures.err
    c.next_value-next.ensures.refused_by)
    (λ next h. tt)
    (λ e r still memory bytes k. front_refused_by (next_rule g.T.Deserialize.facts.rule) c.new_from_reader-de.ensures
    r.0 r.1 (sym c.into_reader.ensures.faults ∙ still) memory bytes k)
