use Rattle.std.proofs.Common.{[], refl, sym}
use Rattle.std.proofs.lemmas.Result.{MatchResult-weaker}
use Rattle.picky_der_de.specs.Facts.{is_lawful}
use Rattle.picky_der_de.proofs.EntryReads.{err_both, front_read, front_refused}
use Rattle.picky_der_de.proofs.WholeRuled.{front_refused_by}
use Rattle.picky_der_de.proofs.entry.from_bytes.Goals as goal

pub returns-clause-ok : goal.returns-clause-ok
returns-clause-ok g c =
    let is = is_lawful g.T.Deserialize.facts g.met.T.Deserialize.proved in
    let slice = c.has_no_faults.ensures in
    MatchResult-weaker c.deserialize-result.result c.deserialize-result.ensures.ok
    (λ v r. front_read g.T.Serialize.meaning g.T.Deserialize.shape slice.left.0 [] c.new_from_reader-de.ensures
    slice.left.1 (sym slice.no_fault) g.T.PartialEq.eq is.sound is.injective v r)
    (λ e h. tt)

pub returns-clause-err : goal.returns-clause-err
returns-clause-err g c =
    let slice = c.has_no_faults.ensures in
    MatchResult-weaker c.deserialize-result.result c.deserialize-result.ensures.err
    (λ v h. tt)
    (λ e r. front_refused g.T.Serialize.meaning g.T.Deserialize.shape slice.left.0 [] c.new_from_reader-de.ensures
    slice.left.1 (sym slice.no_fault) refl r)

pub returns-clause-refused_by : goal.returns-clause-refused_by
returns-clause-refused_by g c =
    let slice = c.has_no_faults.ensures in
    MatchResult-weaker c.deserialize-result.result (err_both _ _ c.deserialize-result.result
    c.deserialize-result.ensures.err c.deserialize-result.ensures.refused_by)
    (λ v h. tt)
    (λ e r memory. front_refused_by g.T.Deserialize.facts.rule c.new_from_reader-de.ensures r.0 r.1 slice.no_fault
    memory c.args.bytes.now refl)
