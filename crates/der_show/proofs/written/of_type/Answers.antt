use Rattle.der_types.specs.Exact.{is_exact}
use Rattle.der_show.proofs.WrittenLemmas.{written_in_der, never_refused}
use Rattle.der_show.proofs.NotationLemmas.{denotes_checked}
use Rattle.der_show.proofs.written.of_type.Goals as goal

pub returns-clause-in_der : goal.returns-clause-in_der
returns-clause-in_der g c = λ passes value readable.
    let denoted = (is_exact g.T.Exact.values g.met.T.Exact.exact).sound value readable in
    written_in_der (g.T.Serialize.meaning value) readable
    (denotes_checked g.T.Notated.notation passes (g.T.Serialize.meaning value) denoted)

pub returns-clause-never_refused : goal.returns-clause-never_refused
returns-clause-never_refused g c = λ passes value readable outline is.
    let denoted = (is_exact g.T.Exact.values g.met.T.Exact.exact).sound value readable in
    never_refused (g.T.Serialize.meaning value) readable
    (denotes_checked g.T.Notated.notation passes (g.T.Serialize.meaning value) denoted) outline is
