use Rattle.std.proofs.Common.{refl}
use Rattle.std.proofs.lemmas.Result.{err_from_is_err_and}
use Rattle.picky_der_de.proofs.EntryReads.{slice_refused}
use Rattle.picky_der_de.proofs.streams.next_from_bytes.Goals as goal

pub returns-in_err-value-clause-err : goal.returns-in_err-value-clause-err
returns-in_err-value-clause-err g c =
    let p = err_from_is_err_and c.from_residual.result c.from_residual.ensures.1 in
    rw (p.1, p.2) (slice_refused g.T.Serialize.meaning g.T.Deserialize.shape refl refl refl c.in_err-value.ensures.err)

pub returns-clause-ok : goal.returns-clause-ok
returns-clause-ok g c = c.in_ok-value.ensures.ok.front c.args.bytes.now refl

pub returns-in_err-value-clause-refused_by : goal.returns-in_err-value-clause-refused_by
returns-in_err-value-clause-refused_by g c =
    let p = err_from_is_err_and c.from_residual.result c.from_residual.ensures.1 in
    rw (p.1, p.2) (λ memory. c.in_err-value.ensures.refused_by refl memory c.args.bytes.now refl)
