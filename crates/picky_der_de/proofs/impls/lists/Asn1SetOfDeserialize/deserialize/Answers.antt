use Rattle.std.proofs.lemmas.Result.{err_from_is_err_and}
use Rattle.picky_der_de.proofs.PlainReads.{refuses_of}
use Rattle.picky_der_de.proofs.impls.lists.Asn1SetOfDeserialize.deserialize.Goals as goal

pub returns-in_err-read_list-clause-err : goal.returns-in_err-read_list-clause-err
returns-in_err-read_list-clause-err g c =
    let p = err_from_is_err_and c.from_residual.result c.from_residual.ensures.1 in
    rw (p.1, p.2) (refuses_of (λ list. list.0.items) c.in_err-read_list.ensures.err)

pub returns-in_err-read_list-clause-refused_by : goal.returns-in_err-read_list-clause-refused_by
returns-in_err-read_list-clause-refused_by g c =
    let p = err_from_is_err_and c.from_residual.result c.from_residual.ensures.1 in
    rw (p.1, p.2) c.in_err-read_list.ensures.refused_by
