use Rattle.std.proofs.lemmas.Result.{err_from_is_err_and}
use Rattle.picky_asn1_der.proofs.AddedReads.{parts_refused}
use Rattle.picky_asn1_der.proofs.added.deserialize_members_as.Goals as goal

pub returns-in_err-members-clause-err : goal.returns-in_err-members-clause-err
returns-in_err-members-clause-err g c =
    let p = err_from_is_err_and c.from_residual.result c.from_residual.ensures.1 in
    rw (p.1, p.2) (parts_refused g.T.Struct.parts c.in_err-members.ensures.err)

pub returns-in_err-members-clause-refused_by : goal.returns-in_err-members-clause-refused_by
returns-in_err-members-clause-refused_by g c =
    let p = err_from_is_err_and c.from_residual.result c.from_residual.ensures.1 in
    rw (p.1, p.2) c.in_err-members.ensures.refused_by
