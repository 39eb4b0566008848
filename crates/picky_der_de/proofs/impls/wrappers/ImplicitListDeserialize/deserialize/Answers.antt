use Rattle.std.proofs.lemmas.Result.{err_from_is_err_and}
use Rattle.picky_der_core.specs.declared.asn1.wrapper.Wrapper.TheVariants.{ImplicitList}
use Rattle.picky_der_core.specs.Tree.{Tree}
use Rattle.picky_der_de.proofs.PlainReads.{refuses_of}
use Rattle.picky_der_de.proofs.impls.wrappers.ImplicitListDeserialize.deserialize.Goals as goal

pub returns-in_err-value-clause-err : goal.returns-in_err-value-clause-err
returns-in_err-value-clause-err g c =
    let p = err_from_is_err_and c.from_residual.result c.from_residual.ensures.1 in
    rw (p.1, p.2) (refuses_of {meaning = λ v. Tree.wrapped (ImplicitList g.row.TAG) (g.T.Serialize.meaning v)}
    (λ w. w.0) (rw c.from.ensures at c.in_err-value.ensures.err))

pub returns-in_err-value-clause-refused_by : goal.returns-in_err-value-clause-refused_by
returns-in_err-value-clause-refused_by g c =
    let p = err_from_is_err_and c.from_residual.result c.from_residual.ensures.1 in
    rw (p.1, p.2) (rw c.from.ensures at c.in_err-value.ensures.refused_by)
