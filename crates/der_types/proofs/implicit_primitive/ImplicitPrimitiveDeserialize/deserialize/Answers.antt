use Rattle.std.proofs.Common.{subst}
use Rattle.std.proofs.lemmas.Result.{err_from_is_err_and}
use Rattle.picky_der_core.specs.Primitive.{Primitive}
use Rattle.picky_der_core.specs.Tree.{Tree}
use Rattle.picky_der_de.proofs.PlainReads.{refuses_of}
use Rattle.der_types.specs.ContentTests.{RefusesContent}
use Rattle.der_types.specs.PrimitiveForm.{primitive_form}
use Rattle.der_types.proofs.implicit_primitive.ImplicitPrimitiveDeserialize.deserialize.Given.{Over}
use Rattle.der_types.proofs.implicit_primitive.ImplicitPrimitiveDeserialize.deserialize.Goals as goal
use Rattle.der_types.proofs.implicit_primitive.ImplicitPrimitiveDeserialize.deserialize.Goals.{In_err-value}

-- the tag that is asked for is the one in place of the type's own
before : (g : Over) (c : In_err-value g)
    → RefusesContent g.T.Contents.content (primitive_form g.row.TAG) g.T.Contents.is_content c.args.deserializer.now
    c.deserialize_contents_under.new.de c.in_err-value.field-0.0
before g c =
    subst (λ tag. RefusesContent g.T.Contents.content tag g.T.Contents.is_content c.args.deserializer.now
    c.deserialize_contents_under.new.de c.in_err-value.field-0.0) c.primitive_form.ensures
    c.in_err-value.ensures.refused

pub returns-in_err-value-clause-err : goal.returns-in_err-value-clause-err
returns-in_err-value-clause-err g c =
    let p = err_from_is_err_and c.from_residual.result c.from_residual.ensures.1 in
    rw (p.1, p.2)
    (refuses_of {meaning =
    λ v. Tree.primitive (Primitive.bytes (primitive_form g.row.TAG) (g.T.Contents.content v))} (λ w. w.0)
    (before g c.before).refuses)

pub returns-in_err-value-clause-refused : goal.returns-in_err-value-clause-refused
returns-in_err-value-clause-refused g c =
    let p = err_from_is_err_and c.from_residual.result c.from_residual.ensures.1 in
    let refused = before g c.before in
    rw (p.1, p.2)
    (record {
      refuses =
          refuses_of {meaning =
          λ v. Tree.primitive (Primitive.bytes (primitive_form g.row.TAG) (g.T.Contents.content v))}
          (λ w. w.0) refused.refuses;
      just = refused.just;
      by = refused.by;
    })

pub returns-in_err-value-clause-refused_by : goal.returns-in_err-value-clause-refused_by
returns-in_err-value-clause-refused_by g c =
    let p = err_from_is_err_and c.from_residual.result c.from_residual.ensures.1 in
    rw (p.1, p.2) (before g c.before).by
