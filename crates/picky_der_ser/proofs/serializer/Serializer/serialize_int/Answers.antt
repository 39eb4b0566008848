use Rattle.std.proofs.Common.{sym, ap, ◌∙◌}
use Rattle.picky_der_core.specs.Integer.{integer_content, content_within}
use Rattle.picky_der_core.specs.Primitive.{Primitive}
use Rattle.picky_der_core.specs.IntLaws.{within-fits}
use Rattle.picky_der_ser.proofs.Alike.{writes_primitive-as}
use Rattle.picky_der_ser.proofs.serializer.Serializer.serialize_int.Goals as goal

pub returns-clause-written : goal.returns-clause-written
returns-clause-written g c =
    let is = c.as_slice.ensures ∙ c.of-content.ensures ∙ ap integer_content c.into_bits.ensures.is in
    writes_primitive-as g.W.WriteExt (Primitive.bytes 0x02 (integer_content (g.N.Int.number c.args.number))) _ is _ _ _
    c.write_plain.ensures

pub returns-clause-meant : goal.returns-clause-meant
returns-clause-meant g c =
    let is = c.as_slice.ensures ∙ c.of-content.ensures ∙ ap integer_content c.into_bits.ensures.is
    ∙ sym (within-fits g.N.Int.fits (g.N.Int.number c.args.number) c.into_bits.ensures.fits) in
    writes_primitive-as g.W.WriteExt (Primitive.bytes 0x02 (content_within g.N.Int.fits (g.N.Int.number c.args.number)))
    _ is _ _ _ c.write_plain.ensures
