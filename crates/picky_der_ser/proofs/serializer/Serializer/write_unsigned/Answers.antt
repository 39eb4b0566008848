use Rattle.std.proofs.Common.{◌∙◌}
use Rattle.picky_der_core.specs.Primitive.{Primitive}
use Rattle.picky_der_ser.proofs.Alike.{writes_primitive-as}
use Rattle.picky_der_ser.proofs.serializer.Serializer.write_unsigned.Goals as goal

pub returns : goal.returns
returns g c = writes_primitive-as g.W.WriteExt (Primitive.unsigned c.args.number) _ (c.as_slice.ensures
    ∙ c.of-digits.ensures) _ _ _ c.write_plain.ensures
