use Rattle.picky_der_core.specs.Primitive.{Primitive}
use Rattle.picky_der_ser.proofs.Alike.{writes_primitive-as}
use Rattle.picky_der_ser.proofs.serializer.Serializer.serialize_str.Goals as goal

pub returns : goal.returns
returns g c = writes_primitive-as g.W.WriteExt (Primitive.text c.args.value.now) _ c.as_bytes.ensures.value _ _ _
    c.write_plain.ensures
