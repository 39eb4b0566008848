use Rattle.std.proofs.Common.{refl}
use Rattle.picky_der_core.specs.Primitive.{Primitive}
use Rattle.picky_der_ser.proofs.Alike.{writes_primitive-as}
use Rattle.picky_der_ser.proofs.impls.plain.UnitSerialize.serialize.Goals as goal

pub returns : goal.returns
returns g c = record { plain = writes_primitive-as g.W.WriteExt Primitive.null _ refl _ _ _ c.write_plain.ensures }
