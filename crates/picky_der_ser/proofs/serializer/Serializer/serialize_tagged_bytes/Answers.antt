use Rattle.std.proofs.Common.{◌<◌, arith}
use Rattle.picky_der_core.specs.Tag.{number_of}
use Rattle.picky_der_ser.proofs.Alike.{plain_past}
use Rattle.picky_der_ser.proofs.serializer.Serializer.serialize_tagged_bytes.Goals as goal

pub returns-in-None : goal.returns-in-None
returns-in-None g c =
    let past : 30 < number_of c.args.tag = omega (arith, c.number.ensures) in
    rw (c.fail.ensures.same, c.fail.ensures.error)
    (plain_past g.W.WriteExt c.args.tag c.args.content.now _ past c.in-None.ensures.not_failed
    (g.met.W.WriteExt.later_refl _))
