use Rattle.std.proofs.Common.{◌≡◌, None, sym, refl, arith, rules}
use Rattle.picky_der_core.specs.Encoding.{der}
use Rattle.picky_der_core.specs.Primitive.{Primitive}
use Rattle.picky_der_core.specs.Tree.{Tree}
use Rattle.picky_der_ser.proofs.Alike.{writable-bytes}
use Rattle.picky_der_ser.proofs.StateWrites.{plain_gained}
use Rattle.picky_der_ser.proofs.serializer.Serializer.write_plain.Goals as goal

pub returns-then-append_short : goal.returns-then-append_short
returns-then-append_short g c =
    let t = Tree.primitive (Primitive.bytes c.args.tag c.args.content.now) in
    let fits = writable-bytes c.args.tag c.args.content.now c.requires (omega arith) in
    let failed : c.self.inside.failed ≡ None = search rules in
    rw (← c.self.view_is)
    (plain_gained g.W.WriteExt t (der t) _ _ _ fits refl (sym (c.if-append_short.ensures.count refl)) failed
    (c.if-append_short.ensures.yes refl) refl refl (g.met.W.WriteExt.later_refl _))
