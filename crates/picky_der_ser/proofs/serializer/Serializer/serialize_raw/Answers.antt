use Rattle.std.proofs.Common.{◌≡◌, None, sym, refl, arith, rules}
use Rattle.picky_der_core.specs.EncodingLaws.{der-raw}
use Rattle.picky_der_core.specs.Tree.{Tree}
use Rattle.picky_der_ser.specs.declared.header.Header.TheVariants.{Raw}
use Rattle.picky_der_ser.proofs.Alike.{writable-content}
use Rattle.picky_der_ser.proofs.StateWrites.{plain_gained}
use Rattle.picky_der_ser.proofs.serializer.Serializer.serialize_raw.Goals as goal

pub returns-then-append_few : goal.returns-then-append_few
returns-then-append_few g c =
    let bs = c.args.bytes.now in
    let fits = writable-content Raw bs tt (omega arith) in
    let failed : c.self.inside.failed ≡ None = search rules in
    rw (← c.self.view_is)
    (plain_gained g.W.WriteExt (Tree.raw bs) bs _ _ _ fits (sym (der-raw bs)) refl failed
    (c.if-append_few.ensures.yes refl) refl refl (g.met.W.WriteExt.later_refl _))
