use Rattle.std.proofs.Common.{sym, ap, ◌∙◌, arith}
use Rattle.picky_der_core.specs.Primitive.{Primitive}
use Rattle.picky_der_core.specs.Tree.{Tree}
use Rattle.picky_der_core.specs.WriterFaults.{once_at_most}
use Rattle.picky_der_core.specs.EncodingLaws.{der-primitive}
use Rattle.picky_der_ser.specs.State.{Stack}
use Rattle.picky_der_ser.proofs.Alike.{writable-bytes}
use Rattle.picky_der_ser.proofs.StateWrites.{plain_outside, bare_wrote, bare_refused, bare_fault, untouched_by_fault}
use Rattle.picky_der_ser.proofs.StateWrites.{on_ok}
use Rattle.picky_der_ser.proofs.serializer.Serializer.put_plain.Goals as goal

pub returns : goal.returns
returns g c =
    let w = g.W.WriteExt in
    let t = Tree.primitive (Primitive.bytes c.args.tag c.args.content.now) in
    let r = c.put_element-outcome.result in
    let e = c.put_element-outcome.ensures in
    let fits = writable-bytes c.args.tag c.args.content.now c.requires.number (omega arith) in
    let is = sym (der-primitive (Primitive.bytes c.args.tag c.args.content.now)) in
    let failed = rw (← c.self.view_is) at c.requires.had_not_failed in
    let outside = rw (← c.self.view_is) at c.requires.outside in
    let bare = rw (← c.self.view_is) at c.requires.bare in
    let still = ap (λ (s : Stack). s.inside) c.give_up.ensures ∙ outside in
    rw (← c.self.view_is) (plain_outside w t _ c.settle.new.self _ _ r _ c.settle.ensures.same c.settle.ensures.sink.0
    c.settle.ensures.sink.1 fits failed outside (on_ok r still) c.settle.ensures.ok c.settle.ensures.err
    (bare_wrote w t _ _ _ _ r bare fits is e.count e.appends)
    (bare_refused w t _ _ _ _ r bare fits is e.beginning e.fault) (bare_fault w _ _ _ r e.fault)
    (untouched_by_fault w _ _ r e.fault) e.no_fault (once_at_most w _ _ r e.no_fault e.fault) e.continues)
