use Rattle.std.proofs.Common.{◌≡◌, ◌<◌, ◌^◌, ◌++◌, length, ap, ◌∙◌, refl, arith, subst, length-append}
use Rattle.picky_der_core.specs.Encoding.{der}
use Rattle.picky_der_core.specs.OpenWrappers.{under}
use Rattle.picky_der_core.specs.WriterFaults.{once_at_most}
use Rattle.picky_der_ser.specs.Headers.{tree_of, wrappers, CanAllBeOpen}
use Rattle.picky_der_ser.proofs.Alike.{writable-content}
use Rattle.picky_der_ser.proofs.StateWrites.{plain_outside, plain_refused, wrapped_fault, untouched_by_fault, wrote_by}
use Rattle.picky_der_ser.proofs.StateWrites.{refused_by, fails_memory, writable_counted, on_ok}
use Rattle.picky_der_ser.proofs.serializer.Serializer.put_wrapped.Goals as goal

pub returns-in_default : goal.returns-in_default
returns-in_default g c =
    let w = g.W.WriteExt in
    let t = tree_of c.args.header c.args.content.now in
    let fits = writable-content c.args.header c.args.content.now c.requires.number (omega arith) in
    rw (c.fail.ensures.same, c.fail.ensures.error)
    (plain_refused w t _ _ _ fits (λ x y z bare. absurd (c.requires.wrapped bare))
    (fails_memory w t _ _ _ c.requires.had_not_failed refl refl refl) refl (omega arith)
    (g.met.W.WriteExt.later_refl _))

pub returns : goal.returns
returns g c =
    let w = g.W.WriteExt in
    let bs = c.args.content.now in
    let t = tree_of c.args.header bs in
    let ws = c.self.inside.levels.around in
    let hs = c.push_headers.new.out.items in
    let r = c.put_headed-outcome.result in
    let e = c.put_headed-outcome.ensures in
    let fits = writable-content c.args.header bs c.requires.number (omega arith) in
    let failed = rw (← c.self.view_is) at c.requires.had_not_failed in
    let outside = rw (← c.self.view_is) at c.requires.outside in
    let wrapped = rw (← c.self.view_is) at c.requires.wrapped in
    let numbers : CanAllBeOpen ws = subst CanAllBeOpen c.around-around.ensures.around c.around-around.ensures.numbers in
    let whole : hs ++ bs ≡ der (under ws t) =
    c.in-Ok.ensures.ok bs refl
    ∙ ap (λ x. x ++ der (under (wrappers c.around-around.result) t)) c.new-headers.ensures.items
    ∙ ap (λ vs. der (under vs t)) c.around-around.ensures.around in
    let is : c.deref.result.now ++ bs ≡ der (under ws t) = ap (λ x. x ++ bs) c.deref.ensures.value ∙ whole in
    let small : length (c.deref.result.now ++ bs) < 2 ^ 64 = omega (arith, length-append c.deref.result.now bs) in
    let writable =
    writable_counted ws c.args.header bs (numbers, c.requires.number) (omega (arith, small, ap length is)) in
    rw (← c.self.view_is) (plain_outside w t _ c.settle.new.self _ _ r _ c.settle.ensures.same c.settle.ensures.sink.0
    c.settle.ensures.sink.1 fits failed outside (on_ok r outside) c.settle.ensures.ok c.settle.ensures.err
    (wrote_by w (under ws t) _ _ _ r writable is e.count e.appends)
    (refused_by w (under ws t) _ _ _ r writable is e.beginning e.fault) (wrapped_fault w ws _ _ r wrapped)
    (untouched_by_fault w _ _ r e.fault) e.no_fault (once_at_most w _ _ r e.no_fault e.fault) e.continues)
