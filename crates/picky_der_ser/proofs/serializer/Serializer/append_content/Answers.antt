use Rattle.std.proofs.Common.{◌<◌, ◌^◌, length, ap, ◌∙◌, arith, refl}
use Rattle.picky_der_core.specs.OpenWrappers.{under}
use Rattle.picky_der_core.specs.Encoding.{der}
use Rattle.picky_der_ser.specs.Headers.{tree_of}
use Rattle.picky_der_ser.specs.State.{Stack}
use Rattle.picky_der_ser.proofs.Alike.{writable-content}
use Rattle.picky_der_ser.proofs.StateWrites.{writable_counted, plain_inside, plain_refused, writes_inside, fails_memory}
use Rattle.picky_der_ser.proofs.serializer.Serializer.append_content.Goals as goal

pub returns-in-Ok : goal.returns-in-Ok
returns-in-Ok g c =
    let w = g.W.WriteExt in
    let t = tree_of c.args.header c.args.content.now in
    let ws = c.self.inside.levels.around in
    let fits = writable-content c.args.header c.args.content.now c.requires.number (omega arith) in
    let failed = rw (← c.self.view_is) at c.requires.had_not_failed in
    let inside = rw (← c.self.view_is) at c.requires.inside in
    let count = c.in-Ok.ensures.count in
    let small : length (der (under ws t)) < 2 ^ 64 = omega (arith, count) in
    let writable = writable_counted ws c.args.header c.args.content.now (c.append.ensures.numbers, c.requires.number)
    small in
    let closed = c.close_wrapper.ensures.closed in
    let added = c.in-Ok.ensures.ok in
    rw (← c.self.view_is)
    (plain_inside w t _ _ _ fits
    (writes_inside w t _ _ _ failed inside (λ h e. ap (λ (s : Stack). s.inside) closed
    ∙ ap (λ (s : Stack). s.inside) (added h e)) refl (ap (λ (s : Stack). s.around) closed) failed writable count)
    (omega arith) (g.met.W.WriteExt.later_refl _))

pub returns-in-Err : goal.returns-in-Err
returns-in-Err g c =
    let w = g.W.WriteExt in
    let t = tree_of c.args.header c.args.content.now in
    let fits = writable-content c.args.header c.args.content.now c.requires.number (omega arith) in
    let failed = rw (← c.self.view_is) at c.requires.had_not_failed in
    let inside = rw (← c.self.view_is) at c.requires.inside in
    rw (← c.self.view_is, c.fail.ensures.same, c.fail.ensures.error)
    (plain_refused w t _ _ _ fits (λ x y outside z. absurd (inside outside))
    (fails_memory w t _ _ _ failed refl refl refl) refl (omega arith)
    (g.met.W.WriteExt.later_refl _))
