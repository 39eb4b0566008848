use Rattle.std.proofs.Common.{◌≡◌, ◌<◌, ◌^◌, length, drop, None, ap, subst, sym, ◌∙◌, arith, rules}
use Rattle.std.specs.Prelude.{IfSome}
use Rattle.picky_der_ser.specs.State.{Stack}
use Rattle.picky_der_ser.specs.Marks.{IsOpen, IsMark}
use Rattle.picky_der_ser.proofs.LevelWrites.{open_if, open_held, enclosed_rest, ended_outside}
use Rattle.picky_der_ser.proofs.LevelMarks.{state_with}
use Rattle.picky_der_ser.proofs.serializer.Serializer.close_any.Goals as goal

pub returns : goal.returns
returns g c =
    let s = c.self.inside in
    let l = s.levels in
    let m = c.args.mark.now in
    let old = state_with s.sink s.failed l in
    let f : s.failed ≡ None = search rules in
    let opened = open_if m s.failed l.inside l.pending f (rw (← c.self.view_is) at c.requires) in
    let h = open_held m l.inside l.pending opened in
    let mark : IsMark m h.0 = (subst (IsOpen m l.inside) h.1 opened).0 in
    let whole = c.in-Ok.ensures h.0 h.1 in
    let rest = subst (λ p. IfSome p (λ x. c.bytes_from.result.now ≡ drop m.at x.bytes))
    (ap (λ (x : Stack). x.pending) whole) c.bytes_from.ensures in
    let fits : length c.bytes_from.result.now < 2 ^ 64 = omega arith in
    let e = c.put_headed-outcome.ensures in
    let inside = c.settle.ensures.sink.1 ∙ ap (λ (x : Stack). x.inside) c.give_up.ensures
    ∙ ap (λ (x : Stack). x.inside) whole in
    rw (← c.self.view_is) (ended_outside g.W.WriteExt m h.0 old c.settle.new.self c.put_headed-outcome.new.sink
    c.bytes_from.result.now c.put_headed-outcome.result c.settle.result f h.1 opened
    (λ k. let test = rw k at (sym c.eq.ensures ∙ c.if-eq.false) in absurd (cc)) (rest ∙ enclosed_rest m h.0 mark) fits
    c.settle.ensures.same c.settle.ensures.sink.0 inside c.settle.ensures.ok c.settle.ensures.err e.count e.appends
    e.beginning e.fault e.no_fault e.continues)
