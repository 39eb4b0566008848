use Rattle.std.proofs.Common.{◌≡◌, suc, ◌+◌, ◌<◌, ◌≤◌, ◌^◌, length, None, ◌∙◌, refl, ap, arith}
use Rattle.picky_der_core.specs.Peeking.{count_of_any}
use Rattle.picky_der_de.specs.State.{State}
use Rattle.picky_der_de.proofs.Ahead.{at_most_one, prefix_fits, shown_prefix, consumed_shown, reads_short}
use Rattle.picky_der_de.proofs.deserializer.Deserializer.short_plain.Goals as goal

pub returns-clause-read : goal.returns-clause-read
returns-clause-read g c =
    let k = c.in-Ok.ensures in
    let e = c.take_few.ensures in
    let h = rw (c.TAG.ensures ∙ g.met.K.PlainKind.tagged) at c.in_ok-content.ensures in
    let few : count_of_any c.self.inside.reader.peeked ≤ 1 = at_most_one c.self.inside.reader.peeked in
    let had_not_failed : c.self.inside.failed ≡ None = ap (λ (s : State). s.failed) c.self.view_is
    ∙ c.if-not-wants_header.ensures.not_failed refl in
    let whole : c.self.inside.implicit_tag ≡ None = ap (λ (s : State). s.implicit_tag) c.self.view_is
    ∙ c.if-not-wants_header.ensures.whole refl in
    let bounded : c.self.inside.until_end < 2 ^ 64 = omega (arith, c.self.invariant.0) in
    let size : suc (suc (length c.in_ok-content.content.now)) ≡ length c.in_ok-content.content.now + 2 = omega arith in
    let fits : length c.in_ok-content.content.now + 2 ≤ c.self.inside.until_end =
    omega (arith, prefix_fits h.is, c.near.ensures.fits) in
    let consumes = consumed_shown _ size (shown_prefix _ h.is c.near.ensures.front) fits (omega (arith, few))
    had_not_failed c.self.invariant.0 e.consumed e.unpeeked e.pos refl e.no_fault e.same_references in
    rw (← c.self.view_is) (reads_short g.met.K.PlainKind.kind (g.K.PlainKind.view c.in-Ok.value) k.ok k.right h.short
    whole bounded consumes refl)
