use Rattle.std.proofs.Common.{◌≡◌, suc, ◌+◌, ◌<◌, ◌≤◌, ◌^◌, ◌∷◌, ◌++◌, length, None, ◌∙◌, refl, sym, subst, ap, arith}
use Rattle.picky_der_core.specs.Element.{length_octets}
use Rattle.picky_der_core.specs.ElementLaws.{length_octets-short}
use Rattle.picky_der_core.specs.Peeking.{count_of_any}
use Rattle.picky_der_de.specs.State.{State}
use Rattle.picky_der_de.specs.Steps.{Consumed}
use Rattle.picky_der_de.proofs.Ahead.{at_most_one, prefix_fits, shown_prefix, consumed_shown, reads_content}
use Rattle.picky_der_de.proofs.deserializer.Deserializer.deserialize_short.Goals as goal

pub returns-clause-read : goal.returns-clause-read
returns-clause-read g c =
    let bytes = c.in_ok-content.content.now in
    let e = c.take_few.ensures in
    let h = c.in_ok-content.ensures in
    let few : count_of_any c.self.inside.reader.peeked ≤ 1 = at_most_one c.self.inside.reader.peeked in
    let had_not_failed : c.self.inside.failed ≡ None = ap (λ (s : State). s.failed) c.self.view_is
    ∙ c.if-not-wants_header.ensures.not_failed refl in
    let whole : c.self.inside.implicit_tag ≡ None = ap (λ (s : State). s.implicit_tag) c.self.view_is
    ∙ c.if-not-wants_header.ensures.whole refl in
    let bounded : c.self.inside.until_end < 2 ^ 64 = omega (arith, c.self.invariant.0) in
    let size : suc (suc (length bytes)) ≡ length bytes + 2 = omega arith in
    let fits : length bytes + 2 ≤ c.self.inside.until_end = omega (arith, prefix_fits h.is, c.near.ensures.fits) in
    let consumes = consumed_shown _ size (shown_prefix _ h.is c.near.ensures.front) fits (omega (arith, few))
    had_not_failed c.self.invariant.0 e.consumed e.unpeeked e.pos refl e.no_fault e.same_references in
    let header : c.args.tag ∷ length bytes ∷ bytes ≡ (c.args.tag ∷ length_octets (length bytes)) ++ bytes =
    ap (λ l. (c.args.tag ∷ l) ++ bytes) (sym (length_octets-short (length bytes) h.short)) in
    rw (← c.self.view_is, c.in_ok-value.ensures) (reads_content (omega (arith, c.if-number-gt-MAX_NUMBER.false)) h.bytes
    whole bounded (subst (Consumed _ _) header consumes) refl)
