use Rattle.std.proofs.Common.{◌≡◌, ◌+◌, ◌-◌, ◌<◌, ◌≤◌, ◌^◌, ◌∷◌, take, drop, None, ◌∙◌, refl, sym, subst, ap, arith}
use Rattle.picky_der_core.specs.Element.{length_octets, AreBytes}
use Rattle.picky_der_core.specs.Peeking.{count_of_any}
use Rattle.picky_der_de.specs.State.{State}
use Rattle.picky_der_de.proofs.Ahead.{at_most_one, content_shown, shown_prefix, consumed_shown, begins_whole}
use Rattle.picky_der_de.proofs.Ahead.{reads_content, refuses_for_memory}
use Rattle.picky_der_de.proofs.deserializer.Deserializer.copy_content_ahead.Goals as goal

pub returns-clause-read : goal.returns-clause-read
returns-clause-read g c =
    let all = c.near-near.result.now in
    let size = c.in-Some.size in
    let n = c.in-Some.len in
    let h = c.in-Some.ensures in
    let e = c.take_few-2.ensures in
    let back : size + n - size ≡ n = omega arith in
    let bytes : AreBytes (take n (drop size all)) =
    subst (λ k. AreBytes (take k (drop size all))) back c.copied.ensures.bytes in
    let few : count_of_any c.self.inside.reader.peeked ≤ 1 = at_most_one c.self.inside.reader.peeked in
    let had_not_failed : c.self.inside.failed ≡ None = ap (λ (s : State). s.failed) c.self.view_is
    ∙ c.if-not-wants_header.ensures.not_failed refl in
    let whole : c.self.inside.implicit_tag ≡ None = ap (λ (s : State). s.implicit_tag) c.self.view_is
    ∙ c.if-not-wants_header.ensures.whole refl in
    let bounded : c.self.inside.until_end < 2 ^ 64 = omega (arith, c.self.invariant.0) in
    let q = content_shown _ all c.args.tag n size h.is h.size h.whole c.near-near.ensures.front in
    let consumes = consumed_shown _ q.0 q.1 (omega (arith, h.whole)) (omega (arith, few, h.size)) had_not_failed
    c.self.invariant.0 e.consumed e.unpeeked e.pos refl e.no_fault e.same_references in
    rw (c.in-Ok.ensures.same, back, ← c.self.view_is)
    (reads_content c.requires.number bytes whole bounded consumes refl)

pub returns-in_default-copied-clause-err : goal.returns-in_default-copied-clause-err
returns-in_default-copied-clause-err g c =
    let h = c.in-Some.ensures in
    let e = c.take_few.ensures in
    let f = c.fail.ensures in
    let few : count_of_any c.self.inside.reader.peeked ≤ 1 = at_most_one c.self.inside.reader.peeked in
    let had_not_failed : c.self.inside.failed ≡ None = ap (λ (s : State). s.failed) c.self.view_is
    ∙ c.if-not-wants_header.ensures.not_failed refl in
    let whole : c.self.inside.implicit_tag ≡ None = ap (λ (s : State). s.implicit_tag) c.self.view_is
    ∙ c.if-not-wants_header.ensures.whole refl in
    let bounded : c.self.inside.until_end < 2 ^ 64 = omega (arith, c.self.invariant.0) in
    let shown = shown_prefix _ h.is c.near-near.ensures.front in
    let consumes = consumed_shown (c.args.tag ∷ length_octets c.in-Some.len) (sym h.size) shown (omega (arith, h.whole))
    (omega (arith, few, h.size)) had_not_failed c.self.invariant.0 e.consumed e.unpeeked e.pos refl e.no_fault
    e.same_references in
    rw (← c.self.view_is)
    (refuses_for_memory c.requires.number (begins_whole whole bounded consumes whole (omega (arith, h.whole)))
    f.fails f.error)
