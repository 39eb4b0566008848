use Rattle.std.proofs.Common.{◌≡◌, length, take, None, ◌∙◌, refl, ap, arith}
use Rattle.std.proofs.lemmas.Grind.{common_steps}
use Rattle.picky_der_core.specs.Peeking.{count_of_any}
use Rattle.picky_der_de.specs.State.{State}
use Rattle.picky_der_de.proofs.Ahead.{shown_first, consumed_shown}
use Rattle.picky_der_de.proofs.deserializer.Deserializer.copy_ahead.Goals as goal

pub returns-clause-consumed : goal.returns-clause-consumed
returns-clause-consumed g c =
    let all = c.near-near.result.now in
    let n = c.args.count in
    let e = c.take_few.ensures in
    let size : length (take n all) ≡ n = grind (arith, common_steps) in
    let had_not_failed : c.self.inside.failed ≡ None = ap (λ (s : State). s.failed) c.self.view_is
    ∙ c.requires.had_not_failed in
    let unpeeked : c.self.inside.reader.peeked ≡ None = ap (λ (s : State). s.peeked) c.self.view_is
    ∙ c.requires.unpeeked in
    let few : count_of_any c.self.inside.reader.peeked ≡ 0 = ap count_of_any unpeeked in
    let shown = shown_first _ all n c.near-near.ensures.front in
    let consumes = consumed_shown (take n all) size shown (omega arith) (omega (arith, few)) had_not_failed
    c.self.invariant.0 e.consumed e.unpeeked e.pos refl e.no_fault e.same_references in
    rw (c.in-Ok.ensures.same, ← c.self.view_is)
    (record { consumes = consumes; count = size; bytes = c.copied.ensures.bytes })
