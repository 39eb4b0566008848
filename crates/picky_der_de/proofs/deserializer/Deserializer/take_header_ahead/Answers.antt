use Rattle.std.proofs.Common.{◌≡◌, ◌≤◌, ◌∷◌, None, refl, sym, ◌∙◌, ap, arith}
use Rattle.picky_der_core.specs.Element.{length_octets}
use Rattle.picky_der_core.specs.Peeking.{count_of_any}
use Rattle.picky_der_de.specs.State.{State}
use Rattle.picky_der_de.proofs.Ahead.{at_most_one, shown_prefix, consumed_shown}
use Rattle.picky_der_de.proofs.deserializer.Deserializer.take_header_ahead.Goals as goal

pub returns-clause-consumed : goal.returns-clause-consumed
returns-clause-consumed g c =
    let h = c.in_ok-len.ensures in
    let e = c.take_few.ensures in
    let few : count_of_any c.self.inside.reader.peeked ≤ 1 = at_most_one c.self.inside.reader.peeked in
    let had_not_failed : c.self.inside.failed ≡ None = ap (λ (s : State). s.failed) c.self.view_is
    ∙ c.requires.had_not_failed in
    let shown = shown_prefix _ h.is c.near.ensures.front in
    rw (← c.self.view_is) (
      consumed_shown (c.args.tag ∷ length_octets c.in_ok-len.len) (sym h.size) shown (omega arith)
          (omega (arith, few, h.size)) had_not_failed c.self.invariant.0 e.consumed e.unpeeked e.pos refl e.no_fault
          e.same_references,
      omega arith,
    )
