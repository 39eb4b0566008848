use Rattle.std.proofs.Common.{◌≡◌, ◌-◌, ◌∙◌, length, take, drop, ap, sym, subst, arith}
use Rattle.std.proofs.lemmas.Grind.{common_steps}
use Rattle.picky_der_core.specs.Order.{is_less}
use Rattle.picky_der_de.specs.Ahead.{IsElementInFront}
use Rattle.picky_der_de.proofs.SetOrder.{sees_none, sees_next}
use Rattle.picky_der_de.proofs.sequence.order.next_at_front.Goals as goal

pub returns-then-count-until_end : goal.returns-then-count-until_end
returns-then-count-until_end c = sees_none c.in_ok-count.ensures.is c.if-count-until_end.true

pub returns : goal.returns
returns c =
    let near = c.args.near.now in
    let count = c.in_ok-count.count in
    let size = c.in_ok-size.size in
    let after : take (length near - count) (drop count near) ≡ drop count near = grind (arith, common_steps) in
    sees_next c.in_ok-count.ensures.is (subst (λ x. IsElementInFront x size) after c.in_ok-size.ensures.is)
    (ap (λ x. is_less (take size x) (take count near)) (sym after) ∙ sym c.is_before.ensures ∙ c.if-is_before.false)
