use Rattle.std.proofs.Common.{◌≡◌, ◌+◌, ◌++◌, drop, arith, sym, ap, subst, ◌∙◌, take-append-drop}
use Rattle.picky_der_core.specs.Element.{IsElement}
use Rattle.der_show.proofs.HeaderLemmas.{found}
use Rattle.der_c.proofs.OrderLemmas.{one_more}
use Rattle.der_c.proofs.order.cut.Goals as goal

pub overflow_add-header : goal.overflow_add-header
overflow_add-header c = omega (
  arith,
  (found c.loop-rest.rest.now c.in-Ok.header c.in-Ok.ensures.ok).1,
  c.header_of.ensures.small,
)

pub split_at-requires : goal.split_at-requires
split_at-requires c = (found c.loop-rest.rest.now c.in-Ok.header c.in-Ok.ensures.ok).1

pub loop-rest-preserved : goal.loop-rest-preserved
loop-rest-preserved c =
    let rest = c.loop-rest.rest.now in
    let size = c.in-Ok.header.header_len + c.in-Ok.header.content_len in
    let first = c.split_at.result.0 in
    let element : IsElement first.now =
    subst IsElement (sym c.split_at.ensures.front) (found rest c.in-Ok.header c.in-Ok.ensures.ok).0 in
    let whole : rest ≡ first.now ++ c.split_at.result.1.now = sym (take-append-drop size rest)
    ∙ ap (λ b. b ++ drop size rest) (sym c.split_at.ensures.front)
    ∙ ap (λ b. first.now ++ b) (sym c.split_at.ensures.back) in
    let (elements, is) = one_more c.loop-rest.members.items c.push.new.self.items first c.args.bytes.now rest
    c.split_at.result.1.now c.in_ok-push-in-Ok.ensures.items c.loop-rest.invariant.elements c.loop-rest.invariant.is
    element whole in
    record { elements = elements; is = is }
