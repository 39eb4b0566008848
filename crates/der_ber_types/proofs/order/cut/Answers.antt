use Rattle.std.proofs.Common.{◌≡◌, ◌++◌, ap, refl, sym, ◌∙◌, arith, length, subst}
use Rattle.picky_der_core.specs.Element.{IsElement}
use Rattle.der_ber_types.proofs.Cutting.{one_more, cut_off, smaller_after}
use Rattle.der_ber_types.proofs.Refusals.{SomeElements, elements-next, no_elements-front}
use Rattle.der_ber_types.proofs.Writing.{something_left}
use Rattle.der_ber_types.proofs.order.cut.Goals as goal

pub loop-rest-smaller : goal.loop-rest-smaller
loop-rest-smaller c =
    let rest = c.loop-rest.rest.now in
    let f = c.in-Some.first in
    let back : c.split_at.result.1.now ≡ f.after.now =
    c.split_at.ensures.back ∙ (cut_off rest f.after.now f.tag f.content.now _ c.in-Some.ensures refl).1 in
    omega (arith, ap length back, smaller_after rest f.after.now f.tag f.content.now c.in-Some.ensures)

pub loop-rest-preserved : goal.loop-rest-preserved
loop-rest-preserved c =
    let rest = c.loop-rest.rest.now in
    let f = c.in-Some.first in
    let cut = cut_off rest f.after.now f.tag f.content.now _ c.in-Some.ensures refl in
    let front = c.split_at.ensures.front ∙ cut.0 in
    let back = c.split_at.ensures.back ∙ cut.1 in
    let first = c.split_at.result.0 in
    let element : IsElement first.now =
    record { tag = f.tag; content = f.content.now; number = c.in-Some.ensures.number; is = front } in
    let whole : rest ≡ first.now ++ c.split_at.result.1.now = rw (front, back) c.in-Some.ensures.is in
    let (elements, is) = one_more c.loop-rest.elements.items c.push.new.self.items first c.args.bytes.now rest
    c.split_at.result.1.now c.in_ok-push.ensures.items c.loop-rest.invariant.elements c.loop-rest.invariant.is
    element whole in
    record {
      elements = elements;
      is = is;
      left = λ some. subst SomeElements (sym back)
          (elements-next rest f.tag f.content.now f.after.now c.in-Some.ensures (c.loop-rest.invariant.left some));
    }

pub returns-in_default-clause-none : goal.returns-in_default-clause-none
returns-in_default-clause-none c =
    λ wrong elements are.
    let rest = c.loop-rest.rest.now in
    no_elements-front rest (something_left rest c.is_empty.result c.is_empty.ensures c.loop-rest-test.true)
    c.in_default.ensures (c.loop-rest.invariant.left (record { elements = elements; are = are }))
