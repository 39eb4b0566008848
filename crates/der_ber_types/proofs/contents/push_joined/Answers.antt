use Rattle.std.proofs.Common.{◌≡◌, ◌++◌, subst, arith}
use Rattle.picky_der_core.specs.Element.{tlv}
use Rattle.der_ber_types.proofs.Cutting.{smaller_after}
use Rattle.der_ber_types.proofs.Refusals.{parts-next, no_parts-front}
use Rattle.der_ber_types.proofs.Unique.{tlv-fronts}
use Rattle.der_ber_types.proofs.Writing.{nothing_left, something_left, parts-none, part-more, parts-end}
use Rattle.der_ber_types.proofs.contents.push_joined.Goals as goal

pub loop-rest-init : goal.loop-rest-init
loop-rest-init c = record {
  so_far = parts-none c.args.bytes.now c.args.der.now.items;
  left = λ some. some;
}

pub loop-rest-smaller : goal.loop-rest-smaller
loop-rest-smaller c =
    smaller_after c.loop-rest.rest.now c.in-Some.part.after.now c.in-Some.part.tag c.in-Some.part.content.now
    c.in-Some.ensures

pub loop-rest-preserved : goal.loop-rest-preserved
loop-rest-preserved c =
    let rest = c.loop-rest.rest.now in
    let content = c.in-Some.part.content.now in
    let after = c.in-Some.part.after.now in
    let tag : c.in-Some.part.tag ≡ 0x04 = omega (arith, c.inner.ensures, c.if-inner-ne4.false) in
    let first : rest ≡ tlv 0x04 content ++ after =
    subst (λ n. rest ≡ tlv n content ++ after) tag c.in-Some.ensures.is in
    record {
      so_far = part-more c.args.bytes.now rest content after c.args.der.now.items c.loop-rest.der.items
          c.extend_from_slice.new.self.items c.loop-rest.invariant.so_far first c.in_ok-extend_from_slice.ensures.items;
      left = λ some. parts-next rest content after first (c.loop-rest.invariant.left some);
    }

pub returns-clause-ok : goal.returns-clause-ok
returns-clause-ok c =
    parts-end c.args.bytes.now c.loop-rest.rest.now c.args.der.now.items c.loop-rest.der.items
    (nothing_left c.loop-rest.rest.now c.is_empty.result c.is_empty.ensures c.loop-rest-test.false)
    c.loop-rest.invariant.so_far

pub returns-then-inner-ne4-clause-none : goal.returns-then-inner-ne4-clause-none
returns-then-inner-ne4-clause-none c =
    λ wrong der are.
    let rest = c.loop-rest.rest.now in
    let part = c.in-Some.part in
    no_parts-front rest
    (something_left rest c.is_empty.result c.is_empty.ensures c.loop-rest-test.true)
    (λ content after e. let same = tlv-fronts rest part.tag 0x04 part.content.now content part.after.now after
    c.in-Some.ensures.is e in omega (arith, c.inner.ensures, c.if-inner-ne4.true, same.0))
    (c.loop-rest.invariant.left (record { der = der; are = are }))
