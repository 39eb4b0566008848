use Rattle.std.proofs.Common.{arith}
use Rattle.der_path.proofs.Elements.{sizes}
use Rattle.der_path.proofs.Members.{none_passed, passed, few, left_length, is_member}
use Rattle.der_path.proofs.member.member_at.Goals as goal

pub loop-after-init : goal.loop-after-init
loop-after-init c = record { passed = none_passed c.args.bytes.now; at = omega arith; there = omega arith }

pub overflow_sub-place : goal.overflow_sub-place
overflow_sub-place c = omega (arith, c.loop-after.invariant.at)

pub overflow_add-index : goal.overflow_add-index
overflow_add-index c =
    omega (arith, few _ _ _ _ c.loop-after.invariant.passed, c.loop-after.invariant.at, c.loop-after.invariant.there)

pub overflow_sub-offset : goal.overflow_sub-offset
overflow_sub-offset c =
    let s = c.in-Some.ensures in
    omega (arith, sizes _ _ _ _ s.element, left_length _ _ _ _ c.loop-after.invariant.passed)

pub loop-after-smaller : goal.loop-after-smaller
loop-after-smaller c =
    let s = c.in-Some.ensures in
    omega (arith, sizes _ _ _ _ s.element)

pub loop-after-preserved : goal.loop-after-preserved
loop-after-preserved c =
    let s = c.in-Some.ensures in
    let i = c.loop-after.invariant in
    record {
      passed = passed _ _ _ _ _ _ _ i.passed s.element;
      at = omega (arith, s.past, i.at, left_length _ _ _ _ i.passed);
      there = i.there;
    }

pub returns : goal.returns
returns c =
    let i = c.loop-after.invariant in
    is_member _ _ _ _ _ i.passed i.at i.there c.in_default.ensures
