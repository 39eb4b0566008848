use Rattle.std.proofs.Common.{◌<◌, ◌^◌, length, arith, subst}
use Rattle.std.specs.Prelude.{slice_range}
use Rattle.der_show.specs.Outlines.{Breaks, IsFound, IsBefore}
use Rattle.der_show.proofs.Walking.{walk_begins, open_range, walk_refused, found_within, goes_further, walk_continues}
use Rattle.der_show.proofs.Walking.{walk_ends, before_continues}
use Rattle.der_show.proofs.outline.outline_of.Goals as goal

pub loop-offset-init : goal.loop-offset-init
loop-offset-init c =
    rw (c.new-ends.ensures, c.new-elements.ensures.items) (record {
      walks = walk_begins c.args.bytes.now;
      before =
          IsBefore.none;
    })

pub slice_bounds-front_of-end : goal.slice_bounds-front_of-end
slice_bounds-front_of-end c =
    let (low, high) = open_range c.args.bytes.now c.loop-offset.ends c.loop-offset.offset c.loop-offset.elements.items
    c.loop-offset.invariant.walks c.loop-offset-test.true in
    let end = c.innermost-end.ensures in
    omega arith

pub returns-in-Broken : goal.returns-in-Broken
returns-in-Broken c =
    let small : length c.args.bytes.now < 2 ^ 64 = omega arith in
    let broken = rw c.in-Broken.is at c.front_of.ensures in
    walk_refused c.args.bytes.now c.loop-offset.ends c.loop-offset.offset c.loop-offset.elements.items c.in-Broken.rule
    c.loop-offset.invariant.walks c.loop-offset.invariant.before c.loop-offset-test.true small
    (subst (λ k. Breaks (slice_range c.args.bytes.now c.loop-offset.offset k) c.in-Broken.rule) c.innermost-end.ensures
    broken)

pub go_on-requires : goal.go_on-requires
go_on-requires c =
    let small : length c.args.bytes.now < 2 ^ 64 = omega arith in
    let found = rw c.in-Element.is at c.front_of.ensures in
    omega (
      arith,
      found_within c.args.bytes.now c.loop-offset.ends c.loop-offset.offset c.loop-offset.elements.items
          c.in-Element.header c.loop-offset.invariant.walks c.loop-offset-test.true
          (subst (λ k. IsFound (slice_range c.args.bytes.now c.loop-offset.offset k) c.in-Element.header)
          c.innermost-end.ensures found),
    )

pub loop-offset-preserved : goal.loop-offset-preserved
loop-offset-preserved c =
    let found = subst (λ k. IsFound (slice_range c.args.bytes.now c.loop-offset.offset k) c.in-Element.header)
    c.innermost-end.ensures (rw c.in-Element.is at c.front_of.ensures) in
    rw (c.in_ok-offset.ensures.ends, c.in_ok-offset.ensures.offset, c.in_ok-push.ensures.items, c.depth.ensures)
    (record {
      walks = walk_continues c.args.bytes.now c.loop-offset.ends c.loop-offset.offset c.loop-offset.elements.items
          c.in-Element.header c.loop-offset.invariant.walks c.loop-offset-test.true found;
      before = before_continues c.args.bytes.now c.loop-offset.ends c.loop-offset.offset c.loop-offset.elements.items
          c.in-Element.header c.loop-offset.invariant.before found;
    })

pub loop-offset-smaller : goal.loop-offset-smaller
loop-offset-smaller c =
    let found = subst (λ k. IsFound (slice_range c.args.bytes.now c.loop-offset.offset k) c.in-Element.header)
    c.innermost-end.ensures (rw c.in-Element.is at c.front_of.ensures) in
    omega (
      arith,
      c.in_ok-offset.ensures.offset,
      c.loop-offset-test.true,
      goes_further c.args.bytes.now c.loop-offset.ends c.loop-offset.offset c.loop-offset.elements.items
          c.in-Element.header c.loop-offset.invariant.walks c.loop-offset-test.true found,
    )

pub returns : goal.returns
returns c = walk_ends c.args.bytes.now c.loop-offset.ends c.loop-offset.offset c.loop-offset.elements.items
    c.loop-offset.invariant.walks c.loop-offset-test.false
