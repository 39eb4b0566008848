use Rattle.std.proofs.Common.{◌<◌, ◌^◌, [], length, arith, subst}
use Rattle.std.specs.Prelude.{slice_range}
use Rattle.der_show.specs.Outlines.{Breaks, IsFound, IsBefore}
use Rattle.der_show.proofs.Walking.{walk_begins, open_range, walk_refused, found_within, goes_further, walk_continues}
use Rattle.der_show.proofs.Walking.{walk_ends, before_continues}
use Rattle.der_show.proofs.outline.complaint_of.Goals as goal

pub loop-offset-init : goal.loop-offset-init
loop-offset-init c = rw c.new-ends.ensures ([], walk_begins c.args.bytes.now, IsBefore.none)

pub slice_bounds-front_of-end : goal.slice_bounds-front_of-end
slice_bounds-front_of-end c =
    let (low, high) = open_range c.args.bytes.now c.loop-offset.ends c.loop-offset.offset c.loop-offset.invariant.0
    c.loop-offset.invariant.1 c.loop-offset-test.true in
    let end = c.innermost-end.ensures in
    omega arith

pub returns-in-Broken : goal.returns-in-Broken
returns-in-Broken c =
    let small : length c.args.bytes.now < 2 ^ 64 = omega arith in
    let broken = rw c.in-Broken.is at c.front_of.ensures in
    let refused = walk_refused c.args.bytes.now c.loop-offset.ends c.loop-offset.offset c.loop-offset.invariant.0
    c.in-Broken.rule c.loop-offset.invariant.1 c.loop-offset.invariant.2 c.loop-offset-test.true small
    (subst (λ k. Breaks (slice_range c.args.bytes.now c.loop-offset.offset k) c.in-Broken.rule) c.innermost-end.ensures
    broken) in
    (_, refused)

pub go_on-requires : goal.go_on-requires
go_on-requires c =
    let small : length c.args.bytes.now < 2 ^ 64 = omega arith in
    let found = rw c.in-Element.is at c.front_of.ensures in
    omega (
      arith,
      found_within c.args.bytes.now c.loop-offset.ends c.loop-offset.offset c.loop-offset.invariant.0
          c.in-Element.header c.loop-offset.invariant.1 c.loop-offset-test.true
          (subst (λ k. IsFound (slice_range c.args.bytes.now c.loop-offset.offset k) c.in-Element.header)
          c.innermost-end.ensures found),
    )

pub loop-offset-preserved : goal.loop-offset-preserved
loop-offset-preserved c =
    let found = subst (λ k. IsFound (slice_range c.args.bytes.now c.loop-offset.offset k) c.in-Element.header)
    c.innermost-end.ensures (rw c.in-Element.is at c.front_of.ensures) in
    let h = c.in-Element.header in
    let i = c.loop-offset.invariant in
    rw (c.in_ok-offset-in-Element.ensures.ends, c.in_ok-offset-in-Element.ensures.offset) (
      _,
      walk_continues c.args.bytes.now c.loop-offset.ends c.loop-offset.offset i.0 h i.1 c.loop-offset-test.true found,
      before_continues c.args.bytes.now c.loop-offset.ends c.loop-offset.offset i.0 h i.2 found,
    )

pub loop-offset-smaller : goal.loop-offset-smaller
loop-offset-smaller c =
    let found = subst (λ k. IsFound (slice_range c.args.bytes.now c.loop-offset.offset k) c.in-Element.header)
    c.innermost-end.ensures (rw c.in-Element.is at c.front_of.ensures) in
    omega (
      arith,
      c.in_ok-offset-in-Element.ensures.offset,
      c.loop-offset-test.true,
      goes_further c.args.bytes.now c.loop-offset.ends c.loop-offset.offset c.loop-offset.invariant.0
          c.in-Element.header c.loop-offset.invariant.1 c.loop-offset-test.true found,
    )

pub returns : goal.returns
returns c = (
  c.loop-offset.invariant.0,
  walk_ends c.args.bytes.now c.loop-offset.ends c.loop-offset.offset
      c.loop-offset.invariant.0 c.loop-offset.invariant.1 c.loop-offset-test.false,
)
