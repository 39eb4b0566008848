use Rattle.std.proofs.Common.{◌<◌, ◌^◌, length, arith}
use Rattle.der_show.proofs.HeaderLemmas.{found}
use Rattle.der_show.proofs.Fronts.{has_header}
use Rattle.der_show.proofs.step.step_at.Goals as goal

pub overflow_add-content : goal.overflow_add-content
overflow_add-content c =
    let small : length c.args.ahead.now < 2 ^ 64 = omega arith in
    omega (
      arith,
      (found c.args.ahead.now c.in-Element.header
          (has_header c.args.ahead.now c.in-Element.header (rw c.in-Element.is at c.front_of.ensures))).1,
    )

pub slice_bounds-content-end : goal.slice_bounds-content-end
slice_bounds-content-end c =
    omega (
      arith,
      (found c.args.ahead.now c.in-Element.header
          (has_header c.args.ahead.now c.in-Element.header (rw c.in-Element.is at c.front_of.ensures))).1,
    )

pub returns-then-not-options : goal.returns-then-not-options
returns-then-not-options c = (c.if-not-options.true, rw c.in-Broken.is at c.front_of.ensures)

pub returns-in-Ok : goal.returns-in-Ok
returns-in-Ok c = (c.if-not-options.false, rw c.in-Broken.is at c.front_of.ensures, c.in-Ok.ensures.ok)
