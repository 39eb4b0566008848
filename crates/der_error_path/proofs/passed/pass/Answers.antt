use Rattle.std.proofs.Common.{◌+◌, subst, sym, arith}
use Rattle.der_error_path.specs.Awaited.{awaited}
use Rattle.der_error_path.specs.Passed.{ArePassedAs}
use Rattle.der_error_path.proofs.passed.pass.Goals as goal

pub loop-count-init : goal.loop-count-init
loop-count-init c = record { are = ArePassedAs.none; within = omega arith }

pub loop-count-preserved : goal.loop-count-preserved
loop-count-preserved c =
    let i = c.loop-count.invariant in
    let e = c.in-Some.element in
    record {
      are = subst (λ here. ArePassedAs c.args.nodes.now (awaited c.args.expected) c.args.content.now
          (c.loop-count.count + 1) here e.after.now) (sym c.after-here.ensures)
          (ArePassedAs.more c.loop-count.count (awaited c.loop-count.here) c.loop-count.rest.now e.tag e.content.now
          e.after.now i.are c.in-Some.ensures);
      within = omega arith;
    }
