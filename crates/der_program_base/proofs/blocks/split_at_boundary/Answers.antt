use Rattle.der_program_base.proofs.Sectioning.{others_more, found_line}
use Rattle.der_program_base.proofs.blocks.split_at_boundary.Goals as goal

pub returns-in-Some : goal.returns-in-Some
returns-in-Some c = found_line c.args.lines.now c.loop-index.index _ c.in-Some.boundary c.loop-index-test.true
    c.loop-index.invariant c.in-Some.ensures

pub loop-index-preserved : goal.loop-index-preserved
loop-index-preserved c = others_more c.args.lines.now c.loop-index.index _ c.loop-index-test.true c.loop-index.invariant
    c.in_default.ensures
