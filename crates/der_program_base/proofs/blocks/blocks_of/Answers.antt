use Rattle.der_program_base.proofs.Sectioning.{reads_more}
use Rattle.der_program_base.proofs.blocks.blocks_of.Goals as goal

pub loop-blocks-preserved : goal.loop-blocks-preserved
loop-blocks-preserved c =
    let i = c.loop-blocks.invariant in
    let first = rw c.in-Some.is at c.in_ok-block.ensures in
    rw c.in_ok-push.ensures.items (reads_more c.args.lines.now c.loop-blocks.start c.in-Some.block c.in-Some.rest.now
    first i.within _ i)
