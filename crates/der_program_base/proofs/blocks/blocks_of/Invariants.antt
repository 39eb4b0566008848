use Rattle.std.proofs.Common.{◌-◌, length}
use Rattle.der_program_base.proofs.Sectioning.{ReadsOn}
use Rattle.der_program_base.proofs.blocks.blocks_of.Given as goal

abbrev pub invariant-loop-blocks : goal.invariant-loop-blocks
invariant-loop-blocks l = ReadsOn l.lines l.blocks.items l.start

abbrev pub decreases-loop-blocks : goal.decreases-loop-blocks
decreases-loop-blocks l = length l.lines - l.start
