use Rattle.std.proofs.Common.{take}
use Rattle.der_program_base.specs.Lines.{AreOther, texts}
use Rattle.der_program_base.proofs.blocks.split_at_boundary.Given as goal

abbrev pub invariant-loop-index : goal.invariant-loop-index
invariant-loop-index l = AreOther (texts (take l.index l.lines))
