use Rattle.der_program_base.proofs.OneLine.{pushed_line}
use Rattle.der_program_base.proofs.line.Line.push_visible.Goals as goal

pub invariant_of-self : goal.invariant_of-self
invariant_of-self c = rw c.push.ensures.bytes (pushed_line _ _ _ c.requires c.self.invariant)
