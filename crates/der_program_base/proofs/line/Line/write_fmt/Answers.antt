use Rattle.der_program_base.proofs.Escapes.{formatted}
use Rattle.der_program_base.proofs.line.Line.write_fmt.Goals as goal

pub returns-in-Ok : goal.returns-in-Ok
returns-in-Ok g c = formatted _ _ _ c.in-Ok.ensures.writes
