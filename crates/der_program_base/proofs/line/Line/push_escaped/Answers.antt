use Rattle.std.proofs.Common.{lit<, refl}
use Rattle.der_program_base.proofs.OneLine.{not_disruptive}
use Rattle.der_program_base.proofs.line.Line.push_escaped.Goals as goal

pub push_visible-requires : goal.push_visible-requires
push_visible-requires c = not_disruptive 92 (lit< tt) refl
