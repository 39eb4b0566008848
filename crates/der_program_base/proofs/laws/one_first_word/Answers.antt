use Rattle.std.proofs.Common.{sym, ◌∙◌}
use Rattle.der_program_base.proofs.Separated.{one_before}
use Rattle.der_program_base.proofs.laws.one_first_word.Goals as goal

pub returns : goal.returns
returns c line word other rest left h k = one_before 0x20 word other rest left h.is_word k.is_word (sym h.is ∙ k.is)
