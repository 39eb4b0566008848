use Rattle.std.proofs.Common.{sym, ◌∙◌}
use Rattle.der_program_base.proofs.Separated.{one_before, none_after}
use Rattle.der_tool_lib.proofs.WordsWithoutSpaces.{no_space}
use Rattle.der_tool_lib.proofs.line.typed.Goals as goal

pub returns-in_default : goal.returns-in_default
returns-in_default c = λ type digits e. none_after 0x20 _ _ _ c.in_default.ensures e

pub returns-in-None : goal.returns-in-None
returns-in-None c = λ type digits e.
    let parts = c.in-Some.ensures in
    c.in-None.ensures type (one_before 0x20 _ _ _ _ parts.is_word (no_space type) (sym parts.is ∙ e)).0
