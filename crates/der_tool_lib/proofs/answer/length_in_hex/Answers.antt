use Rattle.std.proofs.Common.{ap, ◌∙◌}
use Rattle.picky_der_core.specs.Error.{error_of_kind}
use Rattle.der_tool_lib.proofs.answer.length_in_hex.Goals as goal

-- the sink's only fault is out of memory
pub returns-in-Err-clause-err : goal.returns-in-Err-clause-err
unfolding error_of_kind
returns-in-Err-clause-err c = let fault = c.in-Err.ensures.fault in fault.is ∙ ap error_of_kind fault.answered
