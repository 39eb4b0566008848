use Rattle.std.proofs.Common.{arith}
use Rattle.std.proofs.lemmas.Result.{MatchResult-weaker}
use Rattle.der_program_base.proofs.Escapes.{digits_pushed}
use Rattle.der_program_base.proofs.line.Line.push_digits.Goals as goal

pub returns : goal.returns
returns c =
    MatchResult-weaker c.push_visible-2.result c.push_visible-2.ensures
    (λ v h. digits_pushed _ _ _ c.args.byte (omega arith)
    (rw c.hexadecimal_digit.ensures.value at c.in_ok-push_visible.ensures)
    (rw c.hexadecimal_digit-2.ensures.value at h))
    (λ e h. tt)
