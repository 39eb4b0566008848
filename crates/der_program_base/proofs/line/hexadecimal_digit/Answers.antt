use Rattle.std.proofs.Common.{arith}
use Rattle.std.proofs.lemmas.Bool.Decides.{nat_tests}
use Rattle.der_program_base.specs.Line.{hexadecimal_digit}
use Rattle.der_program_base.proofs.OneLine.{not_disruptive}
use Rattle.der_program_base.proofs.line.hexadecimal_digit.Goals as goal

pub returns-in-0-to-9-clause-value : goal.returns-in-0-to-9-clause-value
unfolding hexadecimal_digit
returns-in-0-to-9-clause-value c = grind (arith, nat_tests)

pub returns-in-0-to-9-clause-visible : goal.returns-in-0-to-9-clause-visible
returns-in-0-to-9-clause-visible c = not_disruptive _ (omega arith) (grind (arith, nat_tests))

pub returns-in_default-clause-value : goal.returns-in_default-clause-value
unfolding hexadecimal_digit
returns-in_default-clause-value c = grind (arith, nat_tests)

pub returns-in_default-clause-visible : goal.returns-in_default-clause-visible
returns-in_default-clause-visible c = not_disruptive _ (omega arith) (grind (arith, nat_tests))
