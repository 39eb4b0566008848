use Rattle.std.proofs.Common.{sym, ◌∙◌}
use Rattle.der_c.proofs.messages.picky_der_check.Goals as goal

pub returns-in-Some : goal.returns-in-Some
returns-in-Some c = rw (sym c.type_of_number.ensures ∙ c.in-Some.is) c.check.ensures
