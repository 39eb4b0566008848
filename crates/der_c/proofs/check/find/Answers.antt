use Rattle.std.proofs.Common.{refl}
use Rattle.der_c.specs.Verdict.{IsFinding}
use Rattle.der_c.proofs.check.find.Goals as goal

pub returns-in-Some : goal.returns-in-Some
returns-in-Some c = IsFinding.refused c.in-Some.refusal (rw c.in-Some.is at c.in-Ok.ensures) c.error_code.ensures refl

pub returns-in-Some-complaint : goal.returns-in-Some-complaint
returns-in-Some-complaint c =
    IsFinding.broken c.in-Some-complaint.complaint (rw c.in_default-refusal.is at c.in-Ok.ensures)
    (rw c.in-Some-complaint.is at c.in-Ok-complaint_of.ensures) c.rule_code.ensures refl
