use Rattle.std.proofs.Common.{subst, string_bytes}
use Rattle.std.proofs.lemmas.Result.{IfOk-weaker}
use Rattle.der_read.specs.Paths.{IsPathAt, IsPathOf}
use Rattle.der_read.proofs.path.path_of.Goals as goal

pub returns-in-Some : goal.returns-in-Some
returns-in-Some c =
    IfOk-weaker c.path_for.result _ _
    (λ text at. IsPathOf.refused c.in-Some.refusal c.in_ok-reason.reason (rw c.in-Some.is at c.in_ok-refusal.ensures)
    c.in_ok-reason.ensures at)
    c.path_for.ensures

pub returns-in-Some-2 : goal.returns-in-Some-2
returns-in-Some-2 c =
    let offset = c.in-Some-2.complaint.offset in
    IfOk-weaker c.path_for-in-Some-2.result _ _
    (λ text at. IsPathOf.broken c.in-Some-2.complaint (rw c.in_default.is at c.in_ok-refusal.ensures)
    (rw c.in-Some-2.is at c.in_ok-complaint.ensures)
    (subst (λ position. IsPathAt c.args.named c.args.bytes.now position offset (string_bytes text))
    c.saturating_add.ensures at))
    c.path_for-in-Some-2.ensures
