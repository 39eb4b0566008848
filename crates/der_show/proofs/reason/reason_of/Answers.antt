use Rattle.der_show.specs.Reasons.{not_der, refused}
use Rattle.std.proofs.Common.{refl}
use Rattle.der_show.proofs.reason.reason_of.Goals as goal

pub returns-in-Some : goal.returns-in-Some
returns-in-Some c = not_der _ _ (rw c.in-Some.is at c.in_ok-outline.ensures) refl

pub returns : goal.returns
returns c = refused _ (rw c.in-None.is at c.in_ok-outline.ensures) (rw c.deref.ensures.value at c.refused_at.ensures)
