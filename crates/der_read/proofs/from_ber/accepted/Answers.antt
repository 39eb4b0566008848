use Rattle.std.proofs.Common.{subst}
use Rattle.der_show.specs.Outlines.{AreElements}
use Rattle.der_read.specs.Fitting.{IsMessage}
use Rattle.der_read.proofs.from_ber.accepted.Goals as goal

pub returns-in-None : goal.returns-in-None
returns-in-None c = record {
  ber = c.requires;
  message = subst (IsMessage c.args.named) c.deref.ensures.value (rw c.in-None.is at c.in_ok-reason.ensures.message);
  in_der = subst AreElements c.deref.ensures.value (rw c.in-None.is at c.in_ok-reason.ensures.in_der);
}
