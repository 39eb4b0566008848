use Rattle.std.proofs.Common.{◌≡◌, ◌-◌, length}
use Rattle.der_show.proofs.Showing.{Comes}
use Rattle.der_show.proofs.listing.show_as.Given as goal

abbrev pub invariant-loop-offset : goal.invariant-loop-offset
invariant-loop-offset g l = record {
  comes : Comes l.form l.options l.bytes l.ends l.offset l.is_der (g.W.WriteExt.written l.initial.output)
      (g.W.WriteExt.written l.output);
  faults : g.W.WriteExt.faults l.output ≡ g.W.WriteExt.faults l.initial.output;
  continues : g.W.WriteExt.later l.initial.output l.output;
}

abbrev pub decreases-loop-offset : goal.decreases-loop-offset
decreases-loop-offset g l = length l.bytes - l.offset
