use Rattle.std.proofs.Common.{◌≡◌}
use Rattle.picky_der_core.proofs.LengthSteps.{ConsumesLength}
use Rattle.picky_der_core.proofs.misc.length.Length.deserialized.Given as goal

abbrev pub invariant-loop : goal.invariant-loop
invariant-loop g l = record {
  no_fault : g.R.ReadExt.faults l.reader ≡ g.R.ReadExt.faults l.fn.reader;
  same_references : g.R.ReadExt.references l.reader ≡ g.R.ReadExt.references l.fn.reader;
  consumed : ConsumesLength (g.R.Read.remaining l.fn.reader) (g.R.Read.remaining l.reader) l.first l.counter l.len;
}
