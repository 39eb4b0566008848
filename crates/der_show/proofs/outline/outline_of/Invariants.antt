use Rattle.std.proofs.Common.{◌-◌, length}
use Rattle.der_show.specs.Outlines.{IsBefore}
use Rattle.der_show.proofs.Walking.{Walks}
use Rattle.der_show.proofs.outline.outline_of.Given as goal

abbrev pub invariant-loop-offset : goal.invariant-loop-offset
invariant-loop-offset l =
    record {
      walks : Walks l.bytes l.ends l.offset l.elements.items;
      before : IsBefore l.bytes l.ends l.offset l.elements.items;
    }

abbrev pub decreases-loop-offset : goal.decreases-loop-offset
decreases-loop-offset l = length l.bytes - l.offset
