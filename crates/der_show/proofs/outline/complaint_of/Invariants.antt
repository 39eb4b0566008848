use Rattle.std.proofs.Common.{◌-◌, List, length}
use Rattle.der_show.specs.declared.element.Element.{Element}
use Rattle.der_show.specs.Outlines.{IsBefore}
use Rattle.der_show.proofs.Walking.{Walks}
use Rattle.der_show.proofs.outline.complaint_of.Given as goal

abbrev pub invariant-loop-offset : goal.invariant-loop-offset
invariant-loop-offset l = (elements : List Element) × Walks l.bytes l.ends l.offset elements
    × IsBefore l.bytes l.ends l.offset elements

abbrev pub decreases-loop-offset : goal.decreases-loop-offset
decreases-loop-offset l = length l.bytes - l.offset
