use Rattle.std.proofs.Common.{ℕ, length}
use Rattle.der_path.specs.Paths.{IsPath}
use Rattle.der_error_path.specs.Awaited.{Awaited, awaited}
use Rattle.der_error_path.proofs.Walks.{LeadsTo, IsFound}
use Rattle.der_error_path.proofs.steps.steps_of.Given as goal

abbrev pub invariant-loop-left : goal.invariant-loop-left
invariant-loop-left l = record {
  leads : LeadsTo l.nodes (Awaited.value l.schema.root) l.bytes l.numbers l.steps.items (awaited l.expected) l.around
      l.left;
  on_path : (place : ℕ) × IsPath l.around place l.left;
  found : IsFound l.nodes (Awaited.value l.schema.root) l.bytes l.numbers l.steps.items l.found;
}

abbrev pub decreases-loop-left : goal.decreases-loop-left
decreases-loop-left l = length l.left
