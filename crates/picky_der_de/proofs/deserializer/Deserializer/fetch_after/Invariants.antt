use Rattle.std.proofs.Common.{◌≡◌, ◌≤◌, ◌-◌}
use Rattle.picky_der_de.specs.Steps.{ConsumesAfter}
use Rattle.picky_der_de.proofs.deserializer.Deserializer.fetch_after.Given as goal

abbrev pub invariant-loop-left : goal.invariant-loop-left
invariant-loop-left g l =
    ConsumesAfter l.initial.bytes.items l.initial.self l.self (l.len - l.left) l.bytes.items
    × (l.self.implicit_tag ≡ l.initial.self.implicit_tag) × (l.left ≤ l.len)

abbrev pub decreases-loop-left : goal.decreases-loop-left
decreases-loop-left g l = l.left
