use Rattle.std.proofs.Common.{◌≡◌, ◌≤◌, ◌-◌, ℕ, List}
use Rattle.picky_der_de.specs.Steps.{ConsumesBytes}
use Rattle.picky_der_de.proofs.deserializer.Deserializer.skip.Given as goal

abbrev pub invariant-loop-left : goal.invariant-loop-left
invariant-loop-left g l =
    (content : List ℕ) × ConsumesBytes l.initial.self l.self (l.len - l.left) content
    × (l.self.implicit_tag ≡ l.initial.self.implicit_tag) × (l.left ≤ l.len)

abbrev pub decreases-loop-left : goal.decreases-loop-left
decreases-loop-left g l = l.left
