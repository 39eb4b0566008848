use Rattle.std.proofs.Common.{◌≡◌}
use Rattle.picky_der_de.specs.Steps.{ConsumesKept}
use Rattle.picky_der_de.proofs.deserializer.Deserializer.fetch_kept.Given as goal

abbrev pub invariant-loop-i : goal.invariant-loop-i
invariant-loop-i g l = ConsumesKept l.initial.self l.self l._i l.kept.items
    × (l.self.implicit_tag ≡ l.initial.self.implicit_tag)
