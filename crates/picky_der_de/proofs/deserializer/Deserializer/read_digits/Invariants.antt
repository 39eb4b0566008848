use Rattle.std.proofs.Common.{◌≡◌, ◌<◌, ◌^◌}
use Rattle.picky_der_de.specs.Headers.{ReadsDigits}
use Rattle.picky_der_de.proofs.deserializer.Deserializer.read_digits.Given as goal

abbrev pub invariant-loop-i : goal.invariant-loop-i
invariant-loop-i g l =
    ReadsDigits l.initial.self l.self l._i l.len × (l.len < 256 ^ l._i)
    × (l.self.implicit_tag ≡ l.initial.self.implicit_tag)
