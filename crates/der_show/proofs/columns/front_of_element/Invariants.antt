use Rattle.std.proofs.Common.{◌≡◌, ◌*◌, ◌++◌, string_bytes}
use Rattle.der_show.specs.Lines.{spaces}
use Rattle.der_show.proofs.columns.front_of_element.Given as goal

abbrev pub invariant-loop : goal.invariant-loop
invariant-loop l = string_bytes l.text ≡ string_bytes l.initial.text ++ spaces (2 * l.counter)
