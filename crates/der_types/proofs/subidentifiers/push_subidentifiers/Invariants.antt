use Rattle.std.proofs.Common.{◌≡◌, ◌++◌, take}
use Rattle.der_types.specs.Subidentifiers.{subidentifiers}
use Rattle.der_types.proofs.subidentifiers.push_subidentifiers.Given as goal

abbrev pub invariant-loop-number : goal.invariant-loop-number
invariant-loop-number l = l.bytes.items ≡ l.initial.bytes.items ++ subidentifiers (take l.number-index l.numbers)
