use Rattle.std.proofs.Common.{◌≡◌, drop, false}
use Rattle.der_types.specs.Subidentifiers.{are_subidentifiers}
use Rattle.der_types.proofs.subidentifiers.is_subidentifiers.Given as goal

-- what is left decides
abbrev pub invariant-loop-byte : goal.invariant-loop-byte
invariant-loop-byte l = are_subidentifiers false l.bytes ≡ are_subidentifiers l.is_inside (drop l.byte-index l.bytes)
