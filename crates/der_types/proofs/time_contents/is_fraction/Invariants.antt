use Rattle.std.proofs.Common.{◌≡◌, drop}
use Rattle.der_types.specs.TimeContents.{are_digits}
use Rattle.der_types.proofs.time_contents.is_fraction.Given as goal

-- the rest decides
abbrev pub invariant-loop-byte : goal.invariant-loop-byte
invariant-loop-byte l = are_digits l.bytes ≡ are_digits (drop l.byte-index l.bytes)
