use Rattle.std.proofs.Common.{◌≡◌, ◌++◌, take}
use Rattle.std.specs.List.{flat_map}
use Rattle.der_program_base.specs.Line.{two_digits}
use Rattle.der_program_base.proofs.line.Line.push_hexadecimal.Given as goal

abbrev pub invariant-loop-byte : goal.invariant-loop-byte
invariant-loop-byte l = l.self ≡ l.initial.self ++ flat_map two_digits (take l.byte-index l.bytes)
