use Rattle.std.proofs.Common.{◌≡◌, ◌++◌, take}
use Rattle.std.specs.List.{flat_map}
use Rattle.der_program_base.specs.Line.{escaped_byte}
use Rattle.der_program_base.proofs.line.Line.push_escaped.Given as goal

abbrev pub invariant-loop-byte : goal.invariant-loop-byte
invariant-loop-byte l = l.self ≡ l.initial.self ++ flat_map escaped_byte (take l.byte-index l.bytes)
