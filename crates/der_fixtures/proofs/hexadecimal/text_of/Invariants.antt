use Rattle.std.proofs.Common.{◌≡◌, ◌++◌, string_bytes, take}
use Rattle.der_fixtures.specs.Hexadecimal.{after_spaces}
use Rattle.der_fixtures.proofs.hexadecimal.text_of.Given as goal

abbrev pub invariant-loop-byte : goal.invariant-loop-byte
invariant-loop-byte l = string_bytes l.text ≡ string_bytes l.initial.text ++ after_spaces (take l.byte-index l.others)
