use Rattle.std.proofs.Common.{◌≡◌, ◌++◌}
use Rattle.std.specs.List.{flat_map}
use Rattle.der_program_base.specs.Line.{escaped_character, nothing_special}
use Rattle.der_program_base.proofs.line.Line.push_str.Given as goal

abbrev pub invariant-loop-character : goal.invariant-loop-character
invariant-loop-character l = l.self ≡ l.initial.self ++ flat_map (escaped_character nothing_special) l.yielded
