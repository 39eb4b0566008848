use Rattle.std.proofs.Common.{◌≡◌, ◌++◌}
use Rattle.std.specs.List.{flat_map}
use Rattle.der_program_base.specs.Line.{escaped_character, is_special_in_quotes}
use Rattle.der_program_base.proofs.text.push_quoted.Given as goal

abbrev pub invariant-loop-character : goal.invariant-loop-character
invariant-loop-character l = l.line ≡ l.initial.line ++ flat_map (escaped_character is_special_in_quotes) l.yielded
