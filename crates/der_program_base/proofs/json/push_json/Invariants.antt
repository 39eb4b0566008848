use Rattle.std.proofs.Common.{◌≡◌, ◌++◌}
use Rattle.std.specs.List.{flat_map}
use Rattle.der_program_base.specs.Json.{json_character}
use Rattle.der_program_base.proofs.json.push_json.Given as goal

abbrev pub invariant-loop-character : goal.invariant-loop-character
invariant-loop-character l = l.line ≡ l.initial.line ++ flat_map json_character l.yielded
