use Rattle.std.proofs.Common.{◌≡◌, length}
use Rattle.der_types.specs.declared.width.Width.TheVariants.{Four}
use Rattle.der_types.specs.CharacterStrings.{is_string_content, is_universal}
use Rattle.der_show.proofs.strings.is_universal.Given as goal

-- what is left decides
abbrev pub invariant-loop-rest : goal.invariant-loop-rest
invariant-loop-rest l = is_string_content Four is_universal l.content ≡ is_string_content Four is_universal l.rest

abbrev pub decreases-loop-rest : goal.decreases-loop-rest
decreases-loop-rest l = length l.rest
