use Rattle.std.proofs.Common.{◌≡◌, length}
use Rattle.der_types.specs.CharacterStrings.{is_string_content}
use Rattle.der_types.proofs.characters.is_content.Given as goal

abbrev pub decreases-loop-code : goal.decreases-loop-code
decreases-loop-code g l = length l.rest

-- what is left decides
abbrev pub invariant-loop-code : goal.invariant-loop-code
invariant-loop-code g l = is_string_content g.S.CharacterSet.WIDTH g.S.CharacterSet.is_character l.bytes
    ≡ is_string_content g.S.CharacterSet.WIDTH g.S.CharacterSet.is_character l.rest
