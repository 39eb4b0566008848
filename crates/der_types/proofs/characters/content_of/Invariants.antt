use Rattle.std.proofs.Common.{◌≡◌, ◌++◌}
use Rattle.std.specs.Prelude.{IsUtf8, chars}
use Rattle.std.specs.List.{list_all}
use Rattle.std.specs.Str.Iter.{chars_rest}
use Rattle.der_types.specs.CharacterStrings.{string_content}
use Rattle.der_types.proofs.characters.content_of.Given as goal

-- what is written so far, and what is left
pub record Written (IsText SameContent LeftDecides : Type 0) : Type 0 where
  pub text : IsText
  pub content : SameContent
  pub decides : LeftDecides

abbrev pub invariant-loop-character : goal.invariant-loop-character
invariant-loop-character g l = Written
    (IsUtf8 (chars_rest l.character-iterator))
    (l.content.items ++ string_content l.width (chars (chars_rest l.character-iterator))
    ≡ string_content l.width (chars l.fn.text))
    (list_all g.S.CharacterSet.is_character (chars l.fn.text)
    ≡ list_all g.S.CharacterSet.is_character (chars (chars_rest l.character-iterator)))
