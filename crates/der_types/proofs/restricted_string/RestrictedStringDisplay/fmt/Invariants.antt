use Rattle.std.proofs.Common.{◌≡◌, true, length}
use Rattle.std.specs.List.{list_all}
use Rattle.std.specs.Str.{encode_utf8_all}
use Rattle.std.specs.Fmt.{HasWritten, IsPlainFormatter}
use Rattle.der_types.specs.CharacterStrings.{characters}
use Rattle.der_types.proofs.restricted_string.RestrictedStringDisplay.fmt.Given as goal

abbrev pub decreases-loop-code : goal.decreases-loop-code
decreases-loop-code g l = length l.rest

-- whoever writes what is left has written all
pub record Shows (AreCharacters IsPlain Goes : Type 0) : Type 0 where
  pub characters : AreCharacters
  pub plain : IsPlain
  pub continues : Goes

abbrev pub invariant-loop-code : goal.invariant-loop-code
invariant-loop-code g l = Shows
    (list_all g.S.CharacterSet.is_character (characters l.width l.rest) ≡ true)
    (IsPlainFormatter l.initial.f → IsPlainFormatter l.f)
    (IsPlainFormatter l.initial.f → (h : _)
    → HasWritten g.W.Write.write_str_gives l.f (encode_utf8_all (characters l.width l.rest)) h
    → HasWritten g.W.Write.write_str_gives l.initial.f
    (encode_utf8_all (characters l.width l.fn.self.content.items)) h)
