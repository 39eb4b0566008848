use Rattle.std.proofs.Common.{◌≡◌, ◌++◌, ◌∷◌, true, sym, ap, ◌∙◌, refl}
use Rattle.std.specs.List.{list_all}
use Rattle.std.specs.Str.{encode_utf8_all}
use Rattle.std.specs.Prelude.{encode_utf8}
use Rattle.std.proofs.Output.{has_written_append, has_written_of_eq}
use Rattle.der_types.specs.CharacterStrings.{characters}
use Rattle.der_types.specs.CharacterStringLaws.{both}
use Rattle.der_types.proofs.restricted_string.RestrictedStringDisplay.fmt.Goals as goal

pub loop-code-preserved : goal.loop-code-preserved
loop-code-preserved g c =
    let held = c.loop-code.invariant in
    let p = g.S.CharacterSet.is_character in
    let width = c.WIDTH-width.result in
    let others = characters width c.in-Some.after.now in
    let all : characters width c.loop-code.rest.now ≡ c.in-Some.code ∷ others = c.in-Some.ensures.first in
    let tests = both (p c.in-Some.code) (list_all p others) (rw all at held.characters) in
    let took = g.W.Write.write_str_gives in
    let text = ap (λ code. encode_utf8 code ++ encode_utf8_all others) c.char_of.ensures
    ∙ ap encode_utf8_all (sym all) in
    record {
      characters = tests.1;
      plain = λ start. (c.in_ok-write_char.ensures.writes (held.plain start) (refl {a = true})).plain;
      continues = λ start h after.
          let one = c.in_ok-write_char.ensures.writes (held.plain start) (refl {a = true}) in
          held.continues start h (has_written_of_eq took _ _ _ _ text (has_written_append took _ _ _ _ _ one after));
    }
