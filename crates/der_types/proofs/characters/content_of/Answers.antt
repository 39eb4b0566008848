use Rattle.std.proofs.Common.{◌≡◌, ◌++◌, ◌&&◌, true, false, sym, ap, ◌∙◌, append_assoc, append-nil}
use Rattle.std.specs.Prelude.{chars}
use Rattle.std.specs.List.{list_all}
use Rattle.std.specs.Str.Iter.{chars_rest}
use Rattle.std.proofs.lemmas.Str.{IsUtf8-past_char, chars_past_char}
use Rattle.std.proofs.StrCases.{chars_of_empty}
use Rattle.der_types.specs.CharacterStrings.{character_bytes, string_content}
use Rattle.der_types.proofs.characters.content_of.Goals as goal

pub returns-then-not-is_character-clause-none : goal.returns-then-not-is_character-clause-none
returns-then-not-is_character-clause-none g c =
    let held = c.loop-character.invariant in
    let p = g.S.CharacterSet.is_character in
    let step = chars_past_char _ _ c.in-Some.character held.text c.in-Some.ensures.steps.0 in
    let no : p c.in-Some.character ≡ false = sym c.is_character.ensures ∙ c.if-not-is_character.true in
    held.decides ∙ ap (list_all p) step ∙ ap (λ b. b && list_all p (chars (chars_rest c.next.new.self))) no

pub loop-character-preserved : goal.loop-character-preserved
loop-character-preserved g c =
    let held = c.loop-character.invariant in
    let p = g.S.CharacterSet.is_character in
    let width = c.WIDTH-width.result in
    let character = c.in-Some.character in
    let items = c.loop-character.content.items in
    let after = chars (chars_rest c.next.new.self) in
    let parts = c.in-Some.ensures.steps.0 in
    let step = chars_past_char _ _ character held.text parts in
    let yes : p character ≡ true = sym c.is_character.ensures ∙ c.if-not-is_character.false in
    record {
      text = IsUtf8-past_char _ _ character held.text parts;
      content = ap (λ bs. bs ++ string_content width after) c.in_ok-push_character.ensures
          ∙ append_assoc items (character_bytes width character) (string_content width after)
          ∙ ap (λ cs. items ++ string_content width cs) (sym step) ∙ held.content;
      decides = held.decides ∙ ap (list_all p) step ∙ ap (λ b. b && list_all p after) yes;
    }

pub returns-clause-some : goal.returns-clause-some
returns-clause-some g c =
    let held = c.loop-character.invariant in
    let end = chars_of_empty _ c.in-None.ensures.steps.0.0 in
    sym (append-nil _) ∙ (rw end at held.content)
    ∙ ap (λ w. string_content w (chars c.args.text.now)) c.WIDTH-width.ensures

pub returns-clause-each : goal.returns-clause-each
returns-clause-each g c =
    let held = c.loop-character.invariant in
    held.decides ∙ ap (list_all g.S.CharacterSet.is_character) (chars_of_empty _ c.in-None.ensures.steps.0.0)
