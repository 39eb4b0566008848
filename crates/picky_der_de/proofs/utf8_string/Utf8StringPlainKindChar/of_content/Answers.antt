use Rattle.std.proofs.Common.{sym, ◌∙◌}
use Rattle.picky_der_de.specs.TextLaws.{character_good, character_more, last_character, two_characters}
use Rattle.picky_der_de.proofs.utf8_string.Utf8StringPlainKindChar.of_content.Goals as goal

pub returns-in-None-clause-right : goal.returns-in-None-clause-right
returns-in-None-clause-right c =
    let text = c.in_ok-deserialize.ensures.ok in
    character_good c.args.content.now text.1
    (last_character c.args.content.now _ c.in-Some.first text.1 (sym text.0 ∙ sym c.chars-characters.ensures.rest
    ∙ c.in-Some.ensures.steps.0) c.in-None.ensures.steps.0.0).1

pub returns-in-Some-next-clause-fault : goal.returns-in-Some-next-clause-fault
returns-in-Some-next-clause-fault c =
    let text = c.in_ok-deserialize.ensures.ok in
    character_more c.args.content.now text.1
    (two_characters c.args.content.now _ _ c.in-Some.first c.in-Some-next.field-0 text.1 (sym text.0
    ∙ sym c.chars-characters.ensures.rest ∙ c.in-Some.ensures.steps.0) c.in-Some-next.ensures.steps.0)
