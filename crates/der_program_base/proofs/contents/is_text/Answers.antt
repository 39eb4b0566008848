use Rattle.std.proofs.Common.{◌≡◌, rules, tests, sym, ◌∙◌, subst}
use Rattle.std.specs.List.{list_all}
use Rattle.std.specs.Str.{IsUtf8, chars}
use Rattle.std.proofs.lemmas.Iterator.{YieldsList-from_chars}
use Rattle.std.proofs.lemmas.Iterator.Search.{all_from_yields_List}
use Rattle.der_program_base.specs.Contents.{is_text_character}
use Rattle.der_program_base.proofs.contents.is_text.Goals as goal

pub returns-in-Ok : goal.returns-in-Ok
returns-in-Ok c =
    let (same, utf8) = c.in-Ok.ensures.cases in
    let road = YieldsList-from_chars c.in-Ok.text.now (subst IsUtf8 (sym same) utf8) cc in
    let all : c.all.result ≡ list_all is_text_character (chars c.in-Ok.text.now) =
    all_from_yields_List is_text_character _ _ c.all.result c.all.ensures.ran road
    (λ x b q k. search (rules, tests)) in
    let is = rw same at all in
    (λ t. record { utf8 = utf8; characters = sym is ∙ t }, λ h. is ∙ h.characters)
