use Rattle.std.proofs.Common.{◌∷◌, [], ◌++◌, ap, ◌∙◌, append_assoc, lit<, refl}
use Rattle.std.proofs.lemmas.Iterator.{YieldsList-from_chars}
use Rattle.std.proofs.lemmas.Iterator.Consumers.{YieldsList-end}
use Rattle.std.proofs.lemmas.Result.{MatchResult-weaker}
use Rattle.der_program_base.specs.Line.{escaped, is_special_in_quotes}
use Rattle.der_program_base.proofs.Escapes.{all_pushed, shown_ascii}
use Rattle.der_program_base.proofs.text.push_quoted.Goals as goal

pub returns : goal.returns
returns c =
    let road = YieldsList-from_chars c.args.text.now c.utf8.text cc in
    let all = YieldsList-end road c.loop-character.yielded _ c.loop-character.yielded_by _ _ c.in-None.is
    c.next.ensures.steps in
    let text = escaped is_special_in_quotes c.args.text.now in
    let quote = shown_ascii 39 (lit< tt) refl in
    let inside = all_pushed is_special_in_quotes c.args.text.now _ _ c.loop-character.yielded all.0
    c.loop-character.invariant in
    let begun = inside ∙ ap (λ l. l ++ text) (c.in_ok-push.ensures ∙ ap (λ l. c.args.line.now ++ l) quote) in
    MatchResult-weaker c.push-2.result c.push-2.ensures
    (λ v h. h ∙ ap (λ l. c.loop-character.line ++ l) quote ∙ ap (λ l. l ++ (39 ∷ [])) begun
    ∙ append_assoc (c.args.line.now ++ (39 ∷ [])) text (39 ∷ [])
    ∙ append_assoc c.args.line.now (39 ∷ []) (text ++ (39 ∷ [])))
    (λ e h. tt)
