use Rattle.std.proofs.Common.{◌/◌, ◌%◌, ◌∷◌, [], ◌++◌, ap, ◌∙◌, append_assoc, lit<, refl}
use Rattle.std.proofs.lemmas.Result.{MatchResult-weaker}
use Rattle.der_program_base.specs.Line.{hexadecimal}
use Rattle.der_program_base.proofs.Escapes.{shown_ascii}
use Rattle.der_program_base.proofs.json.push_code.Goals as goal

pub returns : goal.returns
returns c =
    let old = c.args.line.now in
    let code = c.args.code in
    let digits = hexadecimal (code / 256 % 256 ∷ code % 256 ∷ []) in
    let slash = c.in_ok-push.ensures ∙ ap (λ l. old ++ l) (shown_ascii 92 (lit< tt) refl) in
    let begun = c.in_ok-push-2.ensures ∙ ap (λ l. c.push.new.self ++ l) (shown_ascii 117 (lit< tt) refl)
    ∙ ap (λ l. l ++ (117 ∷ [])) slash ∙ append_assoc old (92 ∷ []) (117 ∷ []) in
    MatchResult-weaker c.push_hexadecimal.result c.push_hexadecimal.ensures (λ v h. h ∙ ap (λ l. l ++ digits) begun
    ∙ append_assoc old (92 ∷ 117 ∷ []) digits) (λ e h. tt)
