use Rattle.std.proofs.Common.{◌∷◌, [], ◌++◌, ap, ◌∙◌, append_assoc, lit<, refl}
use Rattle.std.proofs.lemmas.Result.{MatchResult-weaker}
use Rattle.der_program_base.specs.Line.{hexadecimal}
use Rattle.der_program_base.proofs.Escapes.{shown_ascii}
use Rattle.der_program_base.proofs.text.push_bytes.Goals as goal

pub returns : goal.returns
returns c =
    let digits = hexadecimal c.args.bytes.now in
    MatchResult-weaker c.push_hexadecimal.result c.push_hexadecimal.ensures
    (λ v h. h ∙ ap (λ l. l ++ digits) (c.in_ok-push.ensures
    ∙ ap (λ l. c.args.line.now ++ l) (shown_ascii 35 (lit< tt) refl))
    ∙ append_assoc c.args.line.now (35 ∷ []) digits)
    (λ e h. tt)
