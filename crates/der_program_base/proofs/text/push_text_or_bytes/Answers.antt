use Rattle.std.proofs.Common.{◌≡◌, ◌++◌, Bool, true, false, ap, ◌∙◌, refl}
use Rattle.std.specs.Str.{is_utf8}
use Rattle.std.proofs.lemmas.Str.{is_utf8-from_IsUtf8, IsUtf8-from_is_utf8}
use Rattle.std.proofs.lemmas.Result.{MatchResult-weaker}
use Rattle.der_program_base.specs.Line.{escaped, is_special_in_names}
use Rattle.der_program_base.proofs.text.push_text_or_bytes.Goals as goal

not_true : (b : Bool) → (b ≡ true → ⊥) → b ≡ false
not_true true h = absurd (h refl)
not_true false h = refl

pub returns-in-Ok : goal.returns-in-Ok
returns-in-Ok c =
    let utf8 = c.in-Ok.ensures.cases in
    let is = is_utf8-from_IsUtf8 c.args.bytes.now utf8.1 in
    MatchResult-weaker c.push_text.result c.push_text.ensures
    (λ v h. rw is (h ∙ ap (λ t. c.args.line.now ++ escaped is_special_in_names t) utf8.0))
    (λ e h. tt)

pub returns-in-Err : goal.returns-in-Err
returns-in-Err c =
    let is = not_true (is_utf8 c.args.bytes.now)
    (λ e. c.in-Err.ensures.cases.0 (IsUtf8-from_is_utf8 c.args.bytes.now e)) in
    MatchResult-weaker c.push_bytes.result c.push_bytes.ensures (λ v h. rw is h) (λ e h. tt)
