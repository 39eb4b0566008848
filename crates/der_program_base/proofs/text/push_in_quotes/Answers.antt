use Rattle.std.proofs.Common.{sym, ◌∙◌}
use Rattle.std.proofs.lemmas.Result.{MatchResult-weaker}
use Rattle.der_program_base.specs.Line.{is_special_in_quotes}
use Rattle.der_program_base.proofs.Escapes.{special_pushed, plain_pushed}
use Rattle.der_program_base.proofs.text.push_in_quotes.Goals as goal
use Rattle.der_program_base.proofs.text.push_in_quotes.Goals.{then-is_special_in_quotes+in_ok-push}
use Rattle.der_program_base.proofs.text.push_in_quotes.Goals.{else-is_special_in_quotes}

pub returns : goal.returns
returns c =
    elim c.if-is_special_in_quotes.branch [
      | then-is_special_in_quotes+in_ok-push w ↦ MatchResult-weaker c.push-2.result c.push-2.ensures
          (λ v h. special_pushed is_special_in_quotes c.args.character _ _ _ (sym c.is_special_in_quotes.ensures
          ∙ w.if-is_special_in_quotes.true) w.in_ok-push.ensures (rw w.line-is at h))
          (λ e h. tt)
      | else-is_special_in_quotes w ↦ MatchResult-weaker c.push-2.result c.push-2.ensures
          (λ v h. plain_pushed is_special_in_quotes c.args.character _ _ (sym c.is_special_in_quotes.ensures
          ∙ w.if-is_special_in_quotes.false) (rw w.line-is at h))
          (λ e h. tt)
    ]
