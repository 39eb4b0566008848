use Rattle.std.proofs.lemmas.Result.{IfOk-weaker}
use Rattle.der_signers.proofs.printed.refused_text.Goals as goal

pub returns : goal.returns
returns c =
    IfOk-weaker c.refusal_text.result _ _ (λ text h. record {
      reason = c.in_ok-reason.reason;
      is_reason =
          c.in_ok-reason.ensures;
      is = h;
    }) c.refusal_text.ensures
