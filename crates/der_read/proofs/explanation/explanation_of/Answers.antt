use Rattle.std.proofs.Common.{refl}
use Rattle.std.proofs.lemmas.Result.{IfOk-weaker}
use Rattle.der_read.proofs.explanation.explanation_of.Goals as goal

pub returns-then-is_empty : goal.returns-then-is_empty
returns-then-is_empty c = record { reason = c.in_ok-reason.reason; is = c.in_ok-reason.ensures; offset = refl }

pub returns : goal.returns
returns c =
    IfOk-weaker c.explained.result _ _ (λ it e. record {
      reason = c.in_ok-reason.reason;
      is = c.in_ok-reason.ensures;
      offset = e;
    }) c.explained.ensures
