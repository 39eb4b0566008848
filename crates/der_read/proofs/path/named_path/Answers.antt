use Rattle.std.proofs.lemmas.Result.{IfOk-weaker}
use Rattle.der_read.proofs.path.named_path.Goals as goal

pub returns : goal.returns
returns c =
    IfOk-weaker c.names.result _ _ (λ text is. record {
      path = c.in_ok-path.path;
      place = c.in_ok-path.ensures.place;
      numbers = c.in_ok-path.ensures.numbers;
      steps = c.in_ok-path.ensures.steps;
      is = is;
    }) c.names.ensures
