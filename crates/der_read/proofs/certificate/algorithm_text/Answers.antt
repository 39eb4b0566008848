use Rattle.std.proofs.Common.{Some, rules}
use Rattle.std.proofs.lemmas.Result.{IfOk-weaker}
use Rattle.der_read.proofs.certificate.algorithm_text.Goals as goal

pub returns-in-Some : goal.returns-in-Some
returns-in-Some c = IfOk-weaker c.format.result _ _ (λ text e. (Some c.in-Some.name.now, search rules))
    c.format.ensures.ok
