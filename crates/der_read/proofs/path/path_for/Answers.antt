use Rattle.std.proofs.lemmas.Result.{IfOk-weaker}
use Rattle.der_read.specs.Paths.{IsPathAt}
use Rattle.der_read.proofs.path.path_for.Goals as goal

pub returns-in-Some : goal.returns-in-Some
returns-in-Some c =
    IfOk-weaker c.named_path.result _ _ (λ text is. IsPathAt.by_names c.in-Some.schema c.in-Some.ensures.some is)
    c.named_path.ensures

pub returns-in-None : goal.returns-in-None
returns-in-None c =
    IfOk-weaker c.numbered_path.result _ _ (λ text is. IsPathAt.by_numbers c.in-None.ensures.none is)
    c.numbered_path.ensures
