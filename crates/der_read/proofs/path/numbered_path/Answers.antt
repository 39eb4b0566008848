use Rattle.std.proofs.Common.{ap, ◌∙◌}
use Rattle.std.proofs.lemmas.Result.{IfOk-weaker}
use Rattle.der_path.specs.Texts.{with_points}
use Rattle.der_read.specs.Paths.{IsNumberedPath}
use Rattle.der_read.proofs.path.numbered_path.Goals as goal

pub returns : goal.returns
returns c =
    IfOk-weaker c.text_of.result _ _ (λ text is. IsNumberedPath.numbers c.in_ok-path_at.field-0.items
    c.if-offset-eq0.false c.in_ok-path_at.ensures (is ∙ ap with_points c.deref.ensures.value))
    c.text_of.ensures
