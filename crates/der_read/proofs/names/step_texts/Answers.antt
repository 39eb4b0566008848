use Rattle.std.proofs.Common.{ap, ◌∙◌, subst, string_bytes}
use Rattle.der_read.specs.Names.{IsStepText}
use Rattle.der_read.proofs.Lists.{zip_more}
use Rattle.der_read.proofs.names.step_texts.Goals as goal

pub loop-step-preserved : goal.loop-step-preserved
loop-step-preserved c =
    let attributes = c.deref.ensures.value ∙ ap (λ v. v.0.items) c.get.ensures.value in
    rw c.in_ok-push.ensures.items (zip_more _ c.args.steps.now c.loop-step.texts.items c.loop-step.step-index
    c.step-item.result c.in_ok-text.text c.loop-step-test.true c.step-item.is c.loop-step.invariant
    (subst (λ l. IsStepText l (string_bytes c.in_ok-text.text)) attributes c.in_ok-text.ensures))
