use Rattle.std.proofs.Common.{◌≡◌, sym, ◌∙◌}
use Rattle.std.specs.Prelude.{Some, None}
use Rattle.der_error_path.specs.Steps.{IsMistake, mistake_of}
use Rattle.der_error_path.proofs.steps.element_of.Goals as goal

pub returns-in-Some-clause-err : goal.returns-in-Some-clause-err
returns-in-Some-clause-err c = λ here.
    let is : mistake_of c.args.nodes.now c.args.step.now ≡ Some c.in-Some.mistake =
    sym c.mistake_of.ensures ∙ c.in-Some.is in
    IsMistake.by_tag c.in-Some.mistake is

pub returns-in_default-first_element-clause-err : goal.returns-in_default-first_element-clause-err
returns-in_default-first_element-clause-err c = λ here.
    let is : mistake_of c.args.nodes.now c.args.step.now ≡ None = sym c.mistake_of.ensures ∙ c.in_default.is in
    IsMistake.broken is c.in_default-first_element.ensures
