use Rattle.std.proofs.Common.{◌≡◌, true, false, ap, sym, subst, ◌∙◌}
use Rattle.std.specs.Prelude.{Some}
use Rattle.der_error_path.specs.Awaited.{are_sorted, awaited, default_in}
use Rattle.der_error_path.specs.Contents.{node_can_have}
use Rattle.der_error_path.specs.Steps.{IsMistake}
use Rattle.der_error_path.specs.declared.path.Mistake.TheVariants as mistake
use Rattle.der_error_path.proofs.mistakes.mistake_in.Goals as goal

pub returns-in-Some : goal.returns-in-Some
returns-in-Some c =
    let e = c.args.element.now in
    let found = c.in-Some.ensures in
    subst (λ name. IsMistake c.args.nodes.now (awaited c.args.passed.now.here) c.args.passed.now.rest.now
    c.args.step.now (mistake.Missing name)) (sym found.2)
    (IsMistake.missing e.tag e.content.now e.after.now (awaited c.args.inner) found.0 c.requires found.1)

pub returns-then-not-node_can_have : goal.returns-then-not-node_can_have
returns-then-not-node_can_have c =
    let e = c.args.element.now in
    let not : node_can_have c.args.nodes.now c.args.step.now.node e.content.now ≡ false =
    sym c.node_can_have.ensures ∙ c.if-not-node_can_have.true in
    IsMistake.content e.tag e.content.now e.after.now (awaited c.args.inner) c.requires not

pub returns-then-is_content_of : goal.returns-then-is_content_of
returns-then-is_content_of c =
    let is : default_in c.args.nodes.now c.args.step.now.identifier (awaited c.args.passed.now.here)
    ≡ Some c.in-Some-default.value =
    ap (λ tag. default_in c.args.nodes.now tag (awaited c.args.passed.now.here)) (sym c.from.ensures)
    ∙ sym c.default.ensures ∙ c.in-Some-default.is in
    IsMistake.default c.in-Some-default.value is

pub returns-in-Some-last : goal.returns-in-Some-last
returns-in-Some-last c =
    let is : are_sorted (awaited c.args.passed.now.here) ≡ true = sym c.are_sorted.ensures ∙ c.if-are_sorted.true in
    IsMistake.order is
