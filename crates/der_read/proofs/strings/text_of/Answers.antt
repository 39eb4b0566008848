use Rattle.std.proofs.Common.{arith}
use Rattle.std.proofs.lemmas.Result.{IfOk-weaker}
use Rattle.der_read.proofs.StringLemmas.{no_header, inside, more_than_one, text_found}
use Rattle.der_read.proofs.strings.text_of.Goals as goal

pub returns-in_default : goal.returns-in_default
returns-in_default c = no_header c.args.element.now c.in_default.field-0 c.in_default.ensures.small
    c.in_default.ensures.err

pub overflow_add-end : goal.overflow_add-end
overflow_add-end c = omega (arith, inside c.args.element.now c.in-Ok.header c.in-Ok.ensures.ok, c.in-Ok.ensures.small)

pub returns-then-end-element : goal.returns-then-end-element
returns-then-end-element c = more_than_one c.args.element.now c.in-Ok.header c.in-Ok.ensures.ok c.if-end-element.true

pub returns : goal.returns
returns c =
    IfOk-weaker c.string_text.result _ _ (text_found c.args.element.now c.in-Ok.header c.in-Ok.ensures.ok
    c.if-end-element.false) c.string_text.ensures
