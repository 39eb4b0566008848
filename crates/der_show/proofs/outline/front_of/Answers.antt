use Rattle.std.proofs.Common.{sym, ◌∙◌, arith}
use Rattle.der_show.specs.Outlines.{Breaks}
use Rattle.der_show.proofs.Fronts.{header_within, form_broken, content_broken, front_found}
use Rattle.der_show.proofs.outline.front_of.Goals as goal

pub returns-in-Err : goal.returns-in-Err
returns-in-Err c = Breaks.header c.in-Err.ensures.err

pub returns-in-Some : goal.returns-in-Some
returns-in-Some c = form_broken c.args.bytes.now c.in-Ok.header c.in-Ok.ensures.ok _ (sym c.form_rule.ensures
    ∙ c.in-Some.is)

pub overflow_add-content : goal.overflow_add-content
overflow_add-content c = omega (
  arith,
  header_within c.args.bytes.now c.in-Ok.header c.in-Ok.ensures.ok,
  c.header_of.ensures.small,
)

pub slice_bounds-content-end : goal.slice_bounds-content-end
slice_bounds-content-end c = omega (arith, header_within c.args.bytes.now c.in-Ok.header c.in-Ok.ensures.ok)

pub returns-in-Some-content_rule : goal.returns-in-Some-content_rule
returns-in-Some-content_rule c =
    content_broken c.args.bytes.now c.in-Ok.header c.in-Ok.ensures.ok _
    (rw c.in-Some-content_rule.is at c.content_rule.ensures)

pub returns-in-None : goal.returns-in-None
returns-in-None c = front_found c.args.bytes.now c.in-Ok.header c.in-Ok.ensures.ok (sym c.form_rule.ensures
    ∙ c.in_default.is) (rw c.in-None.is at c.content_rule.ensures)
