use Rattle.std.proofs.Common.{subst, sym, arith}
use Rattle.picky_der_core.specs.Element.{IsElement}
use Rattle.der_show.proofs.HeaderLemmas.{found, begins_with}
use Rattle.der_show.proofs.members.split_member.Goals as goal

pub overflow_add-header : goal.overflow_add-header
overflow_add-header c = omega (
  arith,
  (found c.args.bytes.now c.in-Ok.header c.in-Ok.ensures.ok).1,
  c.header_of.ensures.small,
)

pub split_at-requires : goal.split_at-requires
split_at-requires c = (found c.args.bytes.now c.in-Ok.header c.in-Ok.ensures.ok).1

pub returns-in-Ok-clause-element : goal.returns-in-Ok-clause-element
returns-in-Ok-clause-element c =
    subst IsElement (sym c.split_at.ensures.front) (found c.args.bytes.now c.in-Ok.header c.in-Ok.ensures.ok).0

pub returns-in-Err-clause-none : goal.returns-in-Err-clause-none
returns-in-Err-clause-none c = begins_with c.args.bytes.now _ (omega (arith, c.header_of.ensures.small))
    c.in-Err.ensures.err
