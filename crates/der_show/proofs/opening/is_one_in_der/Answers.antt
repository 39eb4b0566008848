use Rattle.std.proofs.Common.{arith, rules}
use Rattle.der_show.proofs.HeaderLemmas.{found}
use Rattle.der_show.proofs.OpeningLemmas.{not_one_broken, not_one_longer, one_by_complaint}
use Rattle.der_show.proofs.opening.is_one_in_der.Goals as goal

pub returns-in-Err : goal.returns-in-Err
returns-in-Err c = not_one_broken c.args.bytes.now _ (omega arith) c.in-Err.ensures.err

pub overflow_add-header : goal.overflow_add-header
overflow_add-header c = omega (
  arith,
  (found c.args.bytes.now c.in-Ok.header c.in-Ok.ensures.ok).1,
  c.header_of.ensures.small,
)

pub returns-then-header-bytes : goal.returns-then-header-bytes
returns-then-header-bytes c = not_one_longer c.args.bytes.now c.in-Ok.header c.in-Ok.ensures.ok c.if-header-bytes.true

pub returns : goal.returns
returns c = one_by_complaint c.args.bytes.now c.in-Ok.header c.in_ok-complaint_of.field-0 c.is_none.result
    c.in-Ok.ensures.ok c.if-header-bytes.false c.in_ok-complaint_of.ensures (search (rules, c.is_none.ensures))
