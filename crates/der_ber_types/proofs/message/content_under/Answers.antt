use Rattle.std.proofs.Common.{arith}
use Rattle.der_ber_types.proofs.CallRefusals.{none-with, other-with}
use Rattle.der_ber_types.proofs.Writing.{something_left}
use Rattle.der_ber_types.proofs.message.content_under.Goals.{else-inner-via-then-inner+else-is_empty}
use Rattle.der_ber_types.proofs.message.content_under.Goals.{else-inner-via-else-inner}
use Rattle.der_ber_types.proofs.message.content_under.Goals as goal

pub returns-in_default : goal.returns-in_default
returns-in_default c = none-with c.args.bytes.now c.args.tag c.in_default.ensures

pub returns-else-inner : goal.returns-else-inner
returns-else-inner c =
    let element = c.in-Some.element in
    other-with c.args.bytes.now c.args.tag element.tag element.content.now element.after.now c.in-Some.ensures
    (λ same none. elim c.else-inner.branch [
      | else-inner-via-then-inner+else-is_empty w ↦
          something_left element.after.now w.is_empty.result w.is_empty.ensures w.if-is_empty.false none
      | else-inner-via-else-inner w ↦ omega (arith, c.inner.ensures, c.inner-2.ensures, w.if-inner.false, same)
    ])
