use Rattle.std.proofs.Common.{◌≡◌, subst, arith}
use Rattle.der_ber_types.specs.Message.{IsNoElementWith}
use Rattle.der_ber_types.proofs.CallRefusals.{no_members, no_identifier, no_explicit}
use Rattle.der_ber_types.proofs.message.message_of.Goals as goal

pub returns-in_default-first_element : goal.returns-in_default-first_element
returns-in_default-first_element c =
    no_members c.args.bytes.now c.in-Some.members.now c.in-Some.ensures c.in_default-first_element.ensures

pub returns-then-inner-ne6 : goal.returns-then-inner-ne6
returns-then-inner-ne6 c =
    let first = c.in-Some-first_element.first in
    no_identifier c.args.bytes.now c.in-Some.members.now first.tag first.content.now first.after.now c.in-Some.ensures
    c.in-Some-first_element.ensures (λ same. omega (arith, c.inner.ensures, c.if-inner-ne6.true, same))

pub returns-in_default-content_under : goal.returns-in_default-content_under
returns-in_default-content_under c =
    let first = c.in-Some-first_element.first in
    let tag : c.context_specific_constructed.result ≡ 0xA0 = omega (arith, c.context_specific_constructed.ensures) in
    no_explicit c.args.bytes.now c.in-Some.members.now first.tag first.content.now first.after.now c.in-Some.ensures
    c.in-Some-first_element.ensures
    (subst (λ t. IsNoElementWith t first.after.now) tag c.in_default-content_under.ensures)
