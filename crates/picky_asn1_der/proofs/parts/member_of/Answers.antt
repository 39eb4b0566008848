use Rattle.std.proofs.Common.{[], append-nil, sym, ◌∙◌, arith}
use Rattle.picky_asn1_der.proofs.PartLemmas.{none_skipped, one_more, some_more, member_there, member_is, member_at}
use Rattle.picky_asn1_der.proofs.PartLemmas.{element_ends}
use Rattle.picky_asn1_der.proofs.parts.member_of.Goals as goal

pub returns-in_default-clause-found : goal.returns-in_default-clause-found
returns-in_default-clause-found c =
    λ tag content member is has. c.in_default.ensures.found tag content [] (is ∙ sym (append-nil _))

pub returns-then-header-element-clause-found : goal.returns-then-header-element-clause-found
returns-then-header-element-clause-found c = λ tag content member is has.
    let header = c.in-Some.ensures.found tag content [] (is ∙ sym (append-nil _)) in
    let size = element_ends c.args.element.now content tag c.in-Some.header is header in
    absurd (omega (arith, size))

pub loop-init : goal.loop-init
loop-init c = none_skipped c.args.element.now c.args.index c.in-Some.header c.in-Some.ensures.found

pub returns-in_default-split_element-clause-found : goal.returns-in_default-split_element-clause-found
returns-in_default-split_element-clause-found c =
    some_more c.args.element.now c.args.index c.loop.counter c.loop.rest.now c.loop.invariant
    (omega arith)
    c.in_default-split_element.ensures.found

pub loop-preserved : goal.loop-preserved
loop-preserved c =
    let found = c.in-Some-split_element in
    one_more c.args.element.now c.args.index c.loop.counter c.loop.rest.now c.loop.invariant (
      found.field-0-0.now,
      found.after.now,
    ) (omega arith) found.ensures.found found.ensures.all found.ensures.element

pub returns-in_default-split_element-2-clause-found : goal.returns-in_default-split_element-2-clause-found
returns-in_default-split_element-2-clause-found c =
    member_there c.args.element.now c.args.index c.loop.counter c.loop.rest.now c.loop.invariant
    (omega arith)
    c.in_default-split_element-2.ensures.found

pub returns-clause-found : goal.returns-clause-found
returns-clause-found c =
    let found = c.in-Some-split_element-2 in
    member_is c.args.element.now c.args.index c.loop.counter c.loop.rest.now c.loop.invariant
    (omega arith)
    (found.member.now, found.field-0-1.now) found.ensures.found

pub returns-clause-is : goal.returns-clause-is
returns-clause-is c =
    let found = c.in-Some-split_element-2 in
    member_at c.args.element.now c.args.index c.loop.counter c.loop.rest.now c.loop.invariant
    c.in-Some.header c.in-Some.ensures.is (omega arith) (omega arith) (found.member.now, found.field-0-1.now)
    found.ensures.all found.ensures.element
