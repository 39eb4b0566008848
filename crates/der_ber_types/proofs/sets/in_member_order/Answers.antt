use Rattle.der_ber_types.proofs.SetLemmas.{moved-next, moved-end}
use Rattle.der_ber_types.proofs.sets.in_member_order.Goals as goal

pub loop-member-preserved : goal.loop-member-preserved
loop-member-preserved c =
    moved-next c.args.nodes.now c.args.members.now c.loop-member.member-index _ c.args.bytes.now
    c.loop-member.rest.items c.in_ok-rest-2.rest.items c.loop-member.ordered.items c.without_member.new.ordered.items
    c.loop-member-test.true c.loop-member.invariant c.in_ok-rest-2.ensures

pub returns : goal.returns
returns c =
    moved-end c.args.nodes.now c.args.members.now c.loop-member.member-index c.args.bytes.now c.loop-member.rest.items
    c.deref.result.now c.loop-member.ordered.items c.extend_from_slice.new.self.items c.loop-member-test.false
    c.loop-member.invariant c.in_ok-extend_from_slice.ensures.items c.deref.ensures.value
