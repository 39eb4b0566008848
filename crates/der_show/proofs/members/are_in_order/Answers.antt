use Rattle.std.proofs.Common.{◌≡◌, true}
use Rattle.der_show.specs.Members.{may_follow}
use Rattle.der_show.proofs.HeaderLemmas.{element_shorter}
use Rattle.der_show.proofs.MemberLemmas.{begun, gone_on, stopped, none_after}
use Rattle.der_show.proofs.members.are_in_order.Goals as goal

pub loop-member-init : goal.loop-member-init
loop-member-init c = begun c.args.order c.in-Some.first.now c.args.content.now c.in-Some.after.now c.in-Some.ensures.all
    c.in-Some.ensures.element

pub loop-member-smaller : goal.loop-member-smaller
loop-member-smaller c = element_shorter _ _ _ c.in-Some-split_member.ensures.all c.in-Some-split_member.ensures.element

pub loop-member-preserved : goal.loop-member-preserved
loop-member-preserved c =
    let follows : may_follow c.args.order c.loop-member.last.now c.in-Some-split_member.member.now ≡ true = cc in
    gone_on c.args.order c.in-Some-split_member.member.now c.loop-member.rest.now c.in-Some-split_member.others.now
    c.in-Some-split_member.ensures.all c.in-Some-split_member.ensures.element
    c.args.content.now c.loop-member.last.now follows c.loop-member.invariant

pub returns-then-not-may_follow : goal.returns-then-not-may_follow
returns-then-not-may_follow c =
    stopped c.args.order c.in-Some-split_member.member.now c.loop-member.rest.now c.in-Some-split_member.others.now
    c.in-Some-split_member.ensures.all c.in-Some-split_member.ensures.element
    c.args.content.now c.loop-member.last.now (λ follows. cc) c.loop-member.invariant

pub returns : goal.returns
returns c =
    c.loop-member.invariant.ordered (none_after c.args.order c.loop-member.last.now c.loop-member.rest.now
    c.in_default-split_member.ensures.none)
