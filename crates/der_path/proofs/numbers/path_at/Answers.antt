use Rattle.std.proofs.Common.{◌-◌, subst, sym, arith}
use Rattle.der_path.proofs.Paths.{LeadsTo, starts, ends, ends_in, leads_on, shorter}
use Rattle.der_path.proofs.numbers.path_at.Goals as goal

pub loop-member-init : goal.loop-member-init
loop-member-init c =
    subst (λ path. LeadsTo c.args.bytes.now c.args.place path c.args.bytes.now c.args.place)
    (sym c.new-path.ensures.items) (starts c.args.bytes.now c.args.place)

pub overflow_sub-inner : goal.overflow_sub-inner
overflow_sub-inner c = omega (arith, c.in-Some.ensures.at)

pub returns-in_default-content_at : goal.returns-in_default-content_at
returns-in_default-content_at c =
    rw c.in_ok-push.ensures.items (ends_in c.args.bytes.now c.args.place c.loop-member.path.items
    c.loop-member.around.now c.loop-member.inner c.loop-member.invariant c.in-Some.member.index c.in-Some.member.offset
    c.in-Some.member.bytes.now c.in-Some.ensures c.in_default-content_at.ensures)

pub loop-member-smaller : goal.loop-member-smaller
loop-member-smaller c =
    shorter c.args.bytes.now c.args.place c.loop-member.path.items
    c.loop-member.around.now c.loop-member.inner c.loop-member.invariant c.in-Some.member.index c.in-Some.member.offset
    c.in-Some.member.bytes.now c.in-Some.ensures c.in-Some-content_at.content.now c.in-Some-content_at.within
    c.in-Some-content_at.ensures

pub loop-member-preserved : goal.loop-member-preserved
loop-member-preserved c =
    rw c.in_ok-push.ensures.items (leads_on c.args.bytes.now c.args.place c.loop-member.path.items
    c.loop-member.around.now c.loop-member.inner c.loop-member.invariant c.in-Some.member.index c.in-Some.member.offset
    c.in-Some.member.bytes.now c.in-Some.ensures c.in-Some-content_at.content.now c.in-Some-content_at.within
    c.in-Some-content_at.ensures)

pub returns : goal.returns
returns c = ends _ _ _ _ _ c.loop-member.invariant c.in_default.ensures
