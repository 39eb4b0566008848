use Rattle.std.proofs.Common.{refl}
use Rattle.der_ber_types.proofs.Cutting.{smaller_after}
use Rattle.der_ber_types.proofs.InsideLemmas.{has_tag-some, has_tag-none}
use Rattle.der_ber_types.proofs.SetLemmas.{passed-none, passed-more, first-found}
use Rattle.der_ber_types.proofs.sets.first_of.Goals as goal

pub loop-element-init : goal.loop-element-init
loop-element-init c = passed-none c.args.nodes.now c.args.index c.args.bytes.now

pub loop-element-smaller : goal.loop-element-smaller
loop-element-smaller c =
    smaller_after c.loop-element.rest.now c.in-Some.element.after.now c.in-Some.element.tag
    c.in-Some.element.content.now c.in-Some.ensures

pub loop-element-preserved : goal.loop-element-preserved
loop-element-preserved c =
    let element = c.in-Some.element in
    passed-more c.args.nodes.now c.args.index c.args.bytes.now c.loop-element.rest.now element.tag element.content.now
    element.after.now c.loop-element.invariant c.in-Some.ensures
    (has_tag-none c.args.nodes.now c.args.index element.tag c.inside_of.result c.is_some.result
    c.inside_of.ensures.none c.is_some.ensures c.if-is_some.false)

pub returns-then-is_some : goal.returns-then-is_some
returns-then-is_some c =
    let nodes = c.args.nodes.now in
    let element = c.in-Some.element in
    let has = has_tag-some nodes c.args.index element.tag c.inside_of.result c.is_some.result c.inside_of.ensures.some
    c.is_some.ensures c.if-is_some.true in
    first-found nodes c.args.index c.args.bytes.now c.loop-element.rest.now element.tag element.content.now
    element.after.now _ c.split_at.result.1.now _ _ _ _ c.loop-element.invariant c.in-Some.ensures has refl
    c.split_at.ensures.front c.split_at.ensures.back refl c.split_at-then-is_some.ensures.front
    c.split_at-then-is_some.ensures.back
