use Rattle.std.proofs.Common.{arith}
use Rattle.der_path.proofs.Elements.{sizes}
use Rattle.der_path.proofs.Members.{nothing_inside, primitive_inside, before_inside, past_inside, is_inside}
use Rattle.der_path.proofs.member.content_at.Goals as goal

pub overflow_sub-start : goal.overflow_sub-start
overflow_sub-start c = omega (arith, sizes _ _ _ _ c.in-Some.ensures)

pub overflow_sub-start-2 : goal.overflow_sub-start-2
overflow_sub-start-2 c = omega (arith, sizes _ _ _ _ c.in-Some.ensures)

pub returns-in_default : goal.returns-in_default
returns-in_default c = nothing_inside c.args.bytes.now c.args.place c.in_default.ensures

pub returns-then-not-is_constructed : goal.returns-then-not-is_constructed
returns-then-not-is_constructed c =
    primitive_inside c.args.bytes.now _ _ _ c.in-Some.ensures c.args.place (cc (c.is_constructed.ensures.bit))

pub returns-then-place-start : goal.returns-then-place-start
returns-then-place-start c =
    let size = sizes _ _ _ _ c.in-Some.ensures in
    before_inside c.args.bytes.now _ _ _ c.in-Some.ensures c.args.place (omega arith)

pub returns-then-inner-content_len : goal.returns-then-inner-content_len
returns-then-inner-content_len c =
    let size = sizes _ _ _ _ c.in-Some.ensures in
    is_inside c.args.bytes.now _ _ _ c.in-Some.ensures c.args.place _ (cc (c.is_constructed.ensures.bit)) (omega arith)
    (omega arith)

pub returns-else-inner-content_len : goal.returns-else-inner-content_len
returns-else-inner-content_len c =
    let size = sizes _ _ _ _ c.in-Some.ensures in
    past_inside c.args.bytes.now _ _ _ c.in-Some.ensures c.args.place (omega arith)
