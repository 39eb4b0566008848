use Rattle.std.proofs.Common.{arith}
use Rattle.der_path.proofs.Elements.{sizes}
use Rattle.der_path.proofs.Members.{within, skipped}
use Rattle.der_path.proofs.member.skip.Goals as goal

pub overflow_sub-len : goal.overflow_sub-len
overflow_sub-len c = omega (arith, sizes _ _ _ _ c.in-Some.ensures)

pub returns-in_default : goal.returns-in_default
returns-in_default c = λ tag content after b. absurd (c.in_default.ensures tag content after b)

pub returns-then-place-len : goal.returns-then-place-len
returns-then-place-len c =
    let size = sizes _ _ _ _ c.in-Some.ensures in
    within c.args.bytes.now _ _ _ c.in-Some.ensures c.args.place (omega arith)

pub returns-else-place-len : goal.returns-else-place-len
returns-else-place-len c =
    let size = sizes _ _ _ _ c.in-Some.ensures in
    skipped c.args.bytes.now _ _ _ c.in-Some.ensures c.args.place (omega arith)
