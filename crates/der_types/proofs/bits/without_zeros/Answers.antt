use Rattle.std.proofs.Common.{◌≡◌, ◌++◌, ◌∷◌, [], true, false, List, Bool, length, sym, ap, ◌∙◌, refl, arith}
use Rattle.der_types.specs.BitString.{without_zeros}
use Rattle.der_types.specs.BitStringLaws.{without_zeros-false, without_zeros-true}
use Rattle.der_types.proofs.bits.without_zeros.Goals as goal

none_left : (bits : List Bool) → length bits ≡ 0 → bits ≡ without_zeros bits
none_left [] h = refl
none_left (b ∷ bits) h = absurd (omega arith)

pub loop-last-preserved : goal.loop-last-preserved
loop-last-preserved c =
    let others = c.in-Some.others.now in
    let zero : c.in-Some.last.now ≡ false = c.if-last.false in
    let used = c.in-Some.ensures.cases.0 ∙ ap (λ b. others ++ b ∷ []) zero in
    sym (without_zeros-false others) ∙ sym (ap without_zeros used) ∙ c.loop-last.invariant

pub returns-then-last : goal.returns-then-last
returns-then-last c =
    let others = c.in-Some.others.now in
    let one : c.in-Some.last.now ≡ true = c.if-last.true in
    let used = c.in-Some.ensures.cases.0 ∙ ap (λ b. others ++ b ∷ []) one in
    used ∙ sym (without_zeros-true others) ∙ sym (ap without_zeros used) ∙ c.loop-last.invariant

pub returns : goal.returns
returns c = none_left c.loop-last.used.now (rw c.in_default.is at c.split_last.ensures.cases) ∙ c.loop-last.invariant
