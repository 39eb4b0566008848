use Rattle.std.proofs.Common.{arith, ◌≡◌, ◌+◌, ◌-◌, length, ℕ, List, ap, refl, ◌∙◌}
use borrow.Rule.Slice.PartMut.{put_mid}
use Rattle.der_c.specs.Writing.{IsPut, put_over}
use Rattle.der_c.proofs.WritingLemmas.{mid_put}
use Rattle.der_c.proofs.writing.append.Goals as goal

pub returns-in_default : goal.returns-in_default
returns-in_default c = IsPut.uncountable (omega (arith, c.in_default.ensures)) refl refl refl

pub returns-then-end-out : goal.returns-then-end-out
returns-then-end-out c =
    IsPut.short (omega (arith, c.if-end-out.true)) (omega (arith, c.in-Some.ensures)) refl refl

pub returns : goal.returns
returns c =
    let old = c.args.out.now in
    let at = c.args.used.now in
    let bytes = c.args.bytes.now in
    let end : c.in-Some.end ≡ at + length bytes = omega (arith, c.in-Some.ensures) in
    let put : put_mid at (c.in-Some.end - at) old c.copy_from_slice.new.self ≡ put_over old at bytes =
    ap (λ (s : List ℕ). put_mid at (c.in-Some.end - at) old s) c.copy_from_slice.ensures.after
    ∙ ap (λ (n : ℕ). put_mid at (n - at) old bytes) end ∙ mid_put old bytes at in
    IsPut.put (omega (arith, c.if-end-out.false)) end put refl
