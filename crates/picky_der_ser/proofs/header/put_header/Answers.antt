use Rattle.std.proofs.Common.{◌≡◌, ◌-◌, ◌/◌, ◌%◌, ◌∷◌, ◌++◌, length, take, drop, OnOk, sym, ap, ap₂, subst, ◌∙◌}
use Rattle.std.proofs.Common.{arith}
use Rattle.std.proofs.lemmas.List.{length-drop}
use Rattle.picky_der_core.specs.Element.{tlv}
use Rattle.picky_der_ser.specs.Headers.{front}
use Rattle.picky_der_ser.proofs.HeaderBytes.{tlv-short, tlv-one, tlv-two}
use Rattle.picky_der_ser.proofs.header.put_header.Goals as goal

pub returns-then-len-lt128 : goal.returns-then-len-lt128
returns-then-len-lt128 c =
    let s = c.args.out.now.items in
    let b = drop c.args.start s in
    let n = c.len.result - c.args.start in
    let size : n ≡ length b = omega (arith, length-drop c.args.start s) in
    let whole : c.inner-identifier.result ∷ n ∷ b ≡ tlv c.args.tag (front c.args.has_front ++ b) =
    ap₂ (λ x k. x ∷ k ∷ b) c.inner-identifier.ensures size
    ∙ sym (tlv-short c.args.tag b (omega (arith, size, c.if-len-lt128.true)))
    ∙ ap (λ f. tlv c.args.tag (front f ++ b)) (sym c.if-not-has_front.true) in
    subst (λ x. OnOk c.put_before.result (c.put_before.new.out.items ≡ take c.args.at s ++ x)) whole
    c.put_before.ensures

pub returns-then-len-lt256 : goal.returns-then-len-lt256
returns-then-len-lt256 c =
    let s = c.args.out.now.items in
    let b = drop c.args.start s in
    let n = c.len.result - c.args.start in
    let put = c.put_before-then-len-lt256 in
    let size : n ≡ length b = omega (arith, length-drop c.args.start s) in
    let whole : c.inner-identifier.result ∷ 0x81 ∷ n ∷ b ≡ tlv c.args.tag (front c.args.has_front ++ b) =
    ap₂ (λ x k. x ∷ 0x81 ∷ k ∷ b) c.inner-identifier.ensures size
    ∙ sym (tlv-one c.args.tag b (omega (arith, size, c.if-len-lt128.false)) (omega (arith, size, c.if-len-lt256.true)))
    ∙ ap (λ f. tlv c.args.tag (front f ++ b)) (sym c.if-not-has_front.true) in
    subst (λ x. OnOk put.result (put.new.out.items ≡ take c.args.at s ++ x)) whole put.ensures

pub returns-then-len-lt65536 : goal.returns-then-len-lt65536
returns-then-len-lt65536 c =
    let s = c.args.out.now.items in
    let b = drop c.args.start s in
    let n = c.len.result - c.args.start in
    let put = c.put_before-then-len-lt65536 in
    let size : n ≡ length b = omega (arith, length-drop c.args.start s) in
    let whole : c.inner-identifier.result ∷ 0x82 ∷ n / 256 ∷ n % 256 ∷ b
    ≡ tlv c.args.tag (front c.args.has_front ++ b) =
    ap₂ (λ x k. x ∷ 0x82 ∷ k / 256 ∷ k % 256 ∷ b) c.inner-identifier.ensures size
    ∙ sym (tlv-two c.args.tag b (omega (arith, size, c.if-len-lt256.false))
    (omega (arith, size, c.if-len-lt65536.true)))
    ∙ ap (λ f. tlv c.args.tag (front f ++ b)) (sym c.if-not-has_front.true) in
    subst (λ x. OnOk put.result (put.new.out.items ≡ take c.args.at s ++ x)) whole put.ensures
