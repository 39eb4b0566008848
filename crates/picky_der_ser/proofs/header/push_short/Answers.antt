use Rattle.std.proofs.Common.{◌≡◌, ℕ, ◌<◌, List, [], ◌∷◌, ◌++◌, length, get_or, refl, sym, ◌∙◌, ap, append_assoc, arith}
use Rattle.picky_der_core.specs.Primitive.{Primitive}
use Rattle.picky_der_core.specs.EncodingLaws.{der-primitive}
use Rattle.picky_der_core.specs.Encoding.{der}
use Rattle.picky_der_core.specs.Tree.{Tree}
use Rattle.picky_der_ser.proofs.HeaderBytes.{tlv-short}
use Rattle.picky_der_ser.proofs.header.push_short.Goals as goal

short : (tag : ℕ) (bs : List ℕ) → length bs < 0x80
    → der (Tree.primitive (Primitive.bytes tag bs)) ≡ tag ∷ length bs ∷ bs
short tag bs h = der-primitive (Primitive.bytes tag bs) ∙ tlv-short tag bs h

single : (bs : List ℕ) → length bs ≡ 1 → bs ≡ get_or bs 0 0 ∷ []
single [] e = absurd (omega arith)
single (b ∷ []) e = refl
single (b ∷ d ∷ bs) e = absurd (omega arith)

pub returns-else-content-eq1-clause-items : goal.returns-else-content-eq1-clause-items
returns-else-content-eq1-clause-items c =
    let s = c.args.out.now.items in
    let b = c.args.content.now in
    let front : c.extend_from_slice-else-content-eq1.new.self.items ≡ s ++ (c.args.tag ∷ length b ∷ []) =
    grind (arith) in
    let all : c.extend_from_slice-else-content-eq1-2.new.self.items
    ≡ c.extend_from_slice-else-content-eq1.new.self.items ++ b = grind (arith) in
    all ∙ ap (λ x. x ++ b) front ∙ append_assoc s (c.args.tag ∷ length b ∷ []) b
    ∙ ap (λ x. s ++ x) (sym (short c.args.tag b c.requires.short))

pub returns-else-content-eq1-clause-count : goal.returns-else-content-eq1-clause-count
returns-else-content-eq1-clause-count c =
    let size = ap length (short c.args.tag c.args.content.now c.requires.short) in
    omega (arith, size)

pub returns-then-content-eq1-clause-items : goal.returns-then-content-eq1-clause-items
returns-then-content-eq1-clause-items c =
    let s = c.args.out.now.items in
    let b = c.args.content.now in
    let one = c.if-content-eq1.true in
    let all : c.extend_from_slice.new.self.items ≡ s ++ (c.args.tag ∷ 1 ∷ get_or b 0 0 ∷ []) = grind (arith) in
    all ∙ ap (λ x. s ++ (c.args.tag ∷ 1 ∷ x)) (sym (single b one)) ∙ ap (λ n. s ++ (c.args.tag ∷ n ∷ b)) (sym one)
    ∙ ap (λ x. s ++ x) (sym (short c.args.tag b c.requires.short))

pub returns-then-content-eq1-clause-count : goal.returns-then-content-eq1-clause-count
returns-then-content-eq1-clause-count c =
    let size = ap length (short c.args.tag c.args.content.now c.requires.short) in
    omega (arith, size)
