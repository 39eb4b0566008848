use Rattle.std.proofs.Common.{◌≡◌, ℕ, ◌++◌, ◌∷◌, [], if◌then◌else◌, List, length, Result, Ok, Err, OnOk, sym, ap, ◌∙◌}
use Rattle.std.proofs.Common.{ap₂, append_assoc, arith}
use Rattle.std.specs.Result.{is_ok}
use Rattle.picky_der_core.specs.Element.{tlv}
use Rattle.picky_der_ser.specs.Headers.{front}
use Rattle.picky_der_ser.proofs.HeaderBytes.{tlv-short}
use Rattle.picky_der_ser.proofs.header.push_header.Goals as goal

-- a header that is added before what comes, unless the allocation fails
added : {T E : Type 0} (r : Result T E) (s h new : List ℕ) (n : ℕ) (whole : List ℕ → List ℕ)
    → new ≡ (if is_ok r then s ++ h else s) → ((d : List ℕ) → length d ≡ n → h ++ d ≡ whole d)
    → OnOk r ((d : List ℕ) → length d ≡ n → new ++ d ≡ s ++ whole d)
added (Ok x) s h new n whole is each =
    λ d e. ap (λ y. y ++ d) is ∙ append_assoc s h d ∙ ap (λ y. s ++ y) (each d e)
added (Err x) s h new n whole is each = tt

pub returns-then-len-lt128-clause-ok : goal.returns-then-len-lt128-clause-ok
returns-then-len-lt128-clause-ok c =
    let tag = c.args.tag in
    let n = c.args.len in
    let none = c.if-not-has_front.true in
    added c.extend_from_slice.result c.args.out.now.items (c.inner.result ∷ n ∷ []) c.extend_from_slice.new.self.items n
    (λ d. tlv tag (front c.args.has_front ++ d)) c.extend_from_slice.ensures.items
    (λ d e. ap₂ (λ x k. x ∷ k ∷ d) c.inner.ensures (sym e)
    ∙ sym (tlv-short tag d (omega (arith, e, c.if-len-lt128.true)))
    ∙ ap (λ f. tlv tag (front f ++ d)) (sym none))
