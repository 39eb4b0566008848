use Rattle.std.proofs.Common.{◌≡◌, ◌≤◌, ◌<◌, ◌++◌, ◌∷◌, ℕ, List, [], length, get_or, ap, refl, ◌∙◌, arith}
use Rattle.der_ber_types.specs.Contents.{IsTruth}
use Rattle.der_ber_types.proofs.contents.push_truth.Goals as goal
use Rattle.der_ber_types.proofs.contents.push_truth.Goals.{then-value-eq0, else-value-eq0}

one_byte : (s : List ℕ) → 1 ≤ length s → length s < 2 → s ≡ get_or s 0 0 ∷ []
one_byte [] least most = absurd (omega (arith, least))
one_byte (b ∷ []) least most = refl
one_byte (b ∷ c ∷ s) least most = absurd (omega (arith, most))

pub returns-clause-ok : goal.returns-clause-ok
returns-clause-ok c =
    let content = c.args.content.now in
    let value : content ≡ get_or content 0 0 ∷ [] = one_byte content c.in-len1.len_at_least c.in-len1.len_below in
    let items = c.in_ok-push.ensures.items in
    elim c.if-value-eq0.branch [
      | then-value-eq0 w ↦ record {
        in_der = 0x00 ∷ [];
        is = rw (value, ap (λ n. n ∷ []) w.if-value-eq0.true) IsTruth.false;
        appended = items ∙ ap (λ n. c.args.der.now.items ++ n ∷ []) w.push-is;
      }
      | else-value-eq0 w ↦ record {
        in_der = 0xFF ∷ [];
        is = rw value (IsTruth.true (get_or content 0 0) w.if-value-eq0.false);
        appended = items ∙ ap (λ n. c.args.der.now.items ++ n ∷ []) w.push-is;
      }
    ]
