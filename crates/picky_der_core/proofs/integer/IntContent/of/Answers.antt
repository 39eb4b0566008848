use Rattle.std.proofs.Common.{◌+◌, ◌/◌, ◌∷◌, drop, ap, ◌∙◌, append-nil, arith}
use Rattle.std.specs.Int.{leading_zeros, w128}
use Rattle.picky_der_core.specs.UnsignedLaws.{unsigned_content-be_bytes}
use Rattle.picky_der_core.proofs.DigitLaws.{content_positive, content_negative}
use Rattle.picky_der_core.proofs.integer.IntContent.of.Goals as goal
use Rattle.picky_der_core.proofs.integer.IntContent.of.Goals.{then-number, else-number}

pub returns : goal.returns
returns c =
    let n = c.args.number.bits in
    let start = (leading_zeros w128 n + 7) / 8 in
    let bits = ap (λ b. drop start (0 ∷ b)) (append-nil _ ∙ c.copy_from_slice.ensures.after ∙ c.to_be_bytes.ensures)
    ∙ unsigned_content-be_bytes n (omega arith) in
    elim c.if-number.branch [
      | then-number w ↦ content_negative n start _ _ _ w.if-number.true bits (w.bytes-is ∙ w.turn.ensures)
      | else-number w ↦ content_positive n start _ _ w.if-number.false (ap (drop start) w.bytes-is ∙ bits)
    ]
