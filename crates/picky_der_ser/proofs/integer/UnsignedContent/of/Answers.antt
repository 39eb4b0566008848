use Rattle.std.proofs.Common.{◌+◌, ◌/◌, ◌∷◌, drop, ap, ◌∙◌, append-nil, arith}
use Rattle.std.specs.Int.{leading_zeros, w128}
use Rattle.picky_der_core.specs.UnsignedLaws.{unsigned_content-be_bytes}
use Rattle.picky_der_ser.proofs.integer.UnsignedContent.of.Goals as goal

pub returns : goal.returns
returns c =
    let n = c.args.number in
    ap (λ b. drop ((leading_zeros w128 n + 7) / 8) (0 ∷ b)) (append-nil _ ∙ c.copy_from_slice.ensures.after
    ∙ c.to_be_bytes.ensures) ∙ unsigned_content-be_bytes n (omega arith)
