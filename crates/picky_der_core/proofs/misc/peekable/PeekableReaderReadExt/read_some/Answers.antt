use Rattle.std.proofs.Common.{◌≡◌, ℕ, ◌<◌, List, [], ◌∷◌, length, take, slice_set, refl, arith}
use Rattle.std.proofs.lemmas.Grind.{common_steps}
use Rattle.picky_der_core.proofs.misc.peekable.PeekableReaderReadExt.read_some.Goals as goal

-- the first byte of a buffer that it was put into
first_of : (bs : List ℕ) (b : ℕ) → 0 < length bs → take 1 (slice_set bs 0 b) ≡ b ∷ []
first_of [] b h = absurd (omega (arith, h))
first_of (x ∷ xs) b h = refl

pub returns-in-Some-clause-bytes : goal.returns-in-Some-clause-bytes
returns-in-Some-clause-bytes g c =
    let some : 0 < length c.args.buf.now = grind (arith, common_steps) in (
      rw (first_of c.args.buf.now c.in-Some.peeked some) c.in-Some.ensures.input,
      λ none. absurd (omega (arith, none)),
    )
