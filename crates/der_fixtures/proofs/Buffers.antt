-- A buffer into whose first place a byte was written.
use Rattle.std.proofs.Common.{◌≡◌, ℕ, ◌<◌, List, [], ◌∷◌, length, slice_set, refl}
use Rattle.std.specs.Prelude.{take}

pub first_written : (bs : List ℕ) (b : ℕ) → 0 < length bs → take 1 (slice_set bs 0 b) ≡ b ∷ []
first_written [] b some = elim some [ ]
first_written (c ∷ bs) b some = refl
