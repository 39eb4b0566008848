use Rattle.std.proofs.Common.{◌≡◌, ◌≤◌, ◌+◌, ◌*◌, ◌-◌, ℕ, List, [], ◌∷◌, length, take, drop, slice_index_or, ap, sym}
use Rattle.std.proofs.Common.{◌∙◌, arith}
use Rattle.std.proofs.Math.Seq.{take-length}
use Rattle.der_types.specs.CharacterStrings.{pairs, quadruples}
use Rattle.der_types.proofs.characters.split_character.Goals as goal

pairs-first : (bs : List ℕ) → 2 ≤ length bs
    → pairs bs ≡ (slice_index_or bs 0 0 * 256 + slice_index_or bs 1 0) ∷ pairs (take (length bs - 2) (drop 2 bs))
pairs-first (x ∷ y ∷ bs) h =
    let left : length bs ≡ length (x ∷ y ∷ bs) - 2 = omega arith in
    ap (λ (rest : List ℕ). (x * 256 + y) ∷ pairs rest) (sym (take-length bs) ∙ ap (λ (n : ℕ). take n bs) left)
pairs-first (x ∷ []) h = absurd (omega arith)
pairs-first [] h = absurd (omega arith)

quadruples-first : (bs : List ℕ) → 4 ≤ length bs
    → quadruples bs ≡ (slice_index_or bs 0 0 * 16777216 + slice_index_or bs 1 0 * 65536 + slice_index_or bs 2
    0 * 256 + slice_index_or bs 3 0) ∷ quadruples (take (length bs - 4) (drop 4 bs))
quadruples-first (x ∷ y ∷ z ∷ w ∷ bs) h =
    let left : length bs ≡ length (x ∷ y ∷ z ∷ w ∷ bs) - 4 = omega arith in
    ap (λ (rest : List ℕ). (x * 16777216 + y * 65536 + z * 256 + w) ∷ quadruples rest) (sym (take-length bs)
    ∙ ap (λ (n : ℕ). take n bs) left)
quadruples-first (x ∷ y ∷ z ∷ []) h = absurd (omega arith)
quadruples-first (x ∷ y ∷ []) h = absurd (omega arith)
quadruples-first (x ∷ []) h = absurd (omega arith)
quadruples-first [] h = absurd (omega arith)

pub returns-in-len2-up-clause-first : goal.returns-in-len2-up-clause-first
returns-in-len2-up-clause-first c =
    rw (c.in-Two.is, c.from-in-len2-up.ensures, c.from-in-len2-up-2.ensures)
    (pairs-first c.args.bytes.now c.in-len2-up.len_at_least)

pub returns-in-len4-up-clause-first : goal.returns-in-len4-up-clause-first
returns-in-len4-up-clause-first c =
    rw (c.in-Four.is, c.from_be_bytes.ensures) (quadruples-first c.args.bytes.now c.in-len4-up.len_at_least)
