-- Bytes that are moved, so that a room before them has another width.
use Rattle.std.proofs.Common.{◌≡◌, ℕ, ◌+◌, ◌-◌, ◌≤◌, List, ◌++◌, length, take, drop, sym, ◌∙◌, ap, ap₂, arith}
use Rattle.std.proofs.Common.{length-append, length-take-le}
use Rattle.std.proofs.Math.Seq.{take-append_seam, drop-append_seam}
use Rattle.std.proofs.lemmas.List.{drop-append-le, take-append-le, take-take, length-drop}
use lib.Seq.{paste, take-paste}

module _ (s t u pad : List ℕ) (at start first : ℕ) (before : at ≤ first) (room : at ≤ start) (fits : start ≤ length s)
    (more : t ≡ s ++ pad) (within : first + (length s - start) ≤ length t)
    (is : u ≡ take (first + (length s - start)) (paste t first (drop start t) (length s - start))) where
  whole : u ≡ take first t ++ drop start s
  whole =
      let n = length s - start in
      let d = drop start s in
      let size : length d ≡ n = length-drop start s in
      let back : drop start t ≡ d ++ pad = ap (drop start) more ∙ drop-append-le start s pad fits in
      let enough : n ≤ length (drop start t) = omega (arith, ap length back, length-append d pad, size) in
      let front : take n (drop start t) ≡ d = ap (take n) back ∙ ap (λ k. take k (d ++ pad)) (sym size)
      ∙ take-append_seam d pad in
      let wide : first ≤ length t = omega (arith, within) in
      is ∙ take-paste t first (drop start t) n wide enough ∙ ap (λ x. take first t ++ x) front

  wide_front : length (take first t) ≡ first
  wide_front = length-take-le first t (omega (arith, within))

  -- what is before the room stays
  pub moved-front : take at u ≡ take at s
  moved-front =
      ap (take at) whole ∙ take-append-le at (take first t) (drop start s) (omega (arith, wide_front, before))
      ∙ take-take at first t before ∙ ap (take at) more ∙ take-append-le at s pad (omega (arith, room, fits))

  -- what is after it too
  pub moved-back : drop first u ≡ drop start s
  moved-back =
      ap (drop first) whole ∙ ap (λ k. drop k (take first t ++ drop start s)) (sym wide_front)
      ∙ drop-append_seam (take first t) (drop start s)

-- a header in its room
pub filled : (s o w hs bs : List ℕ) (at start : ℕ) → take at o ≡ take at s → drop (at + length hs) o ≡ drop start s
    → w ≡ take at o ++ (hs ++ drop (at + length hs) o) → hs ++ drop start s ≡ bs → w ≡ take at s ++ bs
filled s o w hs bs at start front back is whole =
    is ∙ ap₂ (λ x y. x ++ (hs ++ y)) front back ∙ ap (λ x. take at s ++ x) whole
