-- Ranges of bytes that are cut in two.
use Rattle.std.proofs.Common.{◌≡◌, ℕ, ◌+◌, ◌-◌, ◌≤◌, List, [], ◌++◌, length, take, drop, sym, ap, ◌∙◌, arith}
use Rattle.std.proofs.Common.{length-append, length-drop, length-take-le}
use Rattle.std.specs.Prelude.{slice_range}
use Rattle.std.proofs.lemmas.Slice.{between_from_start}
use Rattle.std.proofs.lemmas.List.{drop-drop, drop-take}
use Rattle.std.proofs.Math.Seq.{take-length, take-add, take-append_seam, drop-append_seam}

-- how many bytes there are from an index up to another
pub length-range : (bytes : List ℕ) (at end : ℕ) → end ≤ length bytes → length (slice_range bytes at end) ≡ end - at
length-range bytes at end h = length-take-le (end - at) (drop at bytes) (omega (arith, length-drop at bytes))

module _ (bytes : List ℕ) (at end : ℕ) (within : end ≤ length bytes) (front rest : List ℕ)
    (is : slice_range bytes at end ≡ front ++ rest) where
  pub size : length front + length rest ≡ end - at
  size = sym (length-append front rest) ∙ sym (ap length is) ∙ length-range bytes at end within

  -- the front ends before the range does
  pub front_within : at ≤ end → at + length front ≤ end
  front_within h = omega (arith, size)

  -- what is after the front
  pub range_after : at ≤ end → slice_range bytes (at + length front) end ≡ rest
  range_after h =
      let m = end - (at + length front) in
      let parts : end - at ≡ length front + m = omega (arith, size) in
      let moved : drop (length front) (take (end - at) (drop at bytes)) ≡ take m (drop (at + length front) bytes) =
      ap (λ k. drop (length front) (take k (drop at bytes))) parts ∙ drop-take (length front) m (drop at bytes)
      ∙ ap (take m) (drop-drop (length front) at bytes) in
      sym moved ∙ ap (drop (length front)) is ∙ drop-append_seam front rest

  -- the front itself
  pub range_front : at ≤ end → slice_range bytes at (at + length front) ≡ front
  range_front h =
      let m = end - (at + length front) in
      let parts : end - at ≡ length front + m = omega (arith, size) in
      let own : at + length front - at ≡ length front = omega arith in
      let whole : take (length front) (drop at bytes) ++ take m (drop (length front) (drop at bytes)) ≡ front ++ rest =
      sym (take-add (length front) m (drop at bytes)) ∙ ap (λ k. take k (drop at bytes)) (sym parts) ∙ is in
      let len : length (take (length front) (drop at bytes)) ≡ length front =
      length-take-le (length front) (drop at bytes) (omega (arith, length-drop at bytes)) in
      ap (λ k. take k (drop at bytes)) own
      ∙ sym (take-append_seam (take (length front) (drop at bytes)) (take m (drop (length front) (drop at bytes))))
      ∙ ap (λ k. take k (take (length front) (drop at bytes) ++ take m (drop (length front) (drop at bytes)))) len
      ∙ ap (take (length front)) whole ∙ take-append_seam front rest

-- two ranges, one after the other
pub ranges_join : (bytes : List ℕ) (at mid end : ℕ) → at ≤ mid → mid ≤ end
    → slice_range bytes at end ≡ slice_range bytes at mid ++ slice_range bytes mid end
ranges_join bytes at mid end low high =
    let parts : end - at ≡ (mid - at) + (end - mid) = omega arith in
    let start : at + (mid - at) ≡ mid = omega arith in
    ap (λ k. take k (drop at bytes)) parts ∙ take-add (mid - at) (end - mid) (drop at bytes)
    ∙ ap (λ b. take (mid - at) (drop at bytes) ++ take (end - mid) b) (drop-drop (mid - at) at bytes
    ∙ ap (λ k. drop k bytes) start)

-- no bytes
pub range_empty : (bytes : List ℕ) (at : ℕ) → slice_range bytes at at ≡ []
range_empty bytes at = let none : at - at ≡ 0 = omega arith in ap (λ k. take k (drop at bytes)) none

-- all bytes
pub range_whole : (bytes : List ℕ) → slice_range bytes 0 (length bytes) ≡ bytes
range_whole bytes = between_from_start bytes (length bytes) ∙ take-length bytes
