-- Where the steps of a listing come to.
use Rattle.std.proofs.Common.{◌≡◌, ℕ, ◌+◌, ◌^◌, ◌<◌, ◌≤◌, Bool, true, false, if◌then◌else◌, Some, None, List, [], ◌∷◌}
use Rattle.std.proofs.Common.{length, refl, arith}
use Rattle.picky_der_core.specs.Tag.{is_constructed}
use Rattle.der_show.specs.declared.header.Header.{Header}
use Rattle.der_show.specs.declared.options.ShowOptions.{ShowOptions}
use Rattle.der_show.specs.declared.step.Step.{Step}
use Rattle.der_show.specs.declared.step.Step.TheVariants as step
use Rattle.der_show.specs.Headers.{HasHeader}
use Rattle.der_show.specs.Ends.{innermost, without_reached, next_offset, next_ends}
use Rattle.der_show.specs.Entries.{ahead}
use Rattle.der_show.specs.Steps.{IsStep, CanMove, offset_after, ends_after}
use Rattle.der_show.proofs.Ranges.{length-range}
use Rattle.der_show.proofs.HeaderLemmas.{found}
use Rattle.der_show.proofs.Fronts.{has_header}
use Rattle.der_show.proofs.OpeningLemmas.{held_within}
use Rattle.der_show.proofs.Walking.{AreEnds, IsOpen, ends_within, ends_from, closes}

-- the offset is within each of the elements around it
pub record IsPlace (bytes ends : List ℕ) (at : ℕ) : Type 0 where
  pub are_ends : AreEnds (length bytes) at ends
  pub open_end : IsOpen at ends

pub place_at_first : (bytes : List ℕ) (at : ℕ) → at ≤ length bytes → IsPlace bytes [] at
place_at_first bytes at h = record { are_ends = h; open_end = tt }

pub place_open : (bytes ends : List ℕ) (at : ℕ) → IsPlace bytes ends at → at < length bytes
    → (at < innermost (length bytes) ends) × (innermost (length bytes) ends ≤ length bytes)
place_open bytes [] at s more = (more, omega arith)
place_open bytes (end ∷ ends) at s more = (s.open_end, (ends_within (length bytes) at (end ∷ ends) s.are_ends).1)

-- no byte is left where the last is reached
pub place_last : (bytes ends : List ℕ) (at : ℕ) → IsPlace bytes ends at → length bytes ≤ at → ends ≡ []
place_last bytes [] at s done = refl
place_last bytes (end ∷ ends) at s done =
    let (low, high) = ends_within (length bytes) end ends s.are_ends.1 in
    let inside : at < end = s.open_end in
    absurd (omega arith)

module _ (bytes ends : List ℕ) (at : ℕ) (s : IsPlace bytes ends at) (more : at < length bytes) where
  abbrev end : ℕ
  end = innermost (length bytes) ends

  module _ (h : Header) (has : HasHeader (ahead bytes ends at) h) where
    -- the element ends in the one around it
    pub fits : at + h.header_len + h.content_len ≤ end
    fits = let (low, high) = place_open bytes ends at s more in
        omega (arith, (found (ahead bytes ends at) h has).1, length-range bytes at end high)

    pub has_size : 1 ≤ h.header_len
    has_size = omega (arith, has.header_len)

    -- after it, or in it
    after_by_form : (b : Bool)
        → IsPlace bytes (if b then without_reached (at + h.header_len) ((at + h.header_len + h.content_len) ∷ ends) else
        without_reached (at + h.header_len + h.content_len) ends)
        (if b then at + h.header_len else at + h.header_len + h.content_len)
        × (at < (if b then at + h.header_len else at + h.header_len + h.content_len))
    after_by_form true = let (kept, past) =
        closes (length bytes) (at + h.header_len) ((at + h.header_len + h.content_len) ∷ ends) (
          omega arith,
          ends_from (length bytes) at (at + h.header_len + h.content_len) ends s.are_ends fits,
        ) in
        (record { are_ends = kept; open_end = past }, omega (arith, has_size))
    after_by_form false = let (kept, past) =
        closes (length bytes) (at + h.header_len + h.content_len) ends
        (ends_from (length bytes) at (at + h.header_len + h.content_len) ends s.are_ends fits) in
        (record { are_ends = kept; open_end = past }, omega (arith, has_size))

    after : IsPlace bytes (next_ends h at ends) (next_offset h at) × (at < next_offset h at)
    after = after_by_form (is_constructed h.tag)

    -- in a string
    inside : (skipped : ℕ) → skipped ≤ h.content_len
        → IsPlace bytes (without_reached (at + h.header_len + skipped) ((at + h.header_len + h.content_len) ∷ ends))
        (at + h.header_len + skipped) × (at < at + h.header_len + skipped)
    inside skipped low = let (kept, past) =
        closes (length bytes) (at + h.header_len + skipped) ((at + h.header_len + h.content_len) ∷ ends) (
          omega arith,
          ends_from (length bytes) at (at + h.header_len + h.content_len) ends s.are_ends fits,
        ) in
        (record { are_ends = kept; open_end = past }, omega (arith, has_size))

    within : at + h.header_len + h.content_len ≤ length bytes
    within = let (low, high) = place_open bytes ends at s more in omega (arith, fits)

  -- after the element around it
  after_around : IsPlace bytes (without_reached end ends) end × (at < end)
  after_around =
      let (low, high) = place_open bytes ends at s more in
      let (kept, past) =
      closes (length bytes) end ends (ends_from (length bytes) at end ends s.are_ends (omega arith)) in
      (record { are_ends = kept; open_end = past }, low)

  module _ (o : ShowOptions) where
    pub step_place : (t : Step) → IsStep o (length ends) (ahead bytes ends at) t
        → IsPlace bytes (ends_after end at ends t) (offset_after end at t) × (at < offset_after end at t)
    step_place (step.Element h None) is = after h (has_header _ h is.0)
    step_place (step.Element h (Some skipped)) is =
        inside h (has_header _ h is.0) skipped (held_within (ahead bytes ends at) h skipped o (length ends) is.0 is.1)
    step_place (step.Broken r h) is = after h is.2
    step_place (step.Skipped r) is = after_around
    step_place (step.Stopped r) is = after_around

    pub step_moves : length bytes < 2 ^ 64 → (t : Step) → IsStep o (length ends) (ahead bytes ends at) t → CanMove at t
    step_moves small (step.Element h None) is = omega (arith, within h (has_header _ h is.0))
    step_moves small (step.Element h (Some skipped)) is = (
      omega (arith, within h (has_header _ h is.0)),
      held_within (ahead bytes ends at) h skipped o (length ends) is.0
          is.1,
    )
    step_moves small (step.Broken r h) is = omega (arith, within h is.2)
    step_moves small (step.Skipped r) is = tt
    step_moves small (step.Stopped r) is = tt
