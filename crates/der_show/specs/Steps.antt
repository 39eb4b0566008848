-- One step of a listing.
use Rattle.std.specs.Prelude.{◌≡◌, ℕ, ◌+◌, ◌^◌, ◌<◌, ◌≤◌, Bool, true, false, List, [], ◌∷◌, Option, Some, None, ⊤}
use Rattle.der_show.specs.declared.entry.Entry.{Entry}
use Rattle.der_show.specs.declared.options.ShowOptions.{ShowOptions}
use Rattle.der_show.specs.declared.step.Step.{Step}
use Rattle.der_show.specs.declared.step.Step.TheVariants as step
use Rattle.der_show.specs.Headers.{HasHeader, BreaksHeader}
use Rattle.der_show.specs.Ends.{without_reached, next_offset, next_ends}
use Rattle.der_show.specs.Outlines.{Breaks, IsFound}
use Rattle.der_show.specs.Openings.{Opens}
use Rattle.der_show.specs.Entries.{content_of, element_at, complaint_at}

-- a string is opened, after so many bytes of its content
abbrev pub IsOpening : ShowOptions → ℕ → ℕ → List ℕ → Option ℕ → Type 0
IsOpening o depth tag content None = (skipped : ℕ) → Opens o depth tag content skipped → ⊥
IsOpening o depth tag content (Some skipped) = Opens o depth tag content skipped

-- what is next where these bytes are ahead
abbrev pub IsStep : ShowOptions → ℕ → List ℕ → Step → Type 0
IsStep o depth front (step.Element h opening) = IsFound front h × IsOpening o depth h.tag (content_of front h) opening
IsStep o depth front (step.Broken r h) = (o.keeps_going ≡ true) × Breaks front r × HasHeader front h
IsStep o depth front (step.Skipped r) = (o.keeps_going ≡ true) × BreaksHeader front r
IsStep o depth front (step.Stopped r) = (o.keeps_going ≡ false) × Breaks front r

-- a place where the listing goes on is within the bytes
abbrev pub CanMove : ℕ → Step → Type 0
CanMove at (step.Element h None) = at + h.header_len + h.content_len < 2 ^ 64
CanMove at (step.Element h (Some skipped)) = (at + h.header_len + h.content_len < 2 ^ 64) × (skipped ≤ h.content_len)
CanMove at (step.Broken r h) = at + h.header_len + h.content_len < 2 ^ 64
CanMove at (step.Skipped r) = ⊤
CanMove at (step.Stopped r) = ⊤

-- what is listed
abbrev pub step_entries : ℕ → ℕ → Step → List Entry
step_entries depth at (step.Element h opening) = element_at depth at h ∷ []
step_entries depth at (step.Broken r h) = complaint_at at r ∷ element_at depth at h ∷ []
step_entries depth at (step.Skipped r) = complaint_at at r ∷ []
step_entries depth at (step.Stopped r) = complaint_at at r ∷ []

-- the next offset, where the element around it ends at `end`
abbrev pub offset_after : ℕ → ℕ → Step → ℕ
offset_after end at (step.Element h None) = next_offset h at
offset_after end at (step.Element h (Some skipped)) = at + h.header_len + skipped
offset_after end at (step.Broken r h) = next_offset h at
offset_after end at (step.Skipped r) = end
offset_after end at (step.Stopped r) = end

-- the ends of the elements around it
abbrev pub ends_after : ℕ → ℕ → List ℕ → Step → List ℕ
ends_after end at ends (step.Element h None) = next_ends h at ends
ends_after end at ends (step.Element h (Some skipped)) =
    without_reached (at + h.header_len + skipped) ((at + h.header_len + h.content_len) ∷ ends)
ends_after end at ends (step.Broken r h) = next_ends h at ends
ends_after end at ends (step.Skipped r) = without_reached end ends
ends_after end at ends (step.Stopped r) = without_reached end ends

-- an element alone is no broken rule
abbrev pub is_element : Step → Bool
is_element (step.Element h opening) = true
is_element (step.Broken r h) = false
is_element (step.Skipped r) = false
is_element (step.Stopped r) = false

-- the listing goes on after it
abbrev pub continues : Step → Bool
continues (step.Element h opening) = true
continues (step.Broken r h) = true
continues (step.Skipped r) = true
continues (step.Stopped r) = false
