-- Why bytes were refused.
use Rattle.std.specs.Prelude.{◌≡◌, ℕ, ◌+◌, ◌-◌, ◌/◌, Bool, false, ◌&&◌, not, ◌==◌, Option, Some, None, List, length}
use Rattle.std.specs.Prelude.{nat_lt, nat_le, slice_get, find, reverse, take, drop, if◌then◌else◌}
use Rattle.picky_der_core.specs.Order.{is_less}
use Rattle.picky_der_de.specs.declared.whole_input.DecodeError.{DecodeError}
use Rattle.der_show.specs.declared.element.Element.{Element}
use Rattle.der_show.specs.declared.outline.Complaint.{Complaint}
use Rattle.der_show.specs.declared.reason.Reason.{Reason}
use Rattle.der_show.specs.declared.reason.Cause.TheVariants as cause
use Rattle.der_show.specs.Outlines.{IsListed, IsRefused}

-- the last element that begins before a position
abbrev pub last_before : List Element → ℕ → Option Element
last_before elements position = find (λ e. nat_lt e.offset position) (reverse elements)

-- the last element before this one that isn't inside the one before it: the member before it, or the element around
-- both
abbrev pub previous_of : List Element → Element → Option Element
previous_of elements found = find (λ e. nat_lt e.offset found.offset && nat_le e.depth found.depth) (reverse elements)

-- the element around it
abbrev pub parent_of : List Element → Element → Option Element
parent_of elements found = find (λ e. nat_lt e.offset found.offset && nat_lt e.depth found.depth) (reverse elements)

abbrev pub encoding_of : List ℕ → Element → List ℕ
encoding_of bytes e = take (e.header_len + e.content_len) (drop e.offset bytes)

-- it is a member, and less than the one before it
abbrev pub is_below : List ℕ → Element → Option Element → Bool
is_below bytes found None = false
is_below bytes found (Some previous) =
    (previous.depth == found.depth) && is_less (encoding_of bytes found) (encoding_of bytes previous)

-- the tag isn't a universal one, so the type may be a SET OF
abbrev pub may_be_set : Option Element → Bool
may_be_set None = false
may_be_set (Some parent) = not (parent.tag / 64 == 0)

abbrev pub is_misplaced : List ℕ → List Element → Element → Bool
is_misplaced bytes elements found =
    may_be_set (parent_of elements found) && is_below bytes found (previous_of elements found)

-- the element ends at this position
abbrev pub ends_at : List ℕ → Element → ℕ → Bool
ends_at bytes e position = nat_le e.offset position && (position - e.offset == length (encoding_of bytes e))

-- the outermost element that ends there and is out of order, if it is a member of a SET OF
abbrev pub misplaced_before : List ℕ → List Element → ℕ → Option Element
misplaced_before bytes elements position =
    find (λ e. ends_at bytes e position && is_misplaced bytes elements e) elements

-- the first element is before the position, and bytes follow
abbrev pub has_more : List ℕ → Option Element → ℕ → Bool
has_more bytes None position = false
has_more bytes (Some first) position =
    nat_le (length (encoding_of bytes first)) position && nat_lt position (length bytes)

-- of the last element before the position, or 0
abbrev pub offset_before : List Element → ℕ → ℕ
offset_before elements position = elim (last_before elements position) [ Some found ↦ found.offset | None ↦ 0 ]

-- the reason where this member is out of order
abbrev pub refused_by : List Element → DecodeError → Option Element → Reason
refused_by elements refusal None = record {
  offset = offset_before elements refusal.position;
  cause =
      cause.Refused refusal.error;
}
refused_by elements refusal (Some found) = record { offset = found.offset; cause = cause.RefusedOrder refusal.error }

abbrev pub refused_at : List ℕ → List Element → DecodeError → Reason
refused_at bytes elements refusal =
    if has_more bytes (slice_get elements 0) refusal.position then record {
      offset = refusal.position;
      cause =
          cause.BytesAfter;
    }
    else refused_by elements refusal (misplaced_before bytes elements refusal.position)

-- the first rule that the bytes break, or where reading them stopped and with which error
pub data IsReason (bytes : List ℕ) (refusal : DecodeError) (r : Reason) : Type 0 where
  not_der : (elements : List Element) (c : Complaint) → IsRefused bytes elements c
      → r ≡ record { offset = c.offset; cause = cause.NotDer c.rule } → IsReason bytes refusal r
  refused : (elements : List Element) → IsListed bytes elements → r ≡ refused_at bytes elements refusal
      → IsReason bytes refusal r
