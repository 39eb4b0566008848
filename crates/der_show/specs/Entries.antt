-- What is listed of bytes, from an offset on.
use Rattle.std.specs.Prelude.{◌≡◌, ℕ, ◌+◌, ◌<◌, ◌≤◌, min, Bool, true, false, List, [], ◌∷◌, ◌++◌, length, slice_range}
use Rattle.der_show.specs.declared.header.Header.{Header}
use Rattle.der_show.specs.declared.entry.Entry.{Entry}
use Rattle.der_show.specs.declared.entry.Entry.TheVariants as entry
use Rattle.der_show.specs.declared.options.ShowOptions.{ShowOptions}
use Rattle.der_show.specs.declared.rule.Rule.{Rule}
use Rattle.der_show.specs.Headers.{HasHeader, BreaksHeader}
use Rattle.der_show.specs.Ends.{innermost, next_offset, next_ends}
use Rattle.der_show.specs.Outlines.{Breaks, IsFound, listed_at}
use Rattle.der_show.specs.Openings.{Opens}

-- the bytes from an offset up to the innermost end
abbrev pub ahead : List ℕ → List ℕ → ℕ → List ℕ
ahead bytes ends at = slice_range bytes at (innermost (length bytes) ends)

-- the content of the element at the front, whose header this is
abbrev pub content_of : List ℕ → Header → List ℕ
content_of front h = slice_range front h.header_len (h.header_len + h.content_len)

abbrev pub element_at : ℕ → ℕ → Header → Entry
element_at depth at h = entry.Element (listed_at depth at h)

abbrev pub complaint_at : ℕ → Rule → Entry
complaint_at at r = entry.Complaint (record { offset = at; rule = r })

-- The elements and the broken rules before an offset, and the ends of the elements that it is in.
pub data IsReached (o : ShowOptions) (bytes : List ℕ) : List ℕ → ℕ → List Entry → Type 0 where
  start : IsReached o bytes [] (min o.start (length bytes)) []
  -- at the end of the innermost
  ended : (ends : List ℕ) (at : ℕ) (es : List Entry) → IsReached o bytes (at ∷ ends) at es
      → IsReached o bytes ends at es
  -- after one more that is primitive, or in one more that is constructed
  passed : (ends : List ℕ) (at : ℕ) (es : List Entry) (h : Header) → IsReached o bytes ends at es
      → IsFound (ahead bytes ends at) h
      → ((skipped : ℕ) → Opens o (length ends) h.tag (content_of (ahead bytes ends at) h) skipped → ⊥)
      → IsReached o bytes (next_ends h at ends) (next_offset h at) (es ++ (element_at (length ends) at h ∷ []))
  -- in one more that is a string with DER in it
  opened : (ends : List ℕ) (at : ℕ) (es : List Entry) (h : Header) (skipped : ℕ) → IsReached o bytes ends at es
      → IsFound (ahead bytes ends at) h
      → Opens o (length ends) h.tag (content_of (ahead bytes ends at) h) skipped
      → IsReached o bytes ((at + h.header_len + h.content_len) ∷ ends) (at + h.header_len + skipped)
      (es ++ (element_at (length ends) at h ∷ []))
  -- the same where one breaks a rule and has a header
  broken : (ends : List ℕ) (at : ℕ) (es : List Entry) (r : Rule) (h : Header) → o.keeps_going ≡ true
      → IsReached o bytes ends at es → Breaks (ahead bytes ends at) r
      → HasHeader (ahead bytes ends at) h
      → IsReached o bytes (next_ends h at ends) (next_offset h at)
      (es ++ (complaint_at at r ∷ element_at (length ends) at h ∷ []))
  -- without a header the rest of the element around it isn't looked at
  skipped : (ends : List ℕ) (at : ℕ) (es : List Entry) (r : Rule) → o.keeps_going ≡ true → IsReached o bytes ends at es
      → at < innermost (length bytes) ends → BreaksHeader (ahead bytes ends at) r
      → IsReached o bytes ends (innermost (length bytes) ends) (es ++ (complaint_at at r ∷ []))

-- a beginning of what is listed
pub data IsSoFar (o : ShowOptions) (bytes : List ℕ) : List Entry → Type 0 where
  reached : (ends : List ℕ) (at : ℕ) (es : List Entry) → IsReached o bytes ends at es → IsSoFar o bytes es
  -- and the rule that the next breaks
  complained : (ends : List ℕ) (at : ℕ) (es : List Entry) (r : Rule) → IsReached o bytes ends at es
      → at < innermost (length bytes) ends → Breaks (ahead bytes ends at) r
      → IsSoFar o bytes (es ++ (complaint_at at r ∷ []))

-- all that is listed
pub data IsListing (o : ShowOptions) (bytes : List ℕ) : List Entry → Type 0 where
  whole : (at : ℕ) (es : List Entry) → IsReached o bytes [] at es → length bytes ≤ at → IsListing o bytes es
  stopped : (ends : List ℕ) (at : ℕ) (es : List Entry) (r : Rule) → o.keeps_going ≡ false → IsReached o bytes ends at es
      → at < innermost (length bytes) ends
      → Breaks (ahead bytes ends at) r → IsListing o bytes (es ++ (complaint_at at r ∷ []))

abbrev pub is_element : Entry → Bool
is_element (entry.Element e) = true
is_element (entry.Complaint c) = false
