-- A walk from element to element, of which the caller keeps the place and the ends.
use Rattle.std.specs.Prelude.{◌≡◌, ℕ, ◌+◌, ◌<◌, ◌≤◌, true, List, [], ◌∷◌, ◌++◌, length, take, reverse, slice_range}
use Rattle.picky_der_core.specs.Tag.{is_constructed}
use Rattle.der_show.specs.declared.element.Element.{Element}
use Rattle.der_show.specs.declared.header.Header.{Header}
use Rattle.der_show.specs.declared.rule.Rule.{Rule}
use Rattle.der_show.specs.declared.walk.Place.{Place}
use Rattle.der_show.specs.declared.walk.Next.{Next}
use Rattle.der_show.specs.declared.walk.Next.TheVariants as next
use Rattle.der_show.specs.Ends.{innermost, next_offset, next_ends}
use Rattle.der_show.specs.Entries.{ahead}
use Rattle.der_show.specs.Outlines.{Breaks, IsFound, IsListed, IsRefused, listed_at}

-- the ends of the elements around a place, the innermost first
abbrev pub open_ends : Place → List ℕ → List ℕ
open_ends p ends = reverse (take p.depth ends)

-- the place is in the innermost of these elements, which is in the bytes
pub record IsInside (len : ℕ) (p : Place) (ends : List ℕ) : Type 0 where
  pub depth : p.depth ≤ length ends
  pub low : p.offset < innermost len (open_ends p ends)
  pub high : innermost len (open_ends p ends) ≤ len

-- the place is after all elements
pub record IsAtEnd (len : ℕ) (p : Place) : Type 0 where
  pub depth : p.depth ≡ 0
  pub offset : p.offset ≡ len

-- A walk from the first byte on has come to an offset in elements with these ends, and these are the elements that it
-- went over.
pub data IsWalked (bytes : List ℕ) : List ℕ → ℕ → List Element → Type 0 where
  start : IsWalked bytes [] 0 []
  step : (ends : List ℕ) (at : ℕ) (es : List Element) (h : Header) → IsWalked bytes ends at es → at < length bytes
      → IsFound (ahead bytes ends at) h
      → IsWalked bytes (next_ends h at ends) (next_offset h at) (es ++ (listed_at (length ends) at h ∷ []))

-- ---- what is next

-- the bytes from a place up to the end of the element around it
abbrev pub ahead_of : List ℕ → Place → List ℕ → List ℕ
ahead_of bytes p ends = ahead bytes (open_ends p ends) p.offset

-- the place and the ends are as they were
pub record AreKept (old : Place) (olds : List ℕ) (new : Place) (news : List ℕ) : Type 0 where
  pub place : new ≡ old
  pub ends : news ≡ olds

-- the element with this header is at the old place, and the new place is that of the next one
pub record GoesOver (bytes : List ℕ) (old : Place) (olds : List ℕ) (new : Place) (news : List ℕ) (h : Header) : Type 0
  where
    pub inside : IsInside (length bytes) old olds
    pub found : IsFound (ahead_of bytes old olds) h
    pub offset : new.offset ≡ next_offset h old.offset
    pub ends : open_ends new news ≡ next_ends h old.offset (open_ends old olds)
    pub size : length news ≡ length olds

pub data IsNext (bytes : List ℕ) (old : Place) (olds : List ℕ) (new : Place) (news : List ℕ) (n : Next) : Type 0 where
  element : (h : Header) → GoesOver bytes old olds new news h → n ≡ next.Element (listed_at old.depth old.offset h)
      → IsNext bytes old olds new news n
  broken : (r : Rule) → IsInside (length bytes) old olds → Breaks (ahead_of bytes old olds) r
      → AreKept old olds new news → n ≡ next.Broken r → IsNext bytes old olds new news n
  end : IsAtEnd (length bytes) old → AreKept old olds new news → n ≡ next.End → IsNext bytes old olds new news n
  -- an element with elements in it is at the place, and all ends are taken
  no_room : (h : Header) → IsFound (ahead_of bytes old olds) h → is_constructed h.tag ≡ true → old.depth ≡ length olds
      → AreKept old olds new news → n ≡ next.NoRoom
      → IsNext bytes old olds new news n
  no_place : (IsAtEnd (length bytes) old → ⊥) → (IsInside (length bytes) old olds → ⊥) → AreKept old olds new news
      → n ≡ next.NoPlace → IsNext bytes old olds new news n

-- What is next in a walk from the first byte on, which went over these elements: one more of them; the first rule that
-- the bytes break; or nothing, and these are all. Without room or a place there were too few ends.
abbrev pub ComesNext : List ℕ → Place → List ℕ → Place → List ℕ → List Element → Next → Type 0
ComesNext bytes old olds new news es (next.Element e) = IsWalked bytes (open_ends new news) new.offset (es ++ (e ∷ []))
ComesNext bytes old olds new news es (next.Broken r) = IsRefused bytes es (record { offset = old.offset; rule = r })
ComesNext bytes old olds new news es next.End = IsListed bytes es
ComesNext bytes old olds new news es next.NoRoom = old.depth ≡ length olds
ComesNext bytes old olds new news es next.NoPlace = length olds < old.depth
