-- What callers are given of the elements of bytes.
use Rattle.std.specs.Prelude.{◌≡◌, ℕ, ◌/◌, List, ◌++◌, length, map, take, drop, min, None, Some}
use Rattle.picky_der_core.specs.Tag.{number_of, is_constructed}
use Rattle.der_show.specs.declared.element.Element.{Element}
use Rattle.der_show.specs.declared.header.Header.{Header}
use Rattle.der_show.specs.declared.outline.Complaint.{Complaint}
use Rattle.der_show.specs.declared.outline.Outline.{Outline}
use Rattle.der_show.specs.declared.rule.Rule.{Rule}
use Rattle.der_show.specs.declared.walk.Next.{Next}
use Rattle.der_show.specs.declared.walk.Next.TheVariants as next
use Rattle.der_show.specs.declared.walk.Place.{Place}
use Rattle.der_show.specs.Outlines.{Breaks, IsFound, IsOutline, listed_at}
use Rattle.der_show.specs.Walks.{open_ends, IsWalked, IsNext, ComesNext}
use Rattle.der_c.specs.declared.element.PickyDerElement.{PickyDerElement}
use Rattle.der_c.specs.declared.next.PickyDerPlace.{PickyDerPlace}
use Rattle.der_c.specs.Codes.{ok, memory_failed, no_room, at_end, no_place, rule_code}

abbrev pub element_in_c : Element → PickyDerElement
element_in_c e = record {
  offset = e.offset;
  header_len = e.header_len;
  content_len = e.content_len;
  depth = e.depth;
  tag = e.tag;
  tag_class = e.tag / 64;
  tag_number = number_of e.tag;
  is_constructed = is_constructed e.tag;
}

-- ---- at the front

pub data IsFrontInC (bytes : List ℕ) (old new : PickyDerElement) (code : ℕ) : Type 0 where
  element : (h : Header) → IsFound bytes h → new ≡ element_in_c (listed_at 0 0 h) → code ≡ ok
      → IsFrontInC bytes old new code
  broken : (r : Rule) → Breaks bytes r → new ≡ old → code ≡ rule_code r → IsFrontInC bytes old new code

-- ---- all

-- an array after as many were written to its front as it has places for
abbrev pub filled : List PickyDerElement → List PickyDerElement → List PickyDerElement
filled room all = take (min (length room) (length all)) all ++ drop (min (length room) (length all)) room

-- the elements of an outline were counted and written
pub record AreWritten (old new : List PickyDerElement) (count : ℕ) (o : Outline) : Type 0 where
  pub written : new ≡ filled old (map element_in_c o.elements.items)
  pub counted : count ≡ length o.elements.items

pub data AreElementsInC (bytes : List ℕ) (old new : List PickyDerElement) (count position code : ℕ) : Type 0 where
  all : (o : Outline) → IsOutline bytes o → o.complaint ≡ None → AreWritten old new count o → position ≡ length bytes
      → code ≡ ok → AreElementsInC bytes old new count position code
  broken : (o : Outline) (c : Complaint) → IsOutline bytes o → o.complaint ≡ Some c → AreWritten old new count o
      → position ≡ c.offset → code ≡ rule_code c.rule
      → AreElementsInC bytes old new count position code
  no_memory : new ≡ old → count ≡ 0 → position ≡ 0 → code ≡ memory_failed
      → AreElementsInC bytes old new count position code

-- ---- one after another

abbrev pub place_of : PickyDerPlace → Place
place_of p = record { offset = p.offset; depth = p.depth }

-- what a caller is given of what is next
abbrev pub IsGiven : PickyDerElement → PickyDerElement → ℕ → Next → Type 0
IsGiven old new code (next.Element e) = (new ≡ element_in_c e) × (code ≡ ok)
IsGiven old new code (next.Broken r) = (new ≡ old) × (code ≡ rule_code r)
IsGiven old new code next.End = (new ≡ old) × (code ≡ at_end)
IsGiven old new code next.NoRoom = (new ≡ old) × (code ≡ no_room)
IsGiven old new code next.NoPlace = (new ≡ old) × (code ≡ no_place)

pub record IsStepInC (bytes : List ℕ) (old : PickyDerPlace) (olds : List ℕ) (new : PickyDerPlace) (news : List ℕ)
    (before after : PickyDerElement) (code : ℕ) : Type 0 where
  pub found : Next
  pub is : IsNext bytes (place_of old) olds (place_of new) news found
  -- in a walk from the first byte on, whatever elements it went over
  pub walk : (es : List Element) → IsWalked bytes (open_ends (place_of old) olds) old.offset es
      → ComesNext bytes (place_of old) olds (place_of new) news es found
  pub given : IsGiven before after code found
