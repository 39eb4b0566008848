-- What is known of the next member of a set before it is read.
use Rattle.std.specs.Prelude.{◌≡◌, ◌+◌, ◌≤◌, ℕ, Bool, false, true, List, ◌++◌, length, take, drop, Option}
use Rattle.std.specs.Prelude.{None, Some, ◌==◌, if◌then◌else◌}
use Rattle.std.specs.Io.KnownBytes.{Consumes}
use Rattle.picky_der_core.specs.Element.{IsElement}
use Rattle.picky_der_core.specs.Order.{is_less}
use Rattle.picky_der_de.specs.declared.sequence.order.Next.{Next}
use Rattle.picky_der_de.specs.declared.sequence.order.Next.TheVariants.{Untested, InOrder, Kept}
use Rattle.picky_der_de.specs.Ahead.{IsElementInFront}
use Rattle.picky_der_de.specs.State.{State}

-- the last member: the one that was seen, or the one that is kept
abbrev pub last_by : Next → List ℕ → List ℕ → Option (List ℕ)
last_by Untested seen kept = None
last_by InOrder seen kept = Some seen
last_by Kept seen kept = Some kept

-- of the first member of a list under this tag, where none was seen
abbrev pub first_by : ℕ → Next
first_by tag = if tag == 0x31 then InOrder else Untested

-- the next one is known to be in order
abbrev pub is_in_order : Next → Bool
is_in_order Untested = false
is_in_order InOrder = true
is_in_order Kept = false

-- a deserializer whose next value is a member
abbrev pub in_order : State → Next → State
in_order s next = record s { last = last_by next s.seen s.kept }

-- If the next member is known to be in order, and is whole before the end, it is.
abbrev pub IsCompared : State → Next → Type 0
IsCompared s next = s.failed ≡ None → is_in_order next ≡ true → (member : List ℕ) (left : Option (List ℕ))
    → IsElement member → Consumes s.input left member → length member ≤ s.until_end → is_less member s.seen ≡ false

-- Of these bytes so many at the front are a member. Of any bytes after these, the member after it isn't less, if it is
-- whole before the end.
pub record SeesNext (near : List ℕ) (until_end count : ℕ) : Type 0 where
  pub element : IsElementInFront near count
  pub next : (member rest left : List ℕ) → IsElement member → drop count near ++ rest ≡ member ++ left
      → count + length member ≤ until_end → is_less member (take count near) ≡ false
