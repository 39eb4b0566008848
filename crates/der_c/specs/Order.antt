-- Elements that are put in order.
use Rattle.std.specs.Prelude.{◌≡◌, ℕ, ◌<◌, ◌≤◌, List, ◌++◌, length, map, slice_range, Vec, Result, Ok, Err}
use Rattle.std.specs.Borrow.{Bor}
use Rattle.std.specs.Global.{Global}
use Rattle.std.specs.List.{AllByRecursion, concat}
use Rattle.picky_der_core.specs.Element.{IsElement}
use Rattle.picky_der_core.specs.Order.{in_ascending_order}
use Rattle.der_show.specs.declared.rule.Rule.{Rule}
use Rattle.der_show.specs.Headers.{BreaksHeader}
use Rattle.der_c.specs.Codes.{ok, memory_failed, no_room, no_place, rule_code}
use Rattle.der_c.specs.Writing.{put_over}

-- the bytes are these elements, one after another
pub record AreMembers (ms : List (List ℕ)) (bytes : List ℕ) : Type 0 where
  pub elements : AllByRecursion IsElement ms
  pub is : bytes ≡ concat ms

-- the bytes are elements, and others after them, which break this rule of headers
pub record BreaksMember (bytes : List ℕ) (r : Rule) : Type 0 where
  pub members : List (List ℕ)
  pub rest : List ℕ
  pub elements : AllByRecursion IsElement members
  pub is : bytes ≡ concat members ++ rest
  pub broken : BreaksHeader rest r

abbrev pub AreCut : List ℕ → Result (Vec (Bor (List ℕ)) Global) Rule → Type 0
AreCut bytes (Ok v) = AreMembers (map (λ m. m.now) v.items) bytes
AreCut bytes (Err r) = BreaksMember bytes r

-- these bytes are the elements of those in ascending order
pub record AreInOrder (bytes ordered : List ℕ) : Type 0 where
  pub members : List (List ℕ)
  pub cut : AreMembers members bytes
  pub is : ordered ≡ concat (in_ascending_order members)

abbrev pub AreArranged : List ℕ → Result (Vec ℕ Global) Rule → Type 0
AreArranged bytes (Ok v) = AreInOrder bytes v.items
AreArranged bytes (Err r) = BreaksMember bytes r

-- The elements from `start` to `used` were put in ascending order, or the buffer is as it was.
pub data AreSorted (start used : ℕ) (old new : List ℕ) (code : ℕ) : Type 0 where
  sorted : (bytes : List ℕ) → start ≤ used → used ≤ length old → AreInOrder (slice_range old start used) bytes
      → new ≡ put_over old start bytes → code ≡ ok → AreSorted start used old new code
  broken : (r : Rule) → start ≤ used → used ≤ length old → BreaksMember (slice_range old start used) r → new ≡ old
      → code ≡ rule_code r → AreSorted start used old new code
  past : used < start → new ≡ old → code ≡ no_place → AreSorted start used old new code
  short : start ≤ used → length old < used → new ≡ old → code ≡ no_room → AreSorted start used old new code
  no_memory : start ≤ used → used ≤ length old → new ≡ old → code ≡ memory_failed → AreSorted start used old new code
