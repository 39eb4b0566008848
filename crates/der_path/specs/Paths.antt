-- The elements that have a byte, each in the one before.
use Rattle.std.specs.Prelude.{ℕ, ◌-◌, ◌≤◌, List, [], ◌∷◌, length}
use Rattle.der_path.specs.Members.{IsMemberAt, IsInside}

-- Each number is the index of the member that has the byte, in the content of the element before. No path is longer: it
-- ends where the byte isn't in the content of a constructed element.
pub data IsPath : List ℕ → ℕ → List ℕ → Type 0 where
  none : (bytes : List ℕ) (place : ℕ) → length bytes ≤ place → IsPath bytes place []
  last : (bytes : List ℕ) (place index offset : ℕ) (rest : List ℕ) → IsMemberAt bytes place index offset rest
      → ((content : List ℕ) (inner : ℕ) → IsInside rest (place - offset) content inner → ⊥)
      → IsPath bytes place (index ∷ [])
  more : (bytes : List ℕ) (place index offset : ℕ) (rest content : List ℕ) (inner : ℕ) (others : List ℕ)
      → IsMemberAt bytes place index offset rest → IsInside rest (place - offset) content inner
      → IsPath content inner others → IsPath bytes place (index ∷ others)
