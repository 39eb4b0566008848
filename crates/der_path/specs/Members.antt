-- The elements of a content, and which of them has a byte.
use Rattle.std.specs.Prelude.{◌≡◌, ℕ, ◌+◌, ◌-◌, ◌<◌, ◌≤◌, true, List, ◌++◌, length}
use Rattle.std.specs.List.{AllByRecursion, concat}
use Rattle.picky_der_core.specs.Tag.{is_constructed}
use Rattle.picky_der_core.specs.Element.{IsElement}
use Rattle.der_path.specs.Elements.{BeginsWith}

-- the bytes are so many elements, with so many bytes, and the rest
pub record ArePassed (bytes : List ℕ) (index offset : ℕ) (rest : List ℕ) : Type 0 where
  pub members : List (List ℕ)
  pub each : AllByRecursion IsElement members
  pub count : length members ≡ index
  pub size : length (concat members) ≡ offset
  pub is : bytes ≡ concat members ++ rest

-- the byte at this place isn't after an element at the front
abbrev pub IsWithin : List ℕ → ℕ → Type 0
IsWithin bytes place =
    (tag : ℕ) (content after : List ℕ) → BeginsWith bytes tag content after → place + length after < length bytes

-- it is
pub record IsSkipped (bytes : List ℕ) (place : ℕ) (after : List ℕ) : Type 0 where
  pub tag : ℕ
  pub content : List ℕ
  pub element : BeginsWith bytes tag content after
  pub past : length bytes ≤ place + length after

-- The byte at this place is in the member with this index, whose bytes begin at the offset: an element, or the rest of
-- the bytes where no element is.
pub record IsMemberAt (bytes : List ℕ) (place index offset : ℕ) (rest : List ℕ) : Type 0 where
  pub passed : ArePassed bytes index offset rest
  pub at : offset ≤ place
  pub there : place < length bytes
  pub inside : IsWithin rest (place - offset)

-- the byte is in the content of a constructed element at the front, at the inner place there
pub record IsInside (bytes : List ℕ) (place : ℕ) (content : List ℕ) (inner : ℕ) : Type 0 where
  pub tag : ℕ
  pub after : List ℕ
  pub element : BeginsWith bytes tag content after
  pub constructed : is_constructed tag ≡ true
  pub at : place + length content + length after ≡ length bytes + inner
  pub there : inner < length content
