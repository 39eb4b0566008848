-- What is at the front of bytes.
use Rattle.std.specs.Prelude.{◌≡◌, ℕ, suc, ◌+◌, ◌<◌, ◌≤◌, true, false, List, [], ◌∷◌, ◌++◌, length, Some, None}
use Rattle.der_ber.specs.declared.error.BerRule.{BerRule}
use Rattle.der_ber.specs.declared.error.BerRule.TheVariants as rule
use Rattle.der_ber.specs.declared.front.Until.{Until}
use Rattle.der_ber.specs.declared.front.Until.TheVariants as until
use Rattle.der_ber.specs.declared.front.Front.{Front}
use Rattle.der_ber.specs.declared.front.Front.TheVariants as front
use Rattle.der_ber.specs.declared.strings.Strings.{Strings}
use Rattle.der_ber.specs.declared.strings.Strings.TheVariants.{InParts}
use Rattle.der_ber.specs.Nodes.{Nodes, depth}
use Rattle.der_ber.specs.Strings.{segment_of, are_segments, segments, IsBitString, HasParts}
use Rattle.der_ber.specs.LongLengths.{IsTag, IsDefinite, HasLongLengths}
use Rattle.der_ber.specs.Broken.{Breaks}

-- the elements before these bytes end here, and others are after the end
abbrev pub IsEnd : Until → List ℕ → List ℕ → Type 0
IsEnd until.End bytes after = (bytes ≡ []) × (after ≡ [])
IsEnd until.EndOfContents bytes after = bytes ≡ 0x00 ∷ (0x00 ∷ after)

-- The bytes begin with a constructed element of the definite form, and with so many bytes before its content. Its
-- elements end with the content.
pub record OpensDefinite (tag : ℕ) (bytes : List ℕ) (start : ℕ) (content : List ℕ) : Type 0 where
  pub after : List ℕ
  pub is_tag : IsTag tag true
  pub definite : IsDefinite tag content bytes after
  pub is : start ≡ 1 + length definite.octets

-- the same of the indefinite form, whose elements end before an end-of-contents
pub record OpensIndefinite (tag : ℕ) (bytes : List ℕ) (start : ℕ) (inside : List ℕ) : Type 0 where
  pub is_tag : IsTag tag true
  pub definite : bytes ≡ tag ∷ (0x80 ∷ inside)
  pub is : start ≡ 2

abbrev pub Opens : Until → ℕ → List ℕ → ℕ → List ℕ → Type 0
Opens until.End tag bytes start inside = OpensDefinite tag bytes start inside
Opens until.EndOfContents tag bytes start inside = OpensIndefinite tag bytes start inside

-- what is at the front of the bytes, where an element may have so many levels of constructed ones
abbrev pub IsFront : ℕ → List ℕ → Front → Type 0
IsFront room bytes (front.Primitive tag content after) = IsTag tag false × IsDefinite tag content.now bytes after.now
IsFront room bytes (front.Definite tag content after) = (0 < room) × IsTag tag true
    × IsDefinite tag content.now bytes after.now
IsFront room bytes (front.Indefinite tag inside) = (0 < room) × IsTag tag true
    × (bytes ≡ tag ∷ (0x80 ∷ inside.now))
IsFront room bytes (front.Broken r) = Breaks room bytes r

-- ---- the first element that breaks a rule

-- elements before the rest of the bytes, with at most so many levels of constructed ones, and no end there
pub record ArePassed (until : Until) (strings : Strings) (room : ℕ) (bytes passed rest : List ℕ) : Type 0 where
  pub nodes : Nodes
  pub elements : HasLongLengths nodes passed
  pub levels : depth nodes ≤ room
  pub is : bytes ≡ passed ++ rest
  pub whole : Nodes
  pub has_parts : HasParts strings nodes whole
  pub goes_on : (after : List ℕ) → IsEnd until rest after → ⊥

-- which rule the elements in a string break: one isn't a part of it, or no bit string has the bits of its segments
pub data BreaksString (segment : ℕ) (inside : Nodes) (r : BerRule) : Type 0 where
  part : are_segments segment inside ≡ false → r ≡ rule.WrongPart → BreaksString segment inside r
  bits : segment ≡ 0x03 → ((content : List ℕ) → IsBitString (segments inside) content → ⊥) → r ≡ rule.UnusedBits
      → BreaksString segment inside r

-- the element at the front is a string in parts that becomes primitive, and they break the rule
pub record IsWrongString (strings : Strings) (room : ℕ) (bytes : List ℕ) (r : BerRule) : Type 0 where
  pub tag : ℕ
  pub segment : ℕ
  pub inside : Nodes
  pub passed : List ℕ
  pub rest : List ℕ
  pub is_string : segment_of strings tag ≡ Some segment
  pub elements : HasLongLengths (Nodes.constructed tag inside Nodes.none) passed
  pub is : bytes ≡ passed ++ rest
  pub breaks : BreaksString segment inside r

-- the strings in an element with this tag become primitive as those around it, but for those in a string
pub data AreInside (strings : Strings) (tag : ℕ) (inner : Strings) : Type 0 where
  same : segment_of strings tag ≡ None → inner ≡ strings → AreInside strings tag inner
  string : (segment : ℕ) → segment_of strings tag ≡ Some segment → inner ≡ InParts → AreInside strings tag inner

-- the element at the front breaks the rule, or one in it does, which is at this index
pub data IsBroken : Strings → ℕ → List ℕ → ℕ → BerRule → Type 0 where
  here : (strings : Strings) (room : ℕ) (bytes : List ℕ) (r : BerRule) → Breaks room bytes r
      → IsBroken strings room bytes 0 r
  string : (strings : Strings) (room : ℕ) (bytes : List ℕ) (r : BerRule) → IsWrongString strings room bytes r
      → IsBroken strings room bytes 0 r
  inside : (strings inner : Strings) (room : ℕ) (bytes : List ℕ) (until : Until) (tag start : ℕ)
      (content passed rest : List ℕ) (at : ℕ) (r : BerRule) → Opens until tag bytes start content
      → AreInside strings tag inner → ArePassed until inner room content passed rest → IsBroken inner room rest at r
      → IsBroken strings (suc room) bytes (start + (length passed + at)) r

-- one of the elements up to an end does, and those before it don't
pub record IsRefused (until : Until) (strings : Strings) (room : ℕ) (bytes : List ℕ) (position : ℕ) (r : BerRule) :
    Type 0 where
  pub passed : List ℕ
  pub rest : List ℕ
  pub before : ArePassed until strings room bytes passed rest
  pub at : ℕ
  pub broken : IsBroken strings room rest at r
  pub is : position ≡ length passed + at
