-- The content of a string that becomes primitive.
use Rattle.std.specs.Prelude.{◌≡◌, ℕ, ◌≤◌, true, false, List, [], ◌∷◌, ⊤}
use Rattle.der_ber.specs.declared.error.BerError.{BerError}
use Rattle.der_ber.specs.declared.error.BerError.TheVariants.{OutOfMemory, Broken}
use Rattle.der_ber.specs.declared.error.BerRule.{BerRule}
use Rattle.der_ber.specs.declared.error.BerRule.TheVariants as rule
use Rattle.der_ber.specs.declared.parts.Part.{Part}
use Rattle.der_ber.specs.Strings.{most_unused, AreBits, IsBitString, IsJoined}
use Rattle.der_ber.specs.Parts.{contents, are_in, IsAppended}

-- the parts in a string were joined, and those of the content of the primitive one were appended
pub record IsContentPushed (segment : ℕ) (inside old new : List Part) (size : ℕ) : Type 0 where
  pub content : List ℕ
  pub parts : are_in segment inside ≡ true
  pub joined : IsJoined segment (contents inside) content
  pub pushed : IsAppended old new content size

-- the same of a bit string
pub record AreBitsPushed (segments : List (List ℕ)) (old new : List Part) (size : ℕ) : Type 0 where
  pub content : List ℕ
  pub is : IsBitString segments content
  pub pushed : IsAppended old new content size

-- the bits of the first segments were appended, of which so many are unused
pub record AreSegmentsPushed (segments : List (List ℕ)) (unused : ℕ) (old new : List Part) (size : ℕ) : Type 0 where
  pub bits : List ℕ
  pub are_bits : AreBits segments unused bits
  pub pushed : IsAppended old new bits size

-- those of a part were, if one with bits is there, after others with so many unused bits
pub data IsSegmentPushed (segments : List (List ℕ)) (unused later : ℕ) (old new : List Part) (size : ℕ) : Type 0 where
  none : segments ≡ [] → later ≡ unused → IsAppended old new [] size
      → IsSegmentPushed segments unused later old new size
  one : (bits : List ℕ) → segments ≡ (later ∷ bits) ∷ [] → unused ≡ 0 → later ≤ most_unused bits
      → IsAppended old new bits size → IsSegmentPushed segments unused later old new size

-- ---- errors

-- a segment is no content of a primitive bit string, or comes after unused bits
abbrev pub IsBadSegment : List ℕ → ℕ → Type 0
IsBadSegment segment unused =
    unused ≡ 0 → (count : ℕ) (bits : List ℕ) → segment ≡ count ∷ bits → count ≤ most_unused bits → ⊥

-- it is the content of a part
pub record IsBadPart (segments : List (List ℕ)) (unused : ℕ) : Type 0 where
  pub segment : List ℕ
  pub is : segments ≡ segment ∷ []
  pub bad : IsBadSegment segment unused

abbrev pub FailsSegment : ℕ → List (List ℕ) → ℕ → BerError → Type 0
FailsSegment at segments unused OutOfMemory = ⊤
FailsSegment at segments unused (Broken position r) =
    (position ≡ at) × (r ≡ rule.UnusedBits) × IsBadPart segments unused

-- no content of a bit string has these segments
abbrev pub AreNoBits : List (List ℕ) → Type 0
AreNoBits segments = (content : List ℕ) → IsBitString segments content → ⊥

abbrev pub FailsBits : ℕ → List (List ℕ) → BerError → Type 0
FailsBits at segments OutOfMemory = ⊤
FailsBits at segments (Broken position r) = (position ≡ at) × (r ≡ rule.UnusedBits) × AreNoBits segments

-- which rule the parts in a string break
pub data BreaksParts (segment : ℕ) (inside : List Part) (r : BerRule) : Type 0 where
  part : are_in segment inside ≡ false → r ≡ rule.WrongPart → BreaksParts segment inside r
  bits : segment ≡ 0x03 → AreNoBits (contents inside) → r ≡ rule.UnusedBits → BreaksParts segment inside r

abbrev pub FailsContent : ℕ → ℕ → List Part → BerError → Type 0
FailsContent segment at inside OutOfMemory = ⊤
FailsContent segment at inside (Broken position r) = (position ≡ at) × BreaksParts segment inside r
