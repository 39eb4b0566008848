-- What was read.
use Rattle.std.specs.Prelude.{◌≡◌, ℕ, ◌+◌, ◌≤◌, List, ◌++◌, length, ⊤}
use Rattle.picky_der_core.specs.Element.{tlv}
use Rattle.der_ber.specs.declared.error.BerError.{BerError}
use Rattle.der_ber.specs.declared.error.BerError.TheVariants.{OutOfMemory, Broken}
use Rattle.der_ber.specs.declared.front.Until.{Until}
use Rattle.der_ber.specs.declared.parts.Part.{Part}
use Rattle.der_ber.specs.declared.strings.Strings.{Strings}
use Rattle.der_ber.specs.declared.strings.Strings.TheVariants.{InParts}
use Rattle.der_ber.specs.Nodes.{Nodes, encoding, depth}
use Rattle.der_ber.specs.LongLengths.{HasLongLengths}
use Rattle.der_ber.specs.Strings.{HasParts}
use Rattle.der_ber.specs.Fronts.{IsEnd, IsBroken, IsRefused}
use Rattle.der_ber.specs.Parts.{ArePartsOf, written}

-- Elements before the rest of the bytes were read. The parts of their DER were appended, which has so many bytes.
pub record IsElementRead (strings : Strings) (room : ℕ) (bytes : List ℕ) (old new : List Part) (size : ℕ)
    (rest : List ℕ) : Type 0 where
  pub nodes : Nodes
  pub passed : List ℕ
  pub elements : HasLongLengths nodes passed
  pub levels : depth nodes ≤ room
  pub is : bytes ≡ passed ++ rest
  pub whole : Nodes
  pub has_parts : HasParts strings nodes whole
  pub parts : List Part
  pub appended : new ≡ old ++ parts
  pub writes : written parts ≡ encoding whole
  pub counted : size ≡ length (encoding whole)
  pub are_parts : strings ≡ InParts → ArePartsOf nodes parts

-- no other element is after the first
abbrev pub IsSingle : Nodes → Type 0
IsSingle Nodes.none = ⊥
IsSingle (Nodes.primitive tag content after) = after ≡ Nodes.none
IsSingle (Nodes.constructed tag inside after) = after ≡ Nodes.none

-- they are one
pub record IsFrontRead (strings : Strings) (room : ℕ) (bytes : List ℕ) (old new : List Part) (size : ℕ)
    (rest : List ℕ) : Type 0 where
  pub read : IsElementRead strings room bytes old new size rest
  pub single : IsSingle read.nodes

-- and they end there
pub record AreRead (until : Until) (strings : Strings) (room : ℕ) (bytes : List ℕ) (old new : List Part) (size : ℕ)
    (after : List ℕ) : Type 0 where
  pub rest : List ℕ
  pub read : IsElementRead strings room bytes old new size rest
  pub end : IsEnd until rest after

-- the elements in a constructed one with this tag were read up to their end, and the parts of its DER were appended
pub record IsInsideRead (tag : ℕ) (until : Until) (strings : Strings) (room : ℕ) (bytes : List ℕ) (old new : List Part)
    (size : ℕ) (after : List ℕ) : Type 0 where
  pub inside : Nodes
  pub passed : List ℕ
  pub rest : List ℕ
  pub elements : HasLongLengths inside passed
  pub levels : 1 + depth inside ≤ room
  pub is : bytes ≡ passed ++ rest
  pub end : IsEnd until rest after
  pub whole : Nodes
  pub has_parts : HasParts strings inside whole
  pub parts : List Part
  pub appended : new ≡ old ++ parts
  pub writes : written parts ≡ tlv tag (encoding whole)
  pub counted : size ≡ length (tlv tag (encoding whole))
  pub are_parts : strings ≡ InParts → ArePartsOf (Nodes.constructed tag inside Nodes.none) parts

-- ---- an error

-- the element at the front, whose index in the input is the offset, breaks a rule
abbrev pub FailsAt : Strings → ℕ → ℕ → List ℕ → BerError → Type 0
FailsAt strings room offset bytes OutOfMemory = ⊤
FailsAt strings room offset bytes (Broken position r) =
    (at : ℕ) × (position ≡ offset + at) × IsBroken strings room bytes at r

-- one of the elements up to the end does
abbrev pub FailsWithin : Until → Strings → ℕ → ℕ → List ℕ → BerError → Type 0
FailsWithin until strings room offset bytes OutOfMemory = ⊤
FailsWithin until strings room offset bytes (Broken position r) =
    (at : ℕ) × (position ≡ offset + at) × IsRefused until strings room bytes at r
