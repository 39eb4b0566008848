-- What a whole read returns.
use Rattle.std.specs.Prelude.{◌≡◌, ◌≢◌, ℕ, ◌-◌, ◌^◌, ◌<◌, ◌≤◌, List, [], ◌∷◌, ◌++◌, length, Bool, true, Option, Some}
use Rattle.std.specs.Io.KnownBytes.{Consumes, Keeps, IsAtEnd}
use Rattle.picky_der_core.specs.declared.error.Asn1DerError.{Asn1DerError}
use Rattle.picky_der_core.specs.declared.error.Asn1DerError.TheVariants.{TruncatedData, OutOfMemory}
use Rattle.picky_der_core.specs.Faults.{Fault}
use Rattle.picky_der_core.specs.Reader.{ReportsFault}
use Rattle.picky_der_core.specs.Tree.{Tree}
use Rattle.picky_der_core.specs.Encoding.{der}
use Rattle.picky_der_core.specs.Readable.{IsReadable}
use Rattle.picky_der_core.specs.Shape.{Shape, IsOf, IsFirst}
use Rattle.picky_der_core.specs.Reading.{Place, ReadsFrom, IsMendable}
use Rattle.picky_der_de.specs.Steps.{IsOther}

-- the value at the front of the input, and the only one: any other there means the same tree, and is equal by `==`
pub record IsFront {V : Type 0} (meaning : V → Tree) (s : Shape) (eq : V → V → Bool) (input : List ℕ) (limit : ℕ)
    (v : V) : Type 0 where
  pub reads : ReadsFrom meaning s input limit v
  pub only : (w : V) → ReadsFrom meaning s input limit w → eq v w ≡ true
  pub same : (w : V) → ReadsFrom meaning s input limit w → meaning v ≡ meaning w

-- how many bytes of input there may be
abbrev pub any_length : ℕ
any_length = 2 ^ 64 - 1

-- an allocation failed, or no value is at the front of the input
pub record HasNoFront {V : Type 0} (meaning : V → Tree) (s : Shape) (input : List ℕ) (limit : ℕ)
    (e : Asn1DerError) : Type 0 where
  pub none : e ≢ OutOfMemory → (v : V) → ReadsFrom meaning s input limit v → ⊥
  -- more bytes after the input could make a value only where it was cut short
  pub final : e ≢ OutOfMemory → IsMendable meaning s Place.whole input any_length → e ≡ TruncatedData
  -- it isn't called cut short at a byte with which no value begins
  pub first : e ≡ TruncatedData → 0 < limit → (b : ℕ) (left : List ℕ) → input ≡ b ∷ left → IsFirst s b
  pub no_fault : IsOther e → ⊥

-- The known bytes that are left in a reader, and how it failed so far: before a call, and after it.
pub record ReaderView : Type 0 where
  pub input : Option (List ℕ)
  pub faults : List Fault

abbrev pub view_of : {R : Type 0} → (R → Option (List ℕ)) → (R → List Fault) → R → ReaderView
view_of remaining faults r = record { input = remaining r; faults = faults r }

-- exactly the value's encoding was consumed, and of a known input it is the value at the front
pub record ReadsFront {V : Type 0} (meaning : V → Tree) (s : Shape) (eq : V → V → Bool) (limit : ℕ)
    (old new : ReaderView) (v : V) : Type 0 where
  pub of_shape : IsOf s (meaning v)
  pub readable : IsReadable (meaning v)
  pub within : length (der (meaning v)) ≤ limit
  pub fetched : Consumes old.input new.input (der (meaning v))
  pub front : (input : List ℕ) → old.input ≡ Some input → IsFront meaning s eq input limit v
  pub faults : new.faults ≡ old.faults

-- the consumed bytes
pub record Fetches (limit : ℕ) (old new : Option (List ℕ)) : Type 0 where
  pub bytes : List ℕ
  pub are : Consumes old new bytes
  pub within : length bytes ≤ limit

-- the reader failed, an allocation failed, or no value is at the front of the input
pub record RefusesFront {V : Type 0} (meaning : V → Tree) (s : Shape) (limit : ℕ) (old new : ReaderView)
    (e : Asn1DerError) : Type 0 where
  pub none : new.faults ≡ old.faults → e ≢ OutOfMemory → (input : List ℕ) → old.input ≡ Some input → (v : V)
      → ReadsFrom meaning s input limit v → ⊥
  -- more bytes after the consumed ones could make a value only where the input was cut short
  pub final : new.faults ≡ old.faults → e ≢ OutOfMemory → (d left : List ℕ) → old.input ≡ Some (d ++ left)
      → new.input ≡ Some left → IsMendable meaning s Place.whole d any_length → e ≡ TruncatedData
  -- it isn't called cut short at a byte with which no value begins
  pub first : new.faults ≡ old.faults → e ≡ TruncatedData → 0 < limit → (b : ℕ) (left : List ℕ)
      → old.input ≡ Some (b ∷ left) → IsFirst s b
  pub fetched : Fetches limit old.input new.input
  -- the reader failed at most once; then the error is what that becomes, and nothing was consumed after it
  pub faults : ReportsFault old.faults new.faults new.input e
  -- `Other` comes from an I/O error alone
  pub other : new.faults ≡ old.faults → IsOther e → ⊥

-- ---- values after each other

-- nothing is left in the reader, and nothing was consumed
pub record HasNoneLeft (limit : ℕ) (old new : ReaderView) : Type 0 where
  pub ahead : 0 < limit
  pub ended : IsAtEnd old.input
  pub input : Keeps old.input new.input
  pub faults : new.faults ≡ old.faults

-- The next value is refused. This isn't where none is left, unless no bytes make a value of the type.
pub record RefusesNextValue {V : Type 0} (meaning : V → Tree) (s : Shape) (limit : ℕ) (old new : ReaderView)
    (e : Asn1DerError) : Type 0 where
  pub refuses : RefusesFront meaning s limit old new e
  pub ahead : 0 < limit → new.faults ≡ old.faults → e ≢ OutOfMemory → old.input ≡ Some []
      → IsMendable meaning s Place.whole [] any_length → ⊥
