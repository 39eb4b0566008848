-- What a read of one byte does.
use Rattle.std.specs.Prelude.{◌≡◌, ℕ, ◌≤◌, List, [], ◌∷◌, length, drop, Option, None, Some, MatchOption, Result}
use Rattle.std.specs.Prelude.{MatchResult}
use Rattle.std.specs.Io.KnownBytes.{Consumes, Keeps, IsAtEnd}
use Rattle.std.specs.IoError.{error_kind}
use Rattle.std.specs.declared.io.Error.{Error}
use Rattle.std.specs.declared.io.ErrorKind.{ErrorKind}
use Rattle.std.specs.declared.io.ErrorKind.TheVariants.{UnexpectedEof}
use Rattle.picky_der_core.specs.declared.error.Asn1DerError.{Asn1DerError}
use Rattle.picky_der_core.specs.Error.{error_of_kind}
use Rattle.picky_der_core.specs.Faults.{Fault}

-- the next byte was consumed, or none
abbrev pub GivesByte : Option (List ℕ) → Option (List ℕ) → Result ℕ Error → Type 0
GivesByte old new r = MatchResult r (λ b. Consumes old new (b ∷ [])) (λ _. Keeps old new)

-- the next byte was consumed; at the end of the input there is none, and an error consumes none
abbrev pub GivesNext : Option (List ℕ) → Option (List ℕ) → Result (Option ℕ) Error → Type 0
GivesNext old new r =
    MatchResult r (λ next. MatchOption next (Keeps old new × IsAtEnd new) (λ b. Consumes old new (b ∷ [])))
    (λ _. Keeps old new)

-- the first n bytes were consumed
abbrev pub ConsumesFirst : Option (List ℕ) → Option (List ℕ) → ℕ → Type 0
ConsumesFirst None new n = new ≡ None
ConsumesFirst (Some bs) new n = (n ≤ length bs) × (new ≡ Some (drop n bs))

-- the last I/O error is new and has this error, and these bytes are left after it
abbrev pub FailsOnce : List Fault → List Fault → Option (List ℕ) → Error → Type 0
FailsOnce old new left e = new ≡ record { kind = error_kind e; left = left } ∷ old

-- an error is an I/O error, or the end of the input
pub data IsFaultOrEnd (before left : Option (List ℕ)) (old new : List Fault) (e : Error) : Type 0 where
  fault : FailsOnce old new left e → IsFaultOrEnd before left old new e
  end : new ≡ old → error_kind e ≡ UnexpectedEof → IsAtEnd before → IsFaultOrEnd before left old new e

abbrev pub CountsFault : Option (List ℕ) → Option (List ℕ) → List Fault → List Fault → Result ℕ Error → Type 0
CountsFault before left old new r = MatchResult r (λ _. new ≡ old) (IsFaultOrEnd before left old new)

-- the reader failed exactly once, the error is what that I/O error becomes, and nothing was consumed after it; or it
-- didn't fail
pub data ReportsFault (old new : List Fault) (left : Option (List ℕ)) (e : Asn1DerError) : Type 0 where
  fault : (kind : ErrorKind) → new ≡ record { kind = kind; left = left } ∷ old → e ≡ error_of_kind kind
      → ReportsFault old new left e
  no_fault : new ≡ old → ReportsFault old new left e
