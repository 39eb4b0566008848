-- What the calls of a deserializer do to it.
use Rattle.std.specs.Prelude.{◌≡◌, ◌≢◌, ℕ, ◌+◌, ◌-◌, ◌^◌, ◌<◌, ◌≤◌, Bool, true, false, List, ◌++◌, length, take, Option}
use Rattle.std.specs.Prelude.{Some, None, IfSome, ⊤}
use Rattle.std.specs.Io.KnownBytes.{Consumes, Keeps, IsAtEnd}
use Rattle.picky_der_core.specs.Element.{AreBytes}
use Rattle.picky_der_core.specs.declared.error.Asn1DerError.{Asn1DerError}
use Rattle.picky_der_core.specs.declared.failure.Failure.{Failure}
use Rattle.picky_der_core.specs.Failure.{failure_of}
use Rattle.picky_der_core.specs.declared.error.Asn1DerError.TheVariants.{TruncatedData, Other, OutOfMemory}
use Rattle.picky_der_core.specs.Reader.{ReportsFault}
use Rattle.picky_der_core.specs.Peeking.{count_of_any}
use Rattle.picky_der_core.specs.Refusal.{error_past_end}
use Rattle.picky_der_core.specs.Reading.{Place}
use Rattle.picky_der_de.specs.declared.end.End.{End}
use Rattle.picky_der_de.specs.declared.end.End.TheVariants.{Limit, Soft, Hard}
use Rattle.picky_der_de.specs.State.{State}

-- how many bytes were consumed from the reader
abbrev pub fetched_count : State → ℕ
fetched_count s = s.consumed + count_of_any s.peeked

-- ---- ends

abbrev pub is_hard : End → Bool
is_hard Limit = false
is_hard Soft = false
is_hard Hard = true

-- a byte that is missing at the innermost end, or a length that reaches past it
abbrev pub error_at_end : End → Asn1DerError
error_at_end end = error_past_end (is_hard end)

-- how far ahead the innermost end is that is neither the limit nor that of the input
abbrev pub mendable_within : End → ℕ → ℕ
mendable_within Limit until_end = 2 ^ 64 - 1
mendable_within Soft until_end = until_end
mendable_within Hard until_end = until_end

abbrev pub mendable_limit : State → ℕ
mendable_limit s = mendable_within s.end s.until_end

-- the place of the next value
abbrev pub place_in : Option ℕ → ℕ → Place
place_in None until_end = Place.whole
place_in (Some tag) until_end = Place.under_implicit until_end

abbrev pub place_of : State → Place
place_of s = place_in s.implicit_tag s.until_end

-- no more was consumed than the limit allows, and the innermost end isn't past the limit
pub record IsWithin (s : State) : Type 0 where
  pub end : s.consumed + s.until_end ≤ s.limit
  pub fetched : fetched_count s ≤ s.limit

-- no byte is peeked directly under an implicit tag
abbrev pub IsUnpeekedIfImplicit : Option ℕ → Option ℕ → Type 0
IsUnpeekedIfImplicit None peeked = ⊤
IsUnpeekedIfImplicit (Some tag) peeked = peeked ≡ None

-- ---- steps

-- these bytes were consumed, and nothing else changed
pub record Consumed (old new : State) (bytes : List ℕ) : Type 0 where
  pub input : Consumes old.input new.input bytes
  pub consumed : new.consumed ≡ old.consumed + length bytes
  pub until_end : old.until_end ≡ length bytes + new.until_end
  pub end : new.end ≡ old.end
  pub limit : new.limit ≡ old.limit
  pub last : new.last ≡ old.last
  pub unpeeked : new.peeked ≡ None
  -- a peeked byte was the first of them
  pub fetched : fetched_count old ≤ new.consumed
  pub had_not_failed : old.failed ≡ None
  pub not_failed : new.failed ≡ None
  pub faults : new.faults ≡ old.faults
  pub references : new.references ≡ old.references

-- the bytes that a failed call consumed
pub record ConsumesSome (old new : State) : Type 0 where
  pub bytes : List ℕ
  pub input : Consumes old.input new.input bytes
  pub count : new.consumed ≡ old.consumed + length bytes

-- it had failed, and nothing was consumed
pub record IsUnmoved (old new : State) : Type 0 where
  pub input : Keeps old.input new.input
  pub consumed : new.consumed ≡ old.consumed
  pub peeked : new.peeked ≡ old.peeked
  pub faults : new.faults ≡ old.faults

abbrev pub IsOther : Asn1DerError → Type 0
IsOther (Other kind) = ⊤
IsOther _ = ⊥

-- an error that neither a reader gives nor memory
abbrev pub IsOfContent : Asn1DerError → Type 0
IsOfContent e = (IsOther e → ⊥) × (e ≢ OutOfMemory)

-- no more was consumed than the reader had
abbrev pub HasFetched : Option (List ℕ) → ℕ → ℕ → Type 0
HasFetched input consumed n = IfSome input (λ bs. n ≤ consumed + length bs)

-- it has failed with this error, or had failed with one of its kind
pub record Fails (old new : State) (e : Asn1DerError) : Type 0 where
  pub failed : new.failed ≡ Some (failure_of e)
  pub again : (f : Failure) → old.failed ≡ Some f → (failure_of e ≡ f) × IsUnmoved old new
  -- the reader failed at most once; then the error is what that becomes, and nothing was consumed after it
  pub faults : ReportsFault old.faults new.faults new.input e
  -- nor was a byte peeked
  pub unpeeked : new.faults ≢ old.faults → new.peeked ≡ None
  -- `Other` comes from an I/O error alone
  pub other : old.failed ≡ None → new.faults ≡ old.faults → IsOther e → ⊥
  pub took : ConsumesSome old new
  -- a peeked byte stays, or was consumed
  pub grows : fetched_count old ≤ fetched_count new
  -- the innermost end doesn't move away
  pub end : new.consumed + new.until_end ≤ old.consumed + old.until_end
  pub limit : new.limit ≡ old.limit
  pub within : IsWithin old → IsWithin new
  pub there : old.failed ≡ None → HasFetched old.input old.consumed (fetched_count new)
  pub references : new.references ≡ old.references

-- neither an I/O error nor out of memory
pub record IsJudged (old new : State) (e : Asn1DerError) : Type 0 where
  pub had_not_failed : old.failed ≡ None
  pub faults : new.faults ≡ old.faults
  pub memory : e ≢ OutOfMemory

-- nothing is allocated, unless the reader reports `OutOfMemory`
abbrev pub UsesNoMemory : State → State → Asn1DerError → Type 0
UsesNoMemory old new e = old.failed ≡ None → new.faults ≡ old.faults → e ≢ OutOfMemory

-- why no byte came: the end is here, or the input ended before it
pub data IsMissing (s : State) (e : Asn1DerError) : Type 0 where
  end_is_here : s.until_end ≡ 0 → e ≡ error_at_end s.end → IsMissing s e
  input_ended : 0 < s.until_end → IsAtEnd s.input → e ≡ TruncatedData → IsMissing s e

-- ---- contents

-- it has failed with this error, and nothing else changed
abbrev pub failed_with : State → Asn1DerError → State
failed_with s e = record s { failed = Some (failure_of e) }

-- no byte came, and what was to be read is as it was
pub record IsCut (old new : State) (n : ℕ) (e : Asn1DerError) : Type 0 where
  pub mid : State
  pub bytes : List ℕ
  pub consumes : Consumed old mid bytes
  pub short : length bytes < n
  pub missing : IsMissing mid e
  pub input : Keeps mid.input new.input
  pub consumed : new.consumed ≡ mid.consumed
  pub peeked : new.peeked ≡ mid.peeked

-- no byte came where fewer than n were consumed; or, after any number of them, an allocation failed
pub record StopsShort (old new : State) (n : ℕ) (e : Asn1DerError) : Type 0 where
  pub fails : Fails old new e
  pub short : IsJudged old new e → IsCut old new n e

-- these bytes were consumed, n of them
pub record ConsumesBytes (old new : State) (n : ℕ) (content : List ℕ) : Type 0 where
  pub consumes : Consumed old new content
  pub count : length content ≡ n
  pub bytes : AreBytes content

-- a piece of a content was consumed, where so many of its bytes were left: n bytes, which are at the front of the
-- buffer
pub record ConsumesPiece (old new : State) (left n : ℕ) (buffer : List ℕ) : Type 0 where
  pub consumes : ConsumesBytes old new n (take n buffer)
  pub some : 0 < n
  pub fits : n ≤ left

-- a content of n bytes was consumed, and put after others
pub record ConsumesAfter (front : List ℕ) (old new : State) (n : ℕ) (all : List ℕ) : Type 0 where
  pub content : List ℕ
  pub consumes : ConsumesBytes old new n content
  pub is : all ≡ front ++ content

-- a vector was made longer by no more bytes than were consumed
abbrev pub GrowsByConsumed : List ℕ → List ℕ → State → State → Type 0
GrowsByConsumed before after old new = length after + old.consumed ≤ length before + new.consumed

-- a content of n bytes was consumed, and its first bytes are kept
pub record ConsumesKept (old new : State) (n : ℕ) (kept : List ℕ) : Type 0 where
  pub content : List ℕ
  pub consumes : Consumed old new content
  pub count : length content ≡ n
  pub first : kept ≡ take 18 content
