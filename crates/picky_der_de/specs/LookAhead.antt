-- A look at the next byte, which stays unread.
use Rattle.std.specs.Prelude.{◌≡◌, ℕ, ◌<◌, List, [], ◌∷◌, Option, None, Some, IfSome}
use Rattle.std.specs.Io.KnownBytes.{Keeps, IsAtEnd}
use Rattle.picky_der_core.specs.declared.error.Asn1DerError.{Asn1DerError}
use Rattle.picky_der_core.specs.Failure.{failure_of}
use Rattle.picky_der_core.specs.declared.error.Asn1DerError.TheVariants.{InvalidData}
use Rattle.picky_der_core.specs.Element.{IsPrefix}
use Rattle.picky_der_core.specs.Refusal.{Refusal, missing_byte}
use Rattle.picky_der_de.specs.State.{State}
use Rattle.picky_der_de.specs.Steps.{Fails, IsJudged, IsMissing, UsesNoMemory, is_hard}
use Rattle.picky_der_de.specs.Reading.{AreNotRefused, AreJustRefused}

-- ---- how it is refused, where the reader has `rest` of the bytes before the innermost end

-- none of these bytes is there
abbrev pub next_refusal : State → List ℕ → Option Refusal
next_refusal s [] = Some (missing_byte (is_hard s.end) s.until_end [], [])
next_refusal s (b ∷ bs) = None

-- directly under an implicit tag the tag was consumed, and is known
abbrev pub identifier_refusal_in : Option ℕ → State → List ℕ → Option Refusal
identifier_refusal_in None s rest = next_refusal s rest
identifier_refusal_in (Some number) s rest = None

abbrev pub identifier_refusal : State → List ℕ → Option Refusal
identifier_refusal s rest = identifier_refusal_in s.implicit_tag s rest

-- directly under an implicit tag no byte is there that would distinguish the alternatives of a choice
abbrev pub choice_refusal_in : Option ℕ → State → List ℕ → Option Refusal
choice_refusal_in None s rest = next_refusal s rest
choice_refusal_in (Some number) s rest = Some (InvalidData, rest)

abbrev pub choice_refusal : State → List ℕ → Option Refusal
choice_refusal s rest = choice_refusal_in s.implicit_tag s rest

-- ---- the next byte

-- this byte is next, and is peeked; nothing was consumed, and nothing else changed
pub record Peeks (old new : State) (b : ℕ) : Type 0 where
  pub had_not_failed : old.failed ≡ None
  pub implicit_tag : old.implicit_tag ≡ None
  pub ahead : 0 < old.until_end
  pub byte : b < 256
  pub next : IfSome old.input (IsPrefix (b ∷ []))
  pub again : IfSome old.peeked (λ p. b ≡ p)
  pub input : Keeps old.input new.input
  pub same : new ≡ record old { input = new.input; peeked = Some b }

-- there is none, or the reader failed; nothing was consumed, what was peeked still is, and this is the last member
pub record RefusesPeek (refusal : State → List ℕ → Option Refusal) (last : Option (List ℕ)) (old new : State)
    (e : Asn1DerError) : Type 0
  where
    pub fails : Fails old new e
    pub just : AreJustRefused (refusal old) old new e
    pub memory : UsesNoMemory old new e
    pub same : new ≡ record old {
      input = new.input;
      last = last;
      failed = Some (failure_of e);
      faults = new.faults;
    }

-- ---- identifiers

-- the tag that is next; directly under an implicit tag it is that one, and nothing changed
abbrev pub IdentifiesIn : Option ℕ → State → State → ℕ → Type 0
IdentifiesIn None old new tag = Peeks old new tag
IdentifiesIn (Some awaited) old new tag = (old.failed ≡ None) × (tag ≡ awaited) × (new ≡ old)

pub record Identifies (old new : State) (tag : ℕ) : Type 0 where
  pub is : IdentifiesIn old.implicit_tag old new tag
  pub no_refusal : AreNotRefused (identifier_refusal old) old

-- no tag is next; of the last member nothing is said
pub record RefusesIdentifier (old new : State) (e : Asn1DerError) : Type 0 where
  pub refuses : RefusesPeek identifier_refusal new.last old new e
  pub missing : IsJudged old new e → (old.implicit_tag ≡ None) × IsMissing old e

-- no byte is next, since the input ended before the innermost end; nothing changed
pub record HasEnded (old new : State) : Type 0 where
  pub had_not_failed : old.failed ≡ None
  pub unpeeked : old.peeked ≡ None
  pub implicit_tag : old.implicit_tag ≡ None
  pub ahead : 0 < old.until_end
  pub ended : IsAtEnd old.input
  pub input : Keeps old.input new.input
  pub same : new ≡ record old { input = new.input }

-- ---- choices

-- the byte that distinguishes the alternatives of a choice is next
pub record IdentifiesChoice (old new : State) (tag : ℕ) : Type 0 where
  pub peeks : Peeks old new tag
  pub no_refusal : AreNotRefused (choice_refusal old) old

-- why there is no such byte: it is missing, or the implicit tag is instead of it
pub data HidesChoice (old : State) (e : Asn1DerError) : Type 0 where
  no_byte : old.implicit_tag ≡ None → IsMissing old e → HidesChoice old e
  implicit : (number : ℕ) → old.implicit_tag ≡ Some number → e ≡ InvalidData → HidesChoice old e

pub record RefusesChoice (old new : State) (e : Asn1DerError) : Type 0 where
  pub refuses : RefusesPeek choice_refusal old.last old new e
  pub hidden : IsJudged old new e → HidesChoice old e
