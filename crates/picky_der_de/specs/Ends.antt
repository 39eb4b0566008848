-- Ends, as they are opened and closed.
use Rattle.std.specs.Prelude.{◌≡◌, ℕ, ◌+◌, ◌-◌, ◌<◌, ◌≤◌, List, [], Option, None, Some}
use Rattle.picky_der_core.specs.declared.error.Asn1DerError.{Asn1DerError}
use Rattle.picky_der_core.specs.declared.failure.Failure.{Failure}
use Rattle.picky_der_core.specs.declared.error.Asn1DerError.TheVariants.{InvalidData}
use Rattle.picky_der_core.specs.Refusal.{Refusal, header_refusal}
use Rattle.picky_der_de.specs.declared.end.End.{End}
use Rattle.picky_der_de.specs.declared.end.End.TheVariants.{Soft}
use Rattle.picky_der_de.specs.State.{State}
use Rattle.picky_der_de.specs.Steps.{Fails, UsesNoMemory, failed_with, error_at_end, is_hard}
use Rattle.picky_der_de.specs.Order.{order_of, without_order}
use Rattle.picky_der_de.specs.Reading.{AreNotRefused}
use Rattle.picky_der_de.specs.Headers.{BeginsContent, RefusesBegin}

-- What is restored when an end is closed: how many bytes are before the end around it, what this end is, and which
-- member before it was the last one of a set.
pub record EnclosingEnd : Type 0 where
  pub position : ℕ
  pub kind : End
  pub last : Option (List ℕ)

-- the innermost end, to be put back
abbrev pub innermost : State → EnclosingEnd
innermost s = record { position = s.consumed + s.until_end; kind = s.end; last = s.last }

-- an end of this kind was opened this many bytes from here
abbrev pub with_inner_end : State → ℕ → End → State
with_inner_end s n kind = record s { until_end = n; end = kind; last = None }

-- the end around the innermost one was put back, and no member is next
abbrev pub with_outer_end : EnclosingEnd → State → State
with_outer_end outer s = record s {
  until_end = outer.position - s.consumed;
  end = outer.kind;
  last = outer.last;
  seen = [];
}

-- the end was reached, and the one around it is the innermost again
pub record Closes (outer : EnclosingEnd) (old new : State) : Type 0 where
  pub reached : old.until_end ≡ 0
  pub had_not_failed : old.failed ≡ None
  pub same : new ≡ with_outer_end outer old

-- Bytes are left before the end, and none of them was consumed. The sequence is closed, so no member is the last one.
pub record RefusesClose (old new : State) (e : Asn1DerError) : Type 0 where
  pub fails : Fails old new e
  pub left : old.failed ≡ None → (0 < old.until_end) × (e ≡ InvalidData)
      × (new ≡ failed_with (without_order old) e)

-- ---- sequences and sets

-- how the header of a sequence or set is refused there, if it is; directly under an implicit tag there is none
abbrev pub list_refusal_in : Option ℕ → ℕ → State → List ℕ → Option Refusal
list_refusal_in None tag s rest = header_refusal tag (is_hard s.end) s.until_end rest
list_refusal_in (Some number) tag s rest = None

abbrev pub list_refusal : ℕ → State → List ℕ → Option Refusal
list_refusal tag s rest = list_refusal_in s.implicit_tag tag s rest

-- the header under this tag was consumed, if one is there, and a soft end was opened where the content ends
pub record OpensList (tag : ℕ) (old new : State) (outer : EnclosingEnd) : Type 0 where
  pub mid : State
  pub size : ℕ
  pub begins : BeginsContent tag old mid size
  pub opened : new ≡ record (with_inner_end mid size Soft) { last = order_of tag }
  pub outer_end : outer ≡ innermost mid
  pub no_refusal : AreNotRefused (list_refusal tag old) old

-- the header was refused, with exactly its error and rest; nothing was allocated
pub record RefusesList (tag : ℕ) (old new : State) (e : Asn1DerError) : Type 0 where
  pub begin : RefusesBegin tag old new e
  pub memory : UsesNoMemory old new e

-- A soft end was opened this many bytes from here, or it would have been past the innermost end, and then the
-- deserializer has failed. One that had failed is as it was. No order of members is tested before that end.
pub record OpensLazily (size : ℕ) (old new : State) (outer : EnclosingEnd) : Type 0 where
  pub again : (f : Failure) → old.failed ≡ Some f → new ≡ old
  pub past : old.failed ≡ None → old.until_end < size → new ≡ failed_with old (error_at_end old.end)
  pub opened : old.failed ≡ None → size ≤ old.until_end
      → new ≡ record (with_inner_end old size Soft) { implicit_tag = None }
  pub outer_end : old.failed ≡ None → size ≤ old.until_end → outer ≡ innermost old
  pub position : outer.position ≡ old.consumed + old.until_end
