-- What comes of reading bytes as a message.
use Rattle.std.specs.Prelude.{◌≡◌, ◌≢◌, ℕ, List, [], ◌∷◌, Option, None, Some}
use Rattle.std.specs.List.{Contains}
use Rattle.picky_der_de.specs.declared.whole_input.DecodeError.{DecodeError}
use Rattle.der_program_base.specs.declared.status.Status.{Status}
use Rattle.der_program_base.specs.declared.status.Status.TheVariants as status
use Rattle.der_show.specs.declared.element.Element.{Element}
use Rattle.der_show.specs.declared.outline.Complaint.{Complaint}
use Rattle.der_show.specs.Outlines.{IsListed, IsRefused}
use Rattle.der_read.specs.declared.message_type.MessageType.{MessageType}
use Rattle.der_read.specs.contracts.message_type.MessageTypeDescribed.TheImpl as known
use Rattle.der_read.specs.declared.explanation.Explanation.{Explanation}
use Rattle.der_read.specs.declared.verdict.Verdict.{Verdict}
use Rattle.der_read.specs.declared.verdict.Verdict.TheVariants as verdict
use Rattle.der_read.specs.Message.{IsRefusalOf}
use Rattle.der_read.specs.Fitting.{IsMessage, AreFitting}
use Rattle.der_read.specs.Explanation.{IsExplanationOf, IsComplaintExplanation}
use Rattle.der_read.specs.Types.{labels_of, tried_types}

-- the bytes aren't a message of this type, for this reason
pub record IsNoMessage (type : MessageType) (bytes : List ℕ) (reason : Explanation) : Type 0 where
  pub refusal : DecodeError
  pub refused : IsRefusalOf (known.ghosts.description type) bytes (Some refusal)
  pub is : IsExplanationOf bytes refusal reason

-- the bytes aren't elements in DER, for this reason
pub record IsNotDer (bytes : List ℕ) (reason : Explanation) : Type 0 where
  pub elements : List Element
  pub complaint : Complaint
  pub refused : IsRefused bytes elements complaint
  pub is : IsComplaintExplanation complaint reason

-- ---- of one type

abbrev pub IsOfType : MessageType → List ℕ → Verdict → Type 0
IsOfType type bytes (verdict.Message types) = IsMessage type bytes × (types.items ≡ type ∷ [])
IsOfType type bytes (verdict.Other named reason) = (named ≡ type) × IsNoMessage type bytes reason
IsOfType type bytes (verdict.UnknownLabel label) = ⊥
IsOfType type bytes verdict.UnknownType = ⊥
IsOfType type bytes (verdict.NotDer reason) = ⊥

-- ---- of the type that a label names

-- no type has the label
abbrev pub IsNoLabel : List ℕ → Type 0
IsNoLabel label = (type : MessageType) → Contains (labels_of type) label → ⊥

-- this type has it
pub record IsOfLabel (label bytes : List ℕ) (v : Verdict) : Type 0 where
  pub type : MessageType
  pub labelled : Contains (labels_of type) label
  pub is : IsOfType type bytes v

abbrev pub IsLabelled : List ℕ → List ℕ → Verdict → Type 0
IsLabelled label bytes (verdict.UnknownLabel kept) = IsNoLabel label × (kept.items ≡ label)
IsLabelled label bytes v = IsOfLabel label bytes v

-- ---- of any type

abbrev pub IsOfAny : List ℕ → Verdict → Type 0
IsOfAny bytes (verdict.Message types) = (types.items ≢ []) × AreFitting bytes tried_types types.items
IsOfAny bytes verdict.UnknownType = AreFitting bytes tried_types []
    × ((elements : List Element) × IsListed bytes elements)
IsOfAny bytes (verdict.NotDer reason) = AreFitting bytes tried_types [] × IsNotDer bytes reason
IsOfAny bytes (verdict.Other named reason) = ⊥
IsOfAny bytes (verdict.UnknownLabel label) = ⊥

-- ---- by what is asked for: a type, or the label's, or any

abbrev pub IsVerdict : Option MessageType → Option (List ℕ) → List ℕ → Verdict → Type 0
IsVerdict (Some type) label bytes v = IsOfType type bytes v
IsVerdict None (Some label) bytes v = IsLabelled label bytes v
IsVerdict None None bytes v = IsOfAny bytes v

abbrev pub status_of : Verdict → Status
status_of (verdict.Message types) = status.Fine
status_of v = status.Refused
