-- Why bytes are refused.
use Rattle.std.specs.Prelude.{◌≡◌, ℕ, List, None, Some, string_bytes}
use Rattle.picky_der_de.specs.declared.whole_input.DecodeError.{DecodeError}
use Rattle.der_program_base.specs.Line.{IsOneLine}
use Rattle.der_show.specs.declared.reason.Reason.{Reason as Found}
use Rattle.der_show.specs.Reasons.{IsReason as IsFound}
use Rattle.der_signers.specs.declared.outcome.Refusal.{Refusal}
use Rattle.der_signers.specs.declared.outcome.Refusal.TheVariants as refusal
use Rattle.der_signers.specs.declared.reason.Reason.{Reason}

-- with the offset of what `der_show` finds in the whole message, and some words on one line
pub record IsReasonAt (bytes : List ℕ) (error : DecodeError) (r : Reason) : Type 0 where
  pub found : Found
  pub is_found : IsFound bytes error found
  pub offset : r.offset ≡ Some found.offset
  pub one_line : IsOneLine (string_bytes r.text)

-- with no offset, and some words on one line
pub record IsReasonWithout (r : Reason) : Type 0 where
  pub offset : r.offset ≡ None
  pub one_line : IsOneLine (string_bytes r.text)

abbrev pub IsReason : List ℕ → Refusal → Reason → Type 0
IsReason bytes (refusal.NoContentInfo error) r = IsReasonAt bytes error r
IsReason bytes (refusal.OtherContent kind) r = IsReasonWithout r
IsReason bytes (refusal.NoSignedData error) r = IsReasonAt bytes error r
