-- Why bytes are refused, in the words of der_show. Which words these are isn't said here.
use Rattle.std.specs.Prelude.{◌≡◌, ℕ, List, string_bytes}
use Rattle.picky_der_de.specs.declared.whole_input.DecodeError.{DecodeError}
use Rattle.der_show.specs.declared.outline.Complaint.{Complaint}
use Rattle.der_show.specs.declared.reason.Reason.{Reason}
use Rattle.der_show.specs.Reasons.{IsReason}
use Rattle.der_read.specs.declared.explanation.Explanation.{Explanation}

-- of the bytes that are refused as a value of a type: the offset is that of the reason
pub record IsExplanationOf (bytes : List ℕ) (refusal : DecodeError) (e : Explanation) : Type 0 where
  pub reason : Reason
  pub is : IsReason bytes refusal reason
  pub offset : e.offset ≡ reason.offset

-- of bytes that aren't DER
abbrev pub IsComplaintExplanation : Complaint → Explanation → Type 0
IsComplaintExplanation complaint e = e.offset ≡ complaint.offset

abbrev pub explanation_text : Explanation → List ℕ
explanation_text e = string_bytes e.text
