-- What is printed of a message.
use Rattle.std.specs.Prelude.{◌≡◌, ℕ, List, [], ◌∷◌, ◌++◌, Option, string_bytes}
use Rattle.std.specs.List.{enumerate_from, flat_map}
use Rattle.der_program_base.specs.Json.{json_line}
use Rattle.der_signers.specs.declared.comparison.ContentComparison.{ContentComparison}
use Rattle.der_signers.specs.declared.message.Message.{Message}
use Rattle.der_signers.specs.declared.outcome.Outcome.{Outcome}
use Rattle.der_signers.specs.declared.outcome.Outcome.TheVariants as outcome
use Rattle.der_signers.specs.declared.outcome.Refusal.{Refusal}
use Rattle.der_program_base.specs.declared.printed.Printed.{Printed}
use Rattle.der_signers.specs.declared.reason.Reason.{Reason}
use Rattle.der_signers.specs.declared.report.Report.{Report}
use Rattle.der_program_base.specs.declared.printed.Format.{Format}
use Rattle.der_program_base.specs.declared.printed.Format.TheVariants.{Text, Json}
use Rattle.der_signers.specs.declared.request.Request.{Request}
use Rattle.der_signers.specs.Json.{signer_data, no_signers_data, refused_data}
use Rattle.der_signers.specs.Outcome.{IsOutcome}
use Rattle.der_signers.specs.Reason.{IsReason}
use Rattle.der_signers.specs.Statuses.{status_of}
use Rattle.der_signers.specs.Text.{signer_line, no_signers_line, refusal_line}

-- ---- lines: each ends with a line feed, which is 10

-- of the signer with this index, counted from 0
abbrev pub signer_text : Format → List ℕ → Option ℕ → Option ContentComparison → ℕ → Report → List ℕ
signer_text Text file block content index r = signer_line file block content r
signer_text Json file block content index r = json_line (signer_data file block content index r) ++ 10 ∷ []

-- of each signer, in their order
abbrev pub signers_text : Format → List ℕ → Option ℕ → Message → List ℕ
signers_text format file block m = flat_map (λ numbered. signer_text format file block m.content numbered.0 numbered.1)
    (enumerate_from 0 m.reports.items)

abbrev pub no_signers_text : Format → List ℕ → Option ℕ → Message → List ℕ
no_signers_text Text file block m = no_signers_line file block m
no_signers_text Json file block m = json_line (no_signers_data file block m) ++ 10 ∷ []

-- of each signer, or a line that says that there is none
abbrev pub message_text : Format → List ℕ → Option ℕ → Message → List ℕ
message_text format file block m =
    lines_or_none m.reports.items (signers_text format file block m) (no_signers_text format file block m)
  where
    lines_or_none : List Report → List ℕ → List ℕ → List ℕ
    lines_or_none [] lines none = none
    lines_or_none (r ∷ rs) lines none = lines

-- of a message that is refused
abbrev pub refusal_text : Format → List ℕ → Option ℕ → Reason → List ℕ
refusal_text Text file block reason = refusal_line file block (string_bytes reason.text)
refusal_text Json file block reason = json_line (refused_data file block reason) ++ 10 ∷ []

-- ---- the whole

-- the line of bytes that are refused
pub record IsRefusedText (format : Format) (file : List ℕ) (block : Option ℕ) (bytes : List ℕ) (why : Refusal)
    (text : List ℕ) : Type 0 where
  pub reason : Reason
  pub is_reason : IsReason bytes why reason
  pub is : text ≡ refusal_text format file block reason

-- the lines for this outcome of reading the bytes
abbrev pub IsText : Format → List ℕ → Option ℕ → List ℕ → Outcome → List ℕ → Type 0
IsText format file block bytes (outcome.Read m) text = text ≡ message_text format file block m
IsText format file block bytes (outcome.Refused r) text = IsRefusedText format file block bytes r text

-- the lines and the status for what comes of reading these bytes
pub record IsPrinted (file : List ℕ) (block : Option ℕ) (bytes : List ℕ) (request : Request) (format : Format)
    (printed : Printed) : Type 0 where
  pub outcome : Outcome
  pub is_outcome : IsOutcome bytes request outcome
  pub text : IsText format file block bytes outcome (string_bytes printed.text)
  pub status : printed.status ≡ status_of outcome
