-- Where in a message an error is, as it is printed.
use Rattle.std.specs.Prelude.{◌≡◌, ◌≢◌, ℕ, ◌+◌, ◌-◌, ◌^◌, ◌⊎◌, Some, None, List, [], ◌++◌, min, codes}
use Rattle.picky_der_de.specs.declared.whole_input.DecodeError.{DecodeError}
use Rattle.der_error_path.specs.Awaited.{Awaited}
use Rattle.der_error_path.specs.declared.path.ErrorPath.{ErrorPath}
use Rattle.der_error_path.specs.Names.{names_of}
use Rattle.der_error_path.specs.Steps.{AreSteps}
use Rattle.der_path.specs.Paths.{IsPath}
use Rattle.der_path.specs.Texts.{with_points}
use Rattle.der_schema.specs.declared.node.Schema.{Schema}
use Rattle.der_schema.specs.NotationOf.{notation_of}
use Rattle.der_show.specs.declared.outline.Complaint.{Complaint}
use Rattle.der_show.specs.declared.reason.Reason.{Reason}
use Rattle.der_show.specs.Outlines.{AreElements, IsComplaint}
use Rattle.der_show.specs.Reasons.{IsReason}
use Rattle.der_read.specs.contracts.message_type.MessageTypeDescribed.TheImpl as known
use Rattle.der_read.specs.contracts.tabled.MessageTypeTabled.TheImpl as tabled
use Rattle.der_read.specs.declared.message_type.MessageType.{MessageType}
use Rattle.der_read.specs.Fitting.{IsMessage}
use Rattle.der_read.specs.Message.{IsRefusalOf}

-- ---- schemas

-- the schema is that of the type
abbrev pub IsSchemaOf : MessageType → Schema → Type 0
IsSchemaOf t s = tabled.ghosts.notation t ≡ Some (notation_of s.nodes.now s.root)

-- the type has none
abbrev pub HasNoSchema : MessageType → Type 0
HasNoSchema t = tabled.ghosts.notation t ≡ None

-- ---- paths

-- the path by the names of a schema, of the byte at this position or before it
pub record IsNamedPath (s : Schema) (bytes : List ℕ) (position : ℕ) (text : List ℕ) : Type 0 where
  pub path : ErrorPath
  pub place : (path.place ≡ position) ⊎ (path.place ≡ position - 1)
  pub numbers : IsPath bytes path.place path.numbers.items
  pub steps : AreSteps s.nodes.now (Awaited.value s.root) bytes path.numbers.items path.steps.items path.mistake
  pub is : text ≡ names_of path.steps.items

-- the path by numbers of the byte at this offset, or nothing of the first byte
pub data IsNumberedPath (bytes : List ℕ) (offset : ℕ) (text : List ℕ) : Type 0 where
  first : offset ≡ 0 → text ≡ [] → IsNumberedPath bytes offset text
  numbers : (path : List ℕ) → offset ≢ 0 → IsPath bytes offset path → text ≡ with_points path
      → IsNumberedPath bytes offset text

-- the same as it is printed
abbrev pub IsNumbersText : List ℕ → ℕ → List ℕ → Type 0
IsNumbersText bytes offset text = ((offset ≡ 0) × (text ≡ []))
    ⊎ ((path : List ℕ) × IsPath bytes offset path × (text ≡ codes "; element " ++ with_points path))

-- by the names of the type, for this position, or by numbers, for this offset
pub data IsPathAt (t : MessageType) (bytes : List ℕ) (position offset : ℕ) (text : List ℕ) : Type 0 where
  by_names : (s : Schema) → IsSchemaOf t s → IsNamedPath s bytes position text
      → IsPathAt t bytes position offset text
  by_numbers : HasNoSchema t → IsNumberedPath bytes offset text → IsPathAt t bytes position offset text

-- the position after the byte at this offset
abbrev pub after_byte : ℕ → ℕ
after_byte offset = min (offset + 1) (2 ^ 64 - 1)

-- the path of what is wrong with bytes that aren't a message of the type, or in which an element isn't in DER
pub data IsPathOf (t : MessageType) (bytes : List ℕ) (text : List ℕ) : Type 0 where
  message : IsMessage t bytes → AreElements bytes → text ≡ [] → IsPathOf t bytes text
  refused : (r : DecodeError) (reason : Reason) → IsRefusalOf (known.ghosts.description t) bytes (Some r)
      → IsReason bytes r reason → IsPathAt t bytes r.position reason.offset text → IsPathOf t bytes text
  broken : (c : Complaint) → IsMessage t bytes → IsComplaint bytes c
      → IsPathAt t bytes (after_byte c.offset) c.offset text → IsPathOf t bytes text
