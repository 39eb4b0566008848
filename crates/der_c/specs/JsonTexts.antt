-- Messages in JSON, written into a buffer.
use Rattle.std.specs.Prelude.{◌≡◌, ◌≢◌, ◌==◌, ℕ, Option, None, Some, List, if◌then◌else◌}
use Rattle.serde_json.specs.Data.{Data}
use Rattle.der_program_base.specs.Json.{json_line}
use Rattle.der_read.specs.contracts.message_type.MessageTypeDescribed.TheImpl as known
use Rattle.der_read.specs.declared.message_type.MessageType.{MessageType}
use Rattle.der_read.specs.JsonMessages.{IsJsonOf, IsMessageOfJson}
use Rattle.der_read.specs.Paths.{HasNoSchema}
use Rattle.der_c.specs.Codes.{ok, memory_failed, no_table, no_value, too_large, unknown_type}
use Rattle.der_c.specs.Verdict.{IsVerdict}
use Rattle.der_c.specs.Writing.{IsPut}

-- the JSON of a message was appended, or there is none
pub data IsJsonWritten (t : MessageType) (bytes old new : List ℕ) (before after code : ℕ) : Type 0 where
  appended : (value : Data) → IsJsonOf t bytes value → IsPut (json_line value) old new before after code
      → IsJsonWritten t bytes old new before after code
  without_table : HasNoSchema t → new ≡ old → after ≡ before → code ≡ no_table
      → IsJsonWritten t bytes old new before after code
  without_json : new ≡ old → after ≡ before → code ≡ too_large → IsJsonWritten t bytes old new before after code
  no_memory : new ≡ old → after ≡ before → code ≡ memory_failed → IsJsonWritten t bytes old new before after code

-- the bytes are a message in DER, and its JSON was appended; or they aren't, and nothing was
pub data IsJsonOfMessage (t : MessageType) (bytes : List ℕ) (position : ℕ) (old new : List ℕ)
    (before after code : ℕ) : Type 0 where
  message : IsVerdict (known.ghosts.description t) bytes ok position → IsJsonWritten t bytes old new before after code
      → IsJsonOfMessage t bytes position old new before after code
  refused : code ≢ ok → IsVerdict (known.ghosts.description t) bytes code position → new ≡ old → after ≡ before
      → IsJsonOfMessage t bytes position old new before after code

abbrev pub IsJsonPut : Option MessageType → List ℕ → ℕ → List ℕ → List ℕ → ℕ → ℕ → ℕ → Type 0
IsJsonPut None bytes position old new before after code = (position ≡ 0) × (new ≡ old) × (after ≡ before)
    × (code ≡ unknown_type)
IsJsonPut (Some t) bytes position old new before after code = IsJsonOfMessage t bytes position old new before after code

-- ---- the other way

-- the code of a refusal whose words were appended with this code
abbrev pub refused_code : ℕ → ℕ
refused_code put = if put == ok then no_value else put

-- the DER of a message with the JSON of this text was appended; or why it is that of none, in words
pub data IsMessageWritten (t : MessageType) (text old new : List ℕ) (before after code : ℕ) : Type 0 where
  appended : (bytes : List ℕ) → IsMessageOfJson t text bytes → IsPut bytes old new before after code
      → IsMessageWritten t text old new before after code
  without_table : HasNoSchema t → new ≡ old → after ≡ before → code ≡ no_table
      → IsMessageWritten t text old new before after code
  refused : (words : List ℕ) (put : ℕ) → IsPut words old new before after put → code ≡ refused_code put
      → IsMessageWritten t text old new before after code
  no_memory : new ≡ old → after ≡ before → code ≡ memory_failed → IsMessageWritten t text old new before after code

abbrev pub IsMessagePut : Option MessageType → List ℕ → List ℕ → List ℕ → ℕ → ℕ → ℕ → Type 0
IsMessagePut None text old new before after code = (new ≡ old) × (after ≡ before) × (code ≡ unknown_type)
IsMessagePut (Some t) text old new before after code = IsMessageWritten t text old new before after code
