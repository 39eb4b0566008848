-- The DER of messages in BER, written into a buffer.
use Rattle.std.specs.Prelude.{◌≡◌, ℕ, Option, None, Some, List}
use Rattle.der_read.specs.BerMessages.{IsMessageOfBer}
use Rattle.der_read.specs.declared.message_type.MessageType.{MessageType}
use Rattle.der_read.specs.Paths.{HasNoSchema}
use Rattle.der_c.specs.Codes.{memory_failed, no_table, unknown_type}
use Rattle.der_c.specs.JsonTexts.{refused_code}
use Rattle.der_c.specs.Writing.{IsPut}

-- the DER of a message of which the bytes are BER was appended; or why they are that of none, in words
pub data IsDerWritten (t : MessageType) (bytes old new : List ℕ) (before after code : ℕ) : Type 0 where
  appended : (der : List ℕ) → IsMessageOfBer t bytes der → IsPut der old new before after code
      → IsDerWritten t bytes old new before after code
  without_table : HasNoSchema t → new ≡ old → after ≡ before → code ≡ no_table
      → IsDerWritten t bytes old new before after code
  refused : (words : List ℕ) (put : ℕ) → IsPut words old new before after put → code ≡ refused_code put
      → IsDerWritten t bytes old new before after code
  no_memory : new ≡ old → after ≡ before → code ≡ memory_failed → IsDerWritten t bytes old new before after code

abbrev pub IsDerPut : Option MessageType → List ℕ → List ℕ → List ℕ → ℕ → ℕ → ℕ → Type 0
IsDerPut None bytes old new before after code = (new ≡ old) × (after ≡ before) × (code ≡ unknown_type)
IsDerPut (Some t) bytes old new before after code = IsDerWritten t bytes old new before after code
