-- The path of a refusal, written into a buffer.
use Rattle.std.specs.Prelude.{◌≡◌, ℕ, Option, None, Some, List}
use Rattle.der_read.specs.declared.message_type.MessageType.{MessageType}
use Rattle.der_read.specs.Paths.{IsPathOf}
use Rattle.der_c.specs.Codes.{memory_failed, unknown_type}
use Rattle.der_c.specs.Writing.{IsPut}

-- the path of what is wrong with bytes as a message of the type was appended, or an allocation failed
pub data IsPathWritten (t : MessageType) (bytes old new : List ℕ) (before after code : ℕ) : Type 0 where
  path : (text : List ℕ) → IsPathOf t bytes text → IsPut text old new before after code
      → IsPathWritten t bytes old new before after code
  no_memory : new ≡ old → after ≡ before → code ≡ memory_failed → IsPathWritten t bytes old new before after code

abbrev pub IsPathPut : Option MessageType → List ℕ → List ℕ → List ℕ → ℕ → ℕ → ℕ → Type 0
IsPathPut None bytes old new before after code = (new ≡ old) × (after ≡ before) × (code ≡ unknown_type)
IsPathPut (Some t) bytes old new before after code = IsPathWritten t bytes old new before after code
