-- What a code and a position say of bytes.
use Rattle.std.specs.Prelude.{◌≡◌, ◌≢◌, ℕ, ◌≤◌, List, length}
use Rattle.picky_der_de.specs.declared.whole_input.DecodeError.{DecodeError}
use Rattle.der_show.specs.declared.outline.Complaint.{Complaint}
use Rattle.der_show.specs.Outlines.{AreElements, IsComplaint}
use Rattle.der_read.specs.Described.{Description}
use Rattle.der_read.specs.Message.{IsMessageOf, IsRefused}
use Rattle.der_c.specs.Codes.{ok, memory_failed, error_code, rule_code}

-- the bytes are the encoding of a value of the type, and each element in them is in DER, also where the type leaves a
-- part open
pub record IsMessageInDer (d : Description) (bytes : List ℕ) : Type 0 where
  pub message : IsMessageOf d bytes
  pub in_der : AreElements bytes

-- what was found in the bytes, by this code and up to this position
pub data IsFinding (d : Description) (bytes : List ℕ) (code position : ℕ) : Type 0 where
  -- the message, and the position is their end
  message : IsMessageOf d bytes → AreElements bytes → code ≡ ok → position ≡ length bytes
      → IsFinding d bytes code position
  -- the encoding of no value of the type
  refused : (r : DecodeError) → IsRefused d bytes r → code ≡ error_code r.error → position ≡ r.position
      → IsFinding d bytes code position
  -- such an encoding, but the element at the position breaks a rule
  broken : (c : Complaint) → IsMessageOf d bytes → IsComplaint bytes c → code ≡ rule_code c.rule → position ≡ c.offset
      → IsFinding d bytes code position
  -- nothing is known
  no_memory : code ≡ memory_failed → position ≡ 0 → IsFinding d bytes code position

pub record IsVerdict (d : Description) (bytes : List ℕ) (code position : ℕ) : Type 0 where
  -- 0 says that the bytes are a message in DER
  pub accepted : code ≡ ok → IsMessageInDer d bytes
  -- any other code says that they aren't, unless an allocation failed
  pub refused : code ≢ ok → code ≢ memory_failed → IsMessageInDer d bytes → ⊥
  pub within : position ≤ length bytes
  pub finding : IsFinding d bytes code position
