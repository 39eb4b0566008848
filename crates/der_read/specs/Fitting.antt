-- The types of which bytes are a message.
use Rattle.std.specs.Prelude.{ℕ, List, [], ◌∷◌}
use Rattle.der_read.specs.declared.message_type.MessageType.{MessageType}
use Rattle.der_read.specs.contracts.message_type.MessageTypeDescribed.TheImpl as known
use Rattle.der_read.specs.Message.{IsMessageOf}

-- the bytes are a message of this type
abbrev pub IsMessage : MessageType → List ℕ → Type 0
IsMessage type bytes = IsMessageOf (known.ghosts.description type) bytes

-- of these types, in this order, those of which the bytes are a message
pub data AreFitting (bytes : List ℕ) : List MessageType → List MessageType → Type 0 where
  none : AreFitting bytes [] []
  fits : (type : MessageType) (types fitting : List MessageType) → IsMessage type bytes → AreFitting bytes types fitting
      → AreFitting bytes (type ∷ types) (type ∷ fitting)
  differs : (type : MessageType) (types fitting : List MessageType) → (IsMessage type bytes → ⊥)
      → AreFitting bytes types fitting → AreFitting bytes (type ∷ types) fitting
