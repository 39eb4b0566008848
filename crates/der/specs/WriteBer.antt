-- What `write --ber` writes.
use Rattle.std.specs.Prelude.{◌≡◌, ℕ, List, [], ◌∷◌, Option, None, Ok, Err}
use Rattle.std.specs.Io.KnownBytes.{Appends}
use Rattle.der_program_base.specs.declared.blocks.Block.{Block}
use Rattle.der_program_base.specs.declared.contents.Contents.{Contents}
use Rattle.der_program_base.specs.declared.contents.Contents.TheVariants.{Der, Pem, Other}
use Rattle.der_program_base.specs.Contents.{IsContentsOf}
use Rattle.der_program_base.specs.Sections.{items_of}
use Rattle.der_read.specs.BerMessages.{IsMessageOfBer}
use Rattle.der_read.specs.declared.message_type.MessageType.{MessageType}
use Rattle.der_read.specs.Paths.{HasNoSchema}
use Rattle.der.specs.declared.write.Written.{Written}
use Rattle.der.specs.declared.write.Written.TheVariants as written

-- nothing was written, for some reason
abbrev pub IsNothingWritten : Option (List ℕ) → Option (List ℕ) → Written → Type 0
IsNothingWritten old new written.Message = ⊥
IsNothingWritten old new written.NoSchema = ⊥
IsNothingWritten old new (written.Refused reason) = new ≡ old

-- a message of which the bytes are BER was written, or nothing
abbrev pub IsBerWritten : MessageType → List ℕ → Option (List ℕ) → Option (List ℕ) → Written → Type 0
IsBerWritten t bytes old new written.Message = (der : List ℕ) × (IsMessageOfBer t bytes der × Appends old new der)
IsBerWritten t bytes old new written.NoSchema = HasNoSchema t × (new ≡ old)
IsBerWritten t bytes old new (written.Refused reason) = new ≡ old

-- the bytes are those of a block
abbrev pub IsBlockWritten : MessageType → Block → Option (List ℕ) → Option (List ℕ) → Written → Type 0
IsBlockWritten t block old new w = elim (items_of block.bytes) [
  | Ok bytes ↦ IsBerWritten t bytes old new w
  | Err fault ↦ IsNothingWritten old new w
]

-- which is the only one
abbrev pub AreBlocksWritten : MessageType → List Block → Option (List ℕ) → Option (List ℕ) → Written → Type 0
AreBlocksWritten t [] old new w = IsNothingWritten old new w
AreBlocksWritten t (block ∷ []) old new w = IsBlockWritten t block old new w
AreBlocksWritten t (block ∷ (other ∷ others)) old new w = IsNothingWritten old new w

abbrev pub AreContentsWritten : MessageType → List ℕ → Contents → Option (List ℕ) → Option (List ℕ) → Written → Type 0
AreContentsWritten t input Der old new w = IsBerWritten t input old new w
AreContentsWritten t input (Pem blocks) old new w = AreBlocksWritten t blocks.blocks.items old new w
AreContentsWritten t input (Other guess) old new w = IsNothingWritten old new w

-- they are the whole input, or those of a block, by what the input is
pub record IsInputWritten (t : MessageType) (input : List ℕ) (old new : Option (List ℕ)) (w : Written) : Type 0 where
  pub contents : Contents
  pub are_contents : IsContentsOf None input contents
  pub written : AreContentsWritten t input contents old new w
