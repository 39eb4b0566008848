-- What `write` is asked for, and what it writes.
use Rattle.std.specs.Prelude.{◌≡◌, ◌≢◌, ℕ, List, [], ◌∷◌, Option, codes}
use Rattle.std.specs.Io.KnownBytes.{Appends}
use Rattle.der_read.specs.declared.message_type.MessageType.{MessageType}
use Rattle.der_read.specs.JsonMessages.{IsMessageOfJson}
use Rattle.der_read.specs.Paths.{HasNoSchema}
use Rattle.der_read.specs.Types.{word_of}
use Rattle.der.specs.declared.write.WriteRequest.{WriteRequest}
use Rattle.der.specs.declared.write.Written.{Written}
use Rattle.der.specs.declared.write.Written.TheVariants as written

-- ---- the words

-- a type and a file, or a type alone, with standard input
abbrev pub IsWriteRequest : List (List ℕ) → WriteRequest → Type 0
IsWriteRequest [] r = ⊥
IsWriteRequest (word ∷ []) r = (word_of r.named ≡ word) × (r.file.now ≡ codes "-")
IsWriteRequest (word ∷ (file ∷ [])) r = (word_of r.named ≡ word) × (r.file.now ≡ file)
IsWriteRequest (word ∷ (file ∷ (more ∷ others))) r = ⊥

-- a word that names no type, or another number of words than one or two
abbrev pub IsNoWriteRequest : List (List ℕ) → Type 0
IsNoWriteRequest [] = Unit {0}
IsNoWriteRequest (word ∷ []) = (t : MessageType) → word_of t ≢ word
IsNoWriteRequest (word ∷ (file ∷ [])) = (t : MessageType) → word_of t ≢ word
IsNoWriteRequest (word ∷ (file ∷ (more ∷ others))) = Unit {0}

-- ---- the output

-- a message with this JSON was written, or nothing
abbrev pub IsWritten : MessageType → List ℕ → Option (List ℕ) → Option (List ℕ) → Written → Type 0
IsWritten t json old new written.Message = (bytes : List ℕ) × (IsMessageOfJson t json bytes × Appends old new bytes)
IsWritten t json old new written.NoSchema = HasNoSchema t × (new ≡ old)
IsWritten t json old new (written.Refused reason) = new ≡ old
