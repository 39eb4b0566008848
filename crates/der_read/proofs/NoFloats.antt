-- The object of JSON for a message has no float.
use Rattle.std.proofs.Common.{◌≡◌, ℕ, false, List, [], ◌∷◌, length, map, Option, Some, None, refl}
use Rattle.serde_json.specs.Data.{Data}
use Rattle.serde_json.specs.View.{items_of}
use Rattle.serde_json.specs.Written.{has_float, items_have_float}
use Rattle.der_read.specs.declared.message_type.MessageType.{MessageType}
use Rattle.der_read.specs.Place.{block_data}
use Rattle.der_read.proofs.JsonFloats.{json_no_float}
use Rattle.der_read.specs.Printed.{word_data, plain_data, valued_data, unvalued_data, IsMessageData}

block_no_float : (block : Option ℕ) → has_float (block_data block) ≡ false
block_no_float None = refl
block_no_float (Some number) = refl

words_no_float : (types : List MessageType) → items_have_float (items_of (map word_data types)) ≡ false
words_no_float [] = refl
words_no_float (type ∷ types) = words_no_float types

module _ (file : List ℕ) (block : Option ℕ) where
  plain_no_float : (size : ℕ) (types : List MessageType) → has_float (plain_data file block size types) ≡ false
  plain_no_float size types = rw (block_no_float block, words_no_float types)

  valued_no_float : (size : ℕ) (types : List MessageType) (value : Data) → has_float value ≡ false
      → has_float (valued_data file block size types value) ≡ false
  valued_no_float size types value none = rw (block_no_float block, words_no_float types, none)

  unvalued_no_float : (size : ℕ) (types : List MessageType) (reason : List ℕ)
      → has_float (unvalued_data file block size types reason) ≡ false
  unvalued_no_float size types reason = rw (block_no_float block, words_no_float types)

  pub message_no_float : (bytes : List ℕ) (types : List MessageType) (d : Data)
      → IsMessageData file block bytes types d → has_float d ≡ false
  message_no_float bytes types d (IsMessageData.of_no_type none is) = rw is (plain_no_float (length bytes) types)
  message_no_float bytes types d (IsMessageData.plain t first no_schema is) =
      rw is (plain_no_float (length bytes) types)
  message_no_float bytes types d (IsMessageData.valued t value first json is) =
      rw is (valued_no_float (length bytes) types value (json_no_float _ _ _ _ _ json.json))
  message_no_float bytes types d (IsMessageData.unvalued reason is) =
      rw is (unvalued_no_float (length bytes) types reason)
