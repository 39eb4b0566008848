-- Messages in JSON, by the schemas of their types.
use Rattle.std.specs.Prelude.{◌≡◌, ℕ, List, Some, true, ⊤}
use Rattle.serde_json.specs.Data.{Data}
use Rattle.serde_json.specs.Read.{read}
use Rattle.serde_json.specs.View.{view}
use Rattle.der_json.specs.Json.{IsJson}
use Rattle.der_schema.specs.declared.node.Schema.{Schema}
use Rattle.der_show.specs.Outlines.{AreElements}
use Rattle.der_read.specs.declared.from_json.FromJson.{FromJson}
use Rattle.der_read.specs.declared.from_json.FromJson.TheVariants as from_json
use Rattle.der_read.specs.declared.json.MessageJson.{MessageJson}
use Rattle.der_read.specs.declared.json.MessageJson.TheVariants as message_json
use Rattle.der_read.specs.declared.message_type.MessageType.{MessageType}
use Rattle.der_read.specs.Fitting.{IsMessage}
use Rattle.der_read.specs.Paths.{HasNoSchema, IsSchemaOf}

-- the JSON of bytes that are a message of the type, by its schema
pub record IsJsonOf (t : MessageType) (bytes : List ℕ) (d : Data) : Type 0 where
  pub schema : Schema
  pub is_schema : IsSchemaOf t schema
  pub json : IsJson schema.nodes.now schema.root true bytes d

-- what comes of turning them into JSON
abbrev pub IsMessageJson : MessageType → List ℕ → MessageJson → Type 0
IsMessageJson t bytes (message_json.Value v) = IsJsonOf t bytes (view v)
IsMessageJson t bytes message_json.NoSchema = HasNoSchema t
IsMessageJson t bytes (message_json.Refused e) = ⊤

-- ---- the other way

-- the bytes are a message of the type in DER throughout, with the JSON of this text
pub record IsMessageOfJson (t : MessageType) (text bytes : List ℕ) : Type 0 where
  pub value : Data
  pub is : read text ≡ Some value
  pub json : IsJsonOf t bytes value
  pub message : IsMessage t bytes
  pub in_der : AreElements bytes

-- what comes of a text
abbrev pub IsFromJson : MessageType → List ℕ → FromJson → Type 0
IsFromJson t text (from_json.Message v) = IsMessageOfJson t text v.items
IsFromJson t text from_json.NoSchema = HasNoSchema t
IsFromJson t text (from_json.Refused reason) = ⊤

-- what comes of bytes that have some JSON: a message if they are one
pub record AreAccepted (t : MessageType) (bytes kept : List ℕ) : Type 0 where
  pub same : kept ≡ bytes
  pub message : IsMessage t bytes
  pub in_der : AreElements bytes

abbrev pub IsAccepted : MessageType → List ℕ → FromJson → Type 0
IsAccepted t bytes (from_json.Message v) = AreAccepted t bytes v.items
IsAccepted t bytes from_json.NoSchema = ⊥
IsAccepted t bytes (from_json.Refused reason) = ⊤
