-- Messages in BER, by the tables of their types.
use Rattle.std.specs.Prelude.{◌≡◌, ◌≢◌, ℕ, List, [], ◌∷◌, ⊤}
use Rattle.der_ber_types.specs.declared.message.ContentType.{ContentType}
use Rattle.der_ber_types.specs.Errors.{IsRefusedByType}
use Rattle.der_ber_types.specs.Message.{IsMessageBer}
use Rattle.der_ber_types.specs.ToDer.{IsBer}
use Rattle.der_schema.specs.declared.node.Schema.{Schema}
use Rattle.der_show.specs.Outlines.{AreElements}
use Rattle.der_read.specs.declared.from_ber.FromBer.{FromBer}
use Rattle.der_read.specs.declared.from_ber.FromBer.TheVariants as from_ber
use Rattle.der_read.specs.declared.in_der.InDer.{InDer}
use Rattle.der_read.specs.declared.in_der.InDer.TheVariants as found
use Rattle.der_read.specs.declared.message_type.MessageType.{MessageType}
use Rattle.der_read.specs.declared.message_type.MessageType.TheVariants as named
use Rattle.der_read.specs.Fitting.{IsMessage}
use Rattle.der_read.specs.Paths.{HasNoSchema, IsSchemaOf}

-- ---- the contents of CMS

-- a type of contents has this identifier, and the table of this type
abbrev pub IsContent : List ℕ → MessageType → ContentType → Type 0
IsContent identifier t content = (content.identifier.now ≡ identifier) × IsSchemaOf t content.schema

-- the contents of their identifiers (RFC 5652, 5.1, 6.1, 7, 8 and 9.1; RFC 5083, 2.1)
abbrev pub id_signed_data : List ℕ
id_signed_data = 0x2A ∷ 0x86 ∷ 0x48 ∷ 0x86 ∷ 0xF7 ∷ 0x0D ∷ 0x01 ∷ 0x07 ∷ 0x02 ∷ []

abbrev pub id_enveloped_data : List ℕ
id_enveloped_data = 0x2A ∷ 0x86 ∷ 0x48 ∷ 0x86 ∷ 0xF7 ∷ 0x0D ∷ 0x01 ∷ 0x07 ∷ 0x03 ∷ []

abbrev pub id_digested_data : List ℕ
id_digested_data = 0x2A ∷ 0x86 ∷ 0x48 ∷ 0x86 ∷ 0xF7 ∷ 0x0D ∷ 0x01 ∷ 0x07 ∷ 0x05 ∷ []

abbrev pub id_encrypted_data : List ℕ
id_encrypted_data = 0x2A ∷ 0x86 ∷ 0x48 ∷ 0x86 ∷ 0xF7 ∷ 0x0D ∷ 0x01 ∷ 0x07 ∷ 0x06 ∷ []

abbrev pub id_authenticated_data : List ℕ
id_authenticated_data = 0x2A ∷ 0x86 ∷ 0x48 ∷ 0x86 ∷ 0xF7 ∷ 0x0D ∷ 0x01 ∷ 0x09 ∷ 0x10 ∷ 0x01 ∷ 0x02 ∷ []

abbrev pub id_auth_enveloped_data : List ℕ
id_auth_enveloped_data = 0x2A ∷ 0x86 ∷ 0x48 ∷ 0x86 ∷ 0xF7 ∷ 0x0D ∷ 0x01 ∷ 0x09 ∷ 0x10 ∷ 0x01 ∷ 0x17 ∷ []

-- those that have a table
pub record AreContents (types : List ContentType) : Type 0 where
  pub signed : ContentType
  pub enveloped : ContentType
  pub digested : ContentType
  pub encrypted : ContentType
  pub authenticated : ContentType
  pub auth_enveloped : ContentType
  pub are : types ≡ signed ∷ enveloped ∷ digested ∷ encrypted ∷ authenticated ∷ auth_enveloped ∷ []
  pub is_signed : IsContent id_signed_data named.SignedData signed
  pub is_enveloped : IsContent id_enveloped_data named.EnvelopedData enveloped
  pub is_digested : IsContent id_digested_data named.DigestedData digested
  pub is_encrypted : IsContent id_encrypted_data named.EncryptedData encrypted
  pub is_authenticated : IsContent id_authenticated_data named.AuthenticatedData authenticated
  pub is_auth_enveloped : IsContent id_auth_enveloped_data named.AuthEnvelopedData auth_enveloped

-- ---- the DER

-- The bytes are BER of a value of the type, by its table, and the others are the same value's in DER. The content of a
-- message of CMS is read by its own type.
pub data IsBerOf (t : MessageType) (bytes der : List ℕ) : Type 0 where
  message : (types : List ContentType) → t ≡ named.Cms → AreContents types → IsMessageBer types bytes der
      → IsBerOf t bytes der
  value : (schema : Schema) → t ≢ named.Cms → IsSchemaOf t schema → IsBer schema.nodes.now schema.root bytes der
      → IsBerOf t bytes der

-- what comes of turning bytes into DER
abbrev pub IsInDer : MessageType → List ℕ → InDer → Type 0
IsInDer t bytes (found.Message v) = IsBerOf t bytes v.items
IsInDer t bytes found.NoSchema = HasNoSchema t
IsInDer t bytes (found.Refused e) = IsRefusedByType bytes e

-- ---- messages

-- the others are a message of the type in DER throughout, of which the bytes are BER
pub record IsMessageOfBer (t : MessageType) (bytes der : List ℕ) : Type 0 where
  pub ber : IsBerOf t bytes der
  pub message : IsMessage t der
  pub in_der : AreElements der

-- what comes of bytes that are to be a message in BER
abbrev pub IsFromBer : MessageType → List ℕ → FromBer → Type 0
IsFromBer t bytes (from_ber.Message v) = IsMessageOfBer t bytes v.items
IsFromBer t bytes from_ber.NoSchema = HasNoSchema t
IsFromBer t bytes (from_ber.Refused reason) = ⊤
