-- What comes of reading bytes as a message.
use Rattle.std.specs.Prelude.{◌≡◌, ◌≢◌, ℕ, ◌+◌, ◌-◌, List, [], ◌∷◌, length}
use Rattle.picky_der_core.specs.declared.error.Asn1DerError.TheVariants.{OutOfMemory}
use Rattle.picky_der_de.specs.declared.whole_input.DecodeError.{DecodeError}
use Rattle.picky_der_de.specs.Whole.{IsWhole, IsNoEncoding}
use Rattle.der_elements.specs.Elements.{element_bytes}
use Rattle.der_types.specs.declared.object_identifier.ObjectIdentifier.{ObjectIdentifier}
use Rattle.der_cms.specs.declared.cryptographic_message_syntax2004.ContentInfo.{ContentInfo}
use Rattle.der_cms.specs.declared.signed_data.SignedData.{SignedData}
use Rattle.der_cms.specs.contracts.cryptographic_message_syntax2004.ContentInfoSerialize.TheImpl as content_info_written
use Rattle.der_cms.specs.contracts.cryptographic_message_syntax2004.ContentInfoDeserialize.TheImpl as content_info_read
use Rattle.der_cms.specs.contracts.cryptographic_message_syntax2004.ContentInfoPartialEq.TheImpl as
    content_info_compared
use Rattle.der_cms.specs.contracts.signed_data.SignedDataSerialize.TheImpl as signed_data_written
use Rattle.der_cms.specs.contracts.signed_data.SignedDataDeserialize.TheImpl as signed_data_read
use Rattle.der_cms.specs.contracts.signed_data.SignedDataPartialEq.TheImpl as signed_data_compared
use Rattle.der_signers.specs.declared.message.Message.{Message}
use Rattle.der_signers.specs.declared.request.Request.{Request}
use Rattle.der_signers.specs.declared.outcome.Refusal.{Refusal}
use Rattle.der_signers.specs.declared.outcome.Refusal.TheVariants as refusal
use Rattle.der_signers.specs.declared.outcome.Outcome.{Outcome}
use Rattle.der_signers.specs.declared.outcome.Outcome.TheVariants as outcome
use Rattle.der_signers.specs.Digest.{content_of}
use Rattle.der_signers.specs.Message.{own_content, given_content, IsMessageOf}

-- ---- the two layers of a message (RFC 5652, 3 and 5.1)

-- the message whose encoding the bytes are
abbrev pub IsContentInfo : List ℕ → ContentInfo → Type 0
IsContentInfo bytes m = IsWhole content_info_written.ghosts.meaning content_info_read.ghosts.shape
    content_info_compared.ghosts.eq bytes m

-- they are none's, as was found at this position
abbrev pub IsNoContentInfo : List ℕ → DecodeError → Type 0
IsNoContentInfo bytes r = IsNoEncoding content_info_written.ghosts.meaning content_info_read.ghosts.shape bytes r.error
    r.position

-- the content of a message
abbrev pub content_bytes : ContentInfo → List ℕ
content_bytes m = element_bytes m.content.0

-- the signed data whose encoding the bytes are
abbrev pub IsSignedData : List ℕ → SignedData → Type 0
IsSignedData bytes d = IsWhole signed_data_written.ghosts.meaning signed_data_read.ghosts.shape
    signed_data_compared.ghosts.eq bytes d

abbrev pub IsNoSignedData : List ℕ → DecodeError → ℕ → Type 0
IsNoSignedData bytes r position = IsNoEncoding signed_data_written.ghosts.meaning signed_data_read.ghosts.shape bytes
    r.error position

-- the content of `id-signedData`, 1.2.840.113549.1.7.2
abbrev pub signed_data_identifier : List ℕ
signed_data_identifier = 0x2A ∷ 0x86 ∷ 0x48 ∷ 0x86 ∷ 0xF7 ∷ 0x0D ∷ 0x01 ∷ 0x07 ∷ 0x02 ∷ []

-- ---- the outcomes

-- the bytes are a message with signed data, and this is what is found of it
pub record IsMessage (bytes : List ℕ) (request : Request) (m : Message) : Type 0 where
  pub message : ContentInfo
  pub whole : IsContentInfo bytes message
  pub kind : content_of message.content_type ≡ signed_data_identifier
  pub signed_data : SignedData
  pub signed : IsSignedData (content_bytes message) signed_data
  pub is : IsMessageOf signed_data (own_content request signed_data) (given_content request) m

-- the bytes are no message
pub record IsOther (bytes : List ℕ) (r : DecodeError) : Type 0 where
  pub refused : IsNoContentInfo bytes r
  pub memory : r.error ≢ OutOfMemory

-- the bytes are a message whose content has this type, and not that of signed data
pub record HasOtherContent (bytes : List ℕ) (kind : ObjectIdentifier) : Type 0 where
  pub message : ContentInfo
  pub whole : IsContentInfo bytes message
  pub same : message.content_type ≡ kind
  pub other : content_of kind ≢ signed_data_identifier

-- The bytes are a message whose content is none of signed data, though it has its type. The content is at the end of
-- the message, and the position counts from the front.
pub record HasNoSignedData (bytes : List ℕ) (r : DecodeError) : Type 0 where
  pub message : ContentInfo
  pub whole : IsContentInfo bytes message
  pub kind : content_of message.content_type ≡ signed_data_identifier
  pub position : ℕ
  pub refused : IsNoSignedData (content_bytes message) r position
  pub at : r.position ≡ (length bytes - length (content_bytes message)) + position
  pub memory : r.error ≢ OutOfMemory

abbrev pub IsRefusal : List ℕ → Refusal → Type 0
IsRefusal bytes (refusal.NoContentInfo r) = IsOther bytes r
IsRefusal bytes (refusal.OtherContent kind) = HasOtherContent bytes kind
IsRefusal bytes (refusal.NoSignedData r) = HasNoSignedData bytes r

abbrev pub IsOutcome : List ℕ → Request → Outcome → Type 0
IsOutcome bytes request (outcome.Read m) = IsMessage bytes request m
IsOutcome bytes request (outcome.Refused r) = IsRefusal bytes r
