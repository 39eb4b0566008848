-- A message whose content has the type that an identifier names (RFC 5652, 3).
use Rattle.std.specs.Prelude.{◌≡◌, ℕ, List, [], ◌∷◌, ◌++◌, Option, Some, None, nat_eq, if◌then◌else◌}
use Rattle.std.specs.Cmp.Lexicographic.{pointwise}
use Rattle.picky_der_core.specs.Element.{tlv}
use Rattle.picky_der_core.specs.Tag.{number_of, IsTagNumber}
use Rattle.der_schema.specs.declared.node.Schema.{Schema}
use Rattle.der_ber.specs.WholeStrings.{IsMadeWhole}
use Rattle.der_ber_types.specs.declared.message.ContentType.{ContentType}
use Rattle.der_ber_types.specs.Content.{IsOne}

-- a SEQUENCE of an OBJECT IDENTIFIER and of a content in the explicit tag [0]
abbrev pub message_bytes : List ℕ → List ℕ → List ℕ
message_bytes identifier content = tlv 0x30 (tlv 0x06 identifier ++ tlv 0xA0 content)

-- the schema of the first type with this identifier
abbrev pub schema_in : List ContentType → List ℕ → Option Schema
schema_in [] identifier = None
schema_in (t ∷ ts) identifier =
    if pointwise nat_eq t.identifier.now identifier then Some t.schema else schema_in ts identifier

-- the bytes are one whose content is these bytes in DER
pub record IsWritten (schema : Schema) (identifier content bytes : List ℕ) : Type 0 where
  pub in_der : List ℕ
  pub is_one : IsOne schema.nodes.now schema.root content in_der
  pub is : bytes ≡ message_bytes identifier in_der

-- The bytes are a message, and the others are the same with the content in DER by its type, if that is known.
pub data IsMessage (types : List ContentType) (bytes der : List ℕ) : Type 0 where
  known : (identifier content in_der : List ℕ) (schema : Schema) → bytes ≡ message_bytes identifier content
      → schema_in types identifier ≡ Some schema → IsOne schema.nodes.now schema.root content in_der
      → der ≡ message_bytes identifier in_der → IsMessage types bytes der
  other : (identifier content : List ℕ) → bytes ≡ message_bytes identifier content
      → schema_in types identifier ≡ None → der ≡ bytes → IsMessage types bytes der

-- the bytes are one in BER
pub record IsMessageBer (types : List ContentType) (bytes der : List ℕ) : Type 0 where
  pub whole : List ℕ
  pub has_lengths : IsMadeWhole bytes whole
  pub is_message : IsMessage types whole der

-- they are none
abbrev pub IsNoMessage : List ContentType → List ℕ → Type 0
IsNoMessage types bytes = (der : List ℕ) → IsMessage types bytes der → ⊥

abbrev pub IsNoMessageBer : List ContentType → List ℕ → Type 0
IsNoMessageBer types bytes = (der : List ℕ) → IsMessageBer types bytes der → ⊥

-- not with any identifier and content
abbrev pub HasNoMessageBytes : List ℕ → Type 0
HasNoMessageBytes bytes = (identifier content : List ℕ) → bytes ≡ message_bytes identifier content → ⊥

-- nor one element with this tag
abbrev pub IsNoElementWith : ℕ → List ℕ → Type 0
IsNoElementWith tag bytes = IsTagNumber (number_of tag) → (content : List ℕ) → bytes ≡ tlv tag content → ⊥
