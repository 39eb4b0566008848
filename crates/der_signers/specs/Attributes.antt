-- The signed attributes of a signer (RFC 5652, 5.3, 11.1 and 11.2).
use Rattle.std.specs.Prelude.{◌≡◌, ℕ, Bool, true, ◌&&◌, if◌then◌else◌, ◌⊎◌, List, [], ◌∷◌, Option, None, Some}
use Rattle.std.specs.Prelude.{option_map, map, nat_eq, All, count_by, MatchBool}
use Rattle.std.specs.Cmp.Lexicographic.{pointwise}
use Rattle.std.specs.List.{list_any}
use Rattle.picky_der_core.specs.Primitive.{Primitive}
use Rattle.picky_der_core.specs.Tree.{ListKind, Tree}
use Rattle.picky_der_core.specs.Encoding.{der}
use Rattle.picky_der_ser.specs.Meaning.{list_meaning}
use Rattle.der_elements.specs.Elements.{element_bytes}
use Rattle.der_cms.specs.declared.cryptographic_message_syntax2004.Attribute.{Attribute}
use Rattle.der_cms.specs.declared.signed_data.SignerInfo.{SignerInfo}
use Rattle.der_cms.specs.contracts.cryptographic_message_syntax2004.AttributeSerialize.TheImpl as attribute
use Rattle.der_signers.specs.declared.comparison.TypeComparison.{TypeComparison}
use Rattle.der_signers.specs.declared.comparison.TypeComparison.TheVariants as type
use Rattle.der_signers.specs.declared.comparison.RequiredAttributes.{RequiredAttributes}
use Rattle.der_signers.specs.declared.comparison.RequiredAttributes.TheVariants.{Complete, Incomplete, Missing}
use Rattle.der_signers.specs.declared.comparison.RequiredAttributes.TheVariants.{NotNeeded}
use Rattle.der_signers.specs.Digest.{content_of}

-- the signed attributes, if there are any
abbrev pub attributes_of : SignerInfo → Option (List Attribute)
attributes_of s = option_map (λ a. a.0.value.0.items) s.signed_attrs

-- the content of `id-contentType`, 1.2.840.113549.1.9.3
abbrev pub content_type_identifier : List ℕ
content_type_identifier = 0x2A ∷ 0x86 ∷ 0x48 ∷ 0x86 ∷ 0xF7 ∷ 0x0D ∷ 0x01 ∷ 0x09 ∷ 0x03 ∷ []

-- the content of `id-messageDigest`, 1.2.840.113549.1.9.4
abbrev pub message_digest_identifier : List ℕ
message_digest_identifier = 0x2A ∷ 0x86 ∷ 0x48 ∷ 0x86 ∷ 0xF7 ∷ 0x0D ∷ 0x01 ∷ 0x09 ∷ 0x04 ∷ []

-- the type of the attribute is the object identifier with this content
abbrev pub is_kind : List ℕ → Attribute → Bool
is_kind kind a = pointwise nat_eq (content_of a.attr_type) kind

abbrev pub has_kind : List ℕ → List Attribute → Bool
has_kind kind attributes = list_any (is_kind kind) attributes

-- the elements that are an attribute's values
abbrev pub values_of : Attribute → List (List ℕ)
values_of a = map element_bytes a.attr_values.0.items

-- if it is of this kind, this element is its only value
abbrev pub Agrees : List ℕ → List ℕ → Attribute → Type 0
Agrees kind value a = is_kind kind a ≡ true → values_of a ≡ value ∷ []

-- exactly one of the attributes is of this kind, and this element is its only value
pub record HasOnlyValue (kind value : List ℕ) (attributes : List Attribute) : Type 0 where
  pub one : count_by (is_kind kind) attributes ≡ 1
  pub only : All (Agrees kind value) attributes

-- ---- the attribute `messageDigest`

-- an OCTET STRING
abbrev pub octet_string : List ℕ → List ℕ
octet_string octets = der (Tree.primitive (Primitive.bytes 0x04 octets))

-- exactly one of the attributes is a `messageDigest`, and this digest is its only value
abbrev pub HasMessageDigest : List Attribute → List ℕ → Type 0
HasMessageDigest attributes digest = HasOnlyValue message_digest_identifier (octet_string digest) attributes

-- ---- the attribute `contentType`

-- the object identifier with this content
abbrev pub object_identifier : List ℕ → List ℕ
object_identifier content = der (Tree.primitive (Primitive.bytes 0x06 content))

-- with such attributes: exactly one is there, and this element is its only value, or not
abbrev pub IsTypeDecided : Type 0 → TypeComparison → Type 0
IsTypeDecided has c = ((c ≡ type.Same) × has) ⊎ ((c ≡ type.Different) × (has → ⊥))

abbrev pub IsTypeComparison : Option (List Attribute) → List ℕ → TypeComparison → Type 0
IsTypeComparison None element c = c ≡ type.Absent
IsTypeComparison (Some attributes) element c =
    MatchBool (has_kind content_type_identifier attributes)
    (IsTypeDecided (HasOnlyValue content_type_identifier element attributes) c) (c ≡ type.Absent)

-- ---- the attributes that must be there (5.3)

abbrev pub completeness : List Attribute → RequiredAttributes
completeness attributes = if has_kind content_type_identifier attributes && has_kind message_digest_identifier
    attributes then Complete else Incomplete

-- for a content of type `id-data`, or of another one
abbrev pub required_attributes : Option (List Attribute) → Bool → RequiredAttributes
required_attributes None is_data = if is_data then NotNeeded else Missing
required_attributes (Some attributes) is_data = completeness attributes

-- ---- what is signed

-- the signed attributes as a SET OF, with the tag 31 (5.4)
abbrev pub set_of : List Attribute → Tree
set_of attributes = list_meaning ListKind.set attribute.ghosts.meaning attributes
