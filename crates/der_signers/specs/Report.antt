-- What is found of a signer (RFC 5652, 5.3 and 5.4).
use Rattle.std.specs.Prelude.{◌≡◌, ℕ, Bool, ◌||◌, if◌then◌else◌, ◌⊎◌, List, [], ◌∷◌, Option, None, Some, IfSome, All}
use Rattle.std.specs.Prelude.{option_map, nat_eq, string_bytes}
use Rattle.std.specs.Cmp.Lexicographic.{pointwise}
use Rattle.std.specs.List.{list_any}
use Rattle.picky_der_core.specs.Encoding.{der}
use Rattle.picky_der_core.specs.Readable.{IsWritable}
use Rattle.der_types.specs.contracts.generated.object_identifier.ObjectIdentifierSerialize.TheImpl as identifier
use Rattle.der_x509.specs.declared.keys.AlgorithmIdentifier.{AlgorithmIdentifier}
use Rattle.der_cms.specs.declared.cryptographic_message_syntax2004.Attribute.{Attribute}
use Rattle.der_cms.specs.declared.signed_data.SignedData.{SignedData}
use Rattle.der_cms.specs.declared.signed_data.SignerInfo.{SignerInfo}
use Rattle.der_signers.specs.declared.digest.DigestAlgorithm.{DigestAlgorithm}
use Rattle.der_signers.specs.declared.comparison.DigestComparison.{DigestComparison}
use Rattle.der_signers.specs.declared.comparison.DigestComparison.TheVariants.{Same, OtherLineEnds, Different}
use Rattle.der_signers.specs.declared.comparison.DigestComparison.TheVariants.{NoAttributes, UnknownAlgorithm}
use Rattle.der_signers.specs.declared.comparison.DigestComparison.TheVariants.{NoContent}
use Rattle.der_signers.specs.declared.report.Report.{Report}
use Rattle.der_signers.specs.declared.report.Signed.{Signed}
use Rattle.der_signers.specs.declared.report.Signed.TheVariants as signed
use Rattle.der_signers.specs.Algorithm.{algorithm_text}
use Rattle.der_signers.specs.Attributes.{attributes_of, HasMessageDigest, IsTypeComparison, object_identifier}
use Rattle.der_signers.specs.Attributes.{required_attributes, set_of}
use Rattle.der_signers.specs.Digest.{content_of, digest_of, IsAlgorithmOf}
use Rattle.der_signers.specs.LineEnds.{canonical}
use Rattle.der_signers.specs.Who.{IsWho}

-- ---- what can be written, as all that was read

-- the signed attributes of a signer
abbrev pub IsWritableSigner : SignerInfo → Type 0
IsWritableSigner s = IfSome (attributes_of s) (λ attributes. IsWritable (set_of attributes))

-- those of each signer, and the type of the content
pub record AreWritable (d : SignedData) : Type 0 where
  pub signers : All IsWritableSigner d.signer_infos.0.items
  pub content_type : IsWritable (identifier.ghosts.meaning d.encap_content_info.e_content_type)

-- ---- the attribute `messageDigest` (5.4 and 11.2)

-- it is the digest of the content; else that of the content with CR LF at the end of each line; else neither
abbrev pub IsDecided : Type 0 → Type 0 → DigestComparison → Type 0
IsDecided has has_canonical c =
    ((c ≡ Same) × has)
    ⊎ (((c ≡ OtherLineEnds) × (has → ⊥) × has_canonical) ⊎ ((c ≡ Different) × (has → ⊥) × (has_canonical → ⊥)))

-- by the attributes, the algorithm and the content, as far as they are there
abbrev pub IsComparison : Option (List Attribute) → Option DigestAlgorithm → Option (List ℕ) → DigestComparison → Type 0
IsComparison None algorithm content c = c ≡ NoAttributes
IsComparison (Some attributes) None content c = c ≡ UnknownAlgorithm
IsComparison (Some attributes) (Some algorithm) None c = c ≡ NoContent
IsComparison (Some attributes) (Some algorithm) (Some content) c =
    IsDecided (HasMessageDigest attributes (digest_of algorithm content))
    (HasMessageDigest attributes (digest_of algorithm (canonical content))) c

-- ---- the type of the content (5.3 and 11.1)

-- its encoding
abbrev pub type_encoding : SignedData → List ℕ
type_encoding d = object_identifier (content_of d.encap_content_info.e_content_type)

-- it is `id-data`, 1.2.840.113549.1.7.1
abbrev pub is_data : SignedData → Bool
is_data d =
    pointwise nat_eq (content_of d.encap_content_info.e_content_type) (0x2A ∷ 0x86 ∷ 0x48 ∷ 0x86 ∷ 0xF7 ∷ 0x0D ∷ 0x01
    ∷ 0x07 ∷ 0x01 ∷ [])

-- ---- the digest algorithms that a message lists (5.1 and 5.3)

abbrev pub is_algorithm : List ℕ → AlgorithmIdentifier → Bool
is_algorithm content a = pointwise nat_eq (content_of a.algorithm) content

abbrev pub is_listed : SignedData → List ℕ → Bool
is_listed d content = list_any (is_algorithm content) d.digest_algorithms.0.items

-- ---- what is signed (5.4)

abbrev pub signed_part : Option (List Attribute) → Signed
signed_part (Some attributes) = signed.Attributes
signed_part None = signed.Content

-- the bytes that are signed: the encoding of the attributes as a SET OF, or the content if there are none
abbrev pub signed_bytes : Option (List Attribute) → Option (List ℕ) → Option (List ℕ)
signed_bytes (Some attributes) content = Some (der (set_of attributes))
signed_bytes None content = content

-- their digest
abbrev pub digest_signed : Option (List Attribute) → Option DigestAlgorithm → Option (List ℕ) → Option (List ℕ)
digest_signed attributes None content = None
digest_signed attributes (Some algorithm) content = option_map (digest_of algorithm) (signed_bytes attributes content)

-- Ed25519, 1.3.101.112, and Ed448, 1.3.101.113 (RFC 8419, 2.3 and 3.1)
abbrev pub signs_without_digest : List ℕ → Bool
signs_without_digest content = pointwise nat_eq content (0x2B ∷ 0x65 ∷ 0x70 ∷ []) || pointwise nat_eq content
    (0x2B ∷ 0x65 ∷ 0x71 ∷ [])

-- the digest of what is signed, if a digest is
abbrev pub signed_digest : SignerInfo → Option DigestAlgorithm → Option (List ℕ) → Option (List ℕ)
signed_digest s algorithm content =
    if signs_without_digest (content_of s.signature_algorithm.algorithm) then None else digest_signed (attributes_of s)
    algorithm content

-- ---- the report on a signer of this data, for the content that is at hand

pub record IsReport (d : SignedData) (content : Option (List ℕ)) (s : SignerInfo) (r : Report) : Type 0 where
  pub algorithm : Option DigestAlgorithm
  pub is_algorithm : IsAlgorithmOf s.digest_algorithm.algorithm algorithm
  pub who : IsWho s.sid r.who
  pub digest : string_bytes r.digest ≡ algorithm_text (content_of s.digest_algorithm.algorithm)
  pub signature : string_bytes r.signature ≡ algorithm_text (content_of s.signature_algorithm.algorithm)
  pub message_digest : IsComparison (attributes_of s) algorithm content r.message_digest
  pub content_type : IsTypeComparison (attributes_of s) (type_encoding d) r.content_type
  pub attributes : r.attributes ≡ required_attributes (attributes_of s) (is_data d)
  pub listed : r.is_listed ≡ is_listed d (content_of s.digest_algorithm.algorithm)
  pub signed : r.signed ≡ signed_part (attributes_of s)
  pub signed_digest : option_map (λ d. d.items) r.signed_digest ≡ signed_digest s algorithm content
