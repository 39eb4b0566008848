-- The objects of JSON, with their members in the order of the names.
use Rattle.std.specs.Prelude.{ℕ, false, List, Option, None, Some, codes, option_map, string_bytes}
use Rattle.hex.specs.Hex.{encode_lower}
use Rattle.serde_json.specs.Data.{Data, null, boolean, number, unsigned, string, object, member, no_members}
use Rattle.der_signers.specs.declared.comparison.ContentComparison.{ContentComparison}
use Rattle.der_signers.specs.declared.comparison.DigestComparison.{DigestComparison}
use Rattle.der_signers.specs.declared.message.Message.{Message}
use Rattle.der_signers.specs.declared.reason.Reason.{Reason}
use Rattle.der_signers.specs.declared.report.Report.{Report}
use Rattle.der_signers.specs.declared.report.Signed.{Signed}
use Rattle.der_signers.specs.declared.report.Signed.TheVariants as signed
use Rattle.der_signers.specs.declared.who.CertificateName.{CertificateName}
use Rattle.der_signers.specs.declared.who.Who.{Who}
use Rattle.der_signers.specs.declared.who.Who.TheVariants.{Certificate, KeyIdentifier}
use Rattle.der_signers.specs.Comparison.{digest_word, type_word, attributes_word, content_word, listed_word, hint_of}

abbrev pub number_data : Option ℕ → Data
number_data (Some n) = number (unsigned n)
number_data None = null

-- ---- a signer

-- the issuer and the serial number, and the names of the algorithms
abbrev pub certificate_data : CertificateName → List ℕ → List ℕ → Data
certificate_data name digest signature =
    object
    (member (codes "digestAlgorithm") (string digest)
    (member (codes "issuer") (string (string_bytes name.issuer))
    (member (codes "serialNumber") (string (encode_lower name.serial_number.items))
    (member (codes "signatureAlgorithm") (string signature) no_members))))

-- the issuer and the serial number or the key identifier, and the names of the algorithms
abbrev pub who_data : Who → List ℕ → List ℕ → Data
who_data (Certificate name) digest signature = certificate_data name digest signature
who_data (KeyIdentifier identifier) digest signature =
    object
    (member (codes "digestAlgorithm") (string digest)
    (member (codes "signatureAlgorithm") (string signature)
    (member (codes "subjectKeyIdentifier") (string (encode_lower identifier.items)) no_members)))

abbrev pub content_data : Option ContentComparison → Data
content_data (Some comparison) = string (content_word comparison)
content_data None = null

abbrev pub hint_in : Option (List ℕ) → Data
hint_in (Some words) = string words
hint_in None = null

abbrev pub hint_data : DigestComparison → Data
hint_data comparison = hint_in (hint_of comparison)

-- what came of each comparison
abbrev pub comparisons_data : Option ContentComparison → Report → Data
comparisons_data content r =
    object
    (member (codes "attributes") (string (attributes_word r.attributes))
    (member (codes "content") (content_data content)
    (member (codes "contentType") (string (type_word r.content_type))
    (member (codes "digestAlgorithms") (string (listed_word r.is_listed))
    (member (codes "hint") (hint_data r.message_digest)
    (member (codes "messageDigest") (string (digest_word r.message_digest)) no_members))))))

abbrev pub digest_data : Option (List ℕ) → Data
digest_data (Some digest) = string (encode_lower digest)
digest_data None = null

-- the digest of what is signed: of the signed attributes, or of the content
abbrev pub digests_data : Signed → Option (List ℕ) → Data
digests_data signed.Attributes digest =
    object (member (codes "content") null (member (codes "signedAttributes") (digest_data digest) no_members))
digests_data signed.Content digest =
    object (member (codes "content") (digest_data digest) (member (codes "signedAttributes") null no_members))

-- the signer with this index, counted from 0
abbrev pub signer_data : List ℕ → Option ℕ → Option ContentComparison → ℕ → Report → Data
signer_data file block content index r =
    object
    (member (codes "block") (number_data block)
    (member (codes "comparisons") (comparisons_data content r)
    (member (codes "digests") (digests_data r.signed (option_map (λ d. d.items) r.signed_digest))
    (member (codes "file") (string file)
    (member (codes "signer") (who_data r.who (string_bytes r.digest) (string_bytes r.signature))
    (member (codes "signerIndex") (number (unsigned index)) (member (codes "verified") (boolean false) no_members)))))))

-- ---- a message

-- one without signers
abbrev pub no_signers_data : List ℕ → Option ℕ → Message → Data
no_signers_data file block m =
    object
    (member (codes "block") (number_data block)
    (member (codes "certificates") (number (unsigned m.certificates))
    (member (codes "content") (content_data m.content)
    (member (codes "file") (string file)
    (member (codes "lists") (number (unsigned m.lists))
    (member (codes "signers") (number (unsigned 0)) (member (codes "verified") (boolean false) no_members)))))))

-- one that is refused
abbrev pub refused_data : List ℕ → Option ℕ → Reason → Data
refused_data file block reason =
    object
    (member (codes "block") (number_data block)
    (member (codes "file") (string file)
    (member (codes "offset") (number_data reason.offset)
    (member (codes "refused") (string (string_bytes reason.text))
    (member (codes "verified") (boolean false) no_members)))))
