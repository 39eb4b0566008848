-- The names of object identifiers in common use.
use Rattle.std.specs.Prelude.{ℕ, List, [], ◌∷◌, Option, None, Some, codes, nat_eq, if◌then◌else◌}
use Rattle.std.specs.Cmp.Lexicographic.{pointwise}
use Rattle.der_types.specs.declared.names.TheConstants as known

-- the contents, each with its name
abbrev pub named_contents : List (List ℕ × List ℕ)
named_contents =
    (known.COMMON_NAME.now, codes "commonName") ∷
    (known.SURNAME.now, codes "surname") ∷
    (known.SERIAL_NUMBER.now, codes "serialNumber") ∷
    (known.COUNTRY_NAME.now, codes "countryName") ∷
    (known.LOCALITY_NAME.now, codes "localityName") ∷
    (known.STATE_OR_PROVINCE_NAME.now, codes "stateOrProvinceName") ∷
    (known.STREET_ADDRESS.now, codes "streetAddress") ∷
    (known.ORGANIZATION_NAME.now, codes "organizationName") ∷
    (known.ORGANIZATIONAL_UNIT_NAME.now, codes "organizationalUnitName") ∷
    (known.TITLE.now, codes "title") ∷
    (known.NAME.now, codes "name") ∷
    (known.GIVEN_NAME.now, codes "givenName") ∷
    (known.INITIALS.now, codes "initials") ∷
    (known.GENERATION_QUALIFIER.now, codes "generationQualifier") ∷
    (known.DN_QUALIFIER.now, codes "dnQualifier") ∷
    (known.PSEUDONYM.now, codes "pseudonym") ∷
    (known.DOMAIN_COMPONENT.now, codes "domainComponent") ∷
    (known.EMAIL_ADDRESS.now, codes "emailAddress") ∷
    (known.SUBJECT_KEY_IDENTIFIER.now, codes "subjectKeyIdentifier") ∷
    (known.KEY_USAGE.now, codes "keyUsage") ∷
    (known.SUBJECT_ALT_NAME.now, codes "subjectAltName") ∷
    (known.ISSUER_ALT_NAME.now, codes "issuerAltName") ∷
    (known.BASIC_CONSTRAINTS.now, codes "basicConstraints") ∷
    (known.CRL_NUMBER.now, codes "cRLNumber") ∷
    (known.CRL_REASON.now, codes "cRLReason") ∷
    (known.NAME_CONSTRAINTS.now, codes "nameConstraints") ∷
    (known.CRL_DISTRIBUTION_POINTS.now, codes "cRLDistributionPoints") ∷
    (known.CERTIFICATE_POLICIES.now, codes "certificatePolicies") ∷
    (known.ANY_POLICY.now, codes "anyPolicy") ∷
    (known.POLICY_MAPPINGS.now, codes "policyMappings") ∷
    (known.AUTHORITY_KEY_IDENTIFIER.now, codes "authorityKeyIdentifier") ∷
    (known.POLICY_CONSTRAINTS.now, codes "policyConstraints") ∷
    (known.EXT_KEY_USAGE.now, codes "extKeyUsage") ∷
    (known.ANY_EXTENDED_KEY_USAGE.now, codes "anyExtendedKeyUsage") ∷
    (known.FRESHEST_CRL.now, codes "freshestCRL") ∷
    (known.INHIBIT_ANY_POLICY.now, codes "inhibitAnyPolicy") ∷
    (known.AUTHORITY_INFO_ACCESS.now, codes "authorityInfoAccess") ∷
    (known.SUBJECT_INFO_ACCESS.now, codes "subjectInfoAccess") ∷
    (known.SERVER_AUTH.now, codes "serverAuth") ∷
    (known.CLIENT_AUTH.now, codes "clientAuth") ∷
    (known.CODE_SIGNING.now, codes "codeSigning") ∷
    (known.EMAIL_PROTECTION.now, codes "emailProtection") ∷
    (known.TIME_STAMPING.now, codes "timeStamping") ∷
    (known.OCSP_SIGNING.now, codes "OCSPSigning") ∷
    (known.OCSP.now, codes "ocsp") ∷
    (known.CA_ISSUERS.now, codes "caIssuers") ∷
    (known.DATA.now, codes "data") ∷
    (known.SIGNED_DATA.now, codes "signedData") ∷
    (known.ENVELOPED_DATA.now, codes "envelopedData") ∷
    (known.CONTENT_TYPE.now, codes "contentType") ∷
    (known.MESSAGE_DIGEST.now, codes "messageDigest") ∷
    (known.SIGNING_TIME.now, codes "signingTime") ∷
    (known.CHALLENGE_PASSWORD.now, codes "challengePassword") ∷
    (known.EXTENSION_REQUEST.now, codes "extensionRequest") ∷
    (known.RSA_ENCRYPTION.now, codes "rsaEncryption") ∷
    (known.SHA1_WITH_RSA_ENCRYPTION.now, codes "sha1WithRSAEncryption") ∷
    (known.MGF1.now, codes "mgf1") ∷
    (known.RSASSA_PSS.now, codes "rsassaPss") ∷
    (known.SHA256_WITH_RSA_ENCRYPTION.now, codes "sha256WithRSAEncryption") ∷
    (known.SHA384_WITH_RSA_ENCRYPTION.now, codes "sha384WithRSAEncryption") ∷
    (known.SHA512_WITH_RSA_ENCRYPTION.now, codes "sha512WithRSAEncryption") ∷
    (known.SHA224_WITH_RSA_ENCRYPTION.now, codes "sha224WithRSAEncryption") ∷
    (known.EC_PUBLIC_KEY.now, codes "ecPublicKey") ∷
    (known.SECP256R1.now, codes "secp256r1") ∷
    (known.ECDSA_WITH_SHA256.now, codes "ecdsa-with-SHA256") ∷
    (known.ECDSA_WITH_SHA384.now, codes "ecdsa-with-SHA384") ∷
    (known.ECDSA_WITH_SHA512.now, codes "ecdsa-with-SHA512") ∷
    (known.SECP384R1.now, codes "secp384r1") ∷
    (known.SECP521R1.now, codes "secp521r1") ∷
    (known.X25519.now, codes "X25519") ∷
    (known.X448.now, codes "X448") ∷
    (known.ED25519.now, codes "Ed25519") ∷
    (known.ED448.now, codes "Ed448") ∷
    (known.SHA1.now, codes "sha1") ∷
    (known.SHA256.now, codes "sha256") ∷
    (known.SHA384.now, codes "sha384") ∷
    (known.SHA512.now, codes "sha512") ∷
    (known.SHA224.now, codes "sha224") ∷ []

-- the name beside this content, the first if there are several
abbrev pub name_in : List (List ℕ × List ℕ) → List ℕ → Option (List ℕ)
name_in [] content = None
name_in (entry ∷ entries) content = if pointwise nat_eq entry.0 content then Some entry.1 else name_in entries content

abbrev pub name_of : List ℕ → Option (List ℕ)
name_of content = name_in named_contents content
