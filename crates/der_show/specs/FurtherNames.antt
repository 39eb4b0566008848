-- Further names of object identifiers.
use Rattle.std.specs.Prelude.{ℕ, List, [], ◌∷◌, Option, codes, map}
use Rattle.der_types.specs.Names.{name_in}
use Rattle.der_types.specs.ObjectIdentifier.{object_identifier_content}

-- the arcs of identifiers, each with its name
abbrev pub further_names : List (List ℕ × List ℕ)
further_names =
    -- Attributes of names (X.520; RFC 2985; CA/Browser Forum).
    (2 ∷ 5 ∷ 4 ∷ 13 ∷ [], codes "description") ∷
    (2 ∷ 5 ∷ 4 ∷ 15 ∷ [], codes "businessCategory") ∷
    (2 ∷ 5 ∷ 4 ∷ 17 ∷ [], codes "postalCode") ∷
    (2 ∷ 5 ∷ 4 ∷ 20 ∷ [], codes "telephoneNumber") ∷
    (2 ∷ 5 ∷ 4 ∷ 45 ∷ [], codes "x500UniqueIdentifier") ∷
    (2 ∷ 5 ∷ 4 ∷ 97 ∷ [], codes "organizationIdentifier") ∷
    (0 ∷ 9 ∷ 2342 ∷ 19200300 ∷ 100 ∷ 1 ∷ 1 ∷ [], codes "userId") ∷
    (1 ∷ 2 ∷ 840 ∷ 113549 ∷ 1 ∷ 9 ∷ 2 ∷ [], codes "unstructuredName") ∷
    (1 ∷ 2 ∷ 840 ∷ 113549 ∷ 1 ∷ 9 ∷ 8 ∷ [], codes "unstructuredAddress") ∷
    (1 ∷ 3 ∷ 6 ∷ 1 ∷ 4 ∷ 1 ∷ 311 ∷ 60 ∷ 2 ∷ 1 ∷ 1 ∷ [], codes "jurisdictionLocalityName") ∷
    (1 ∷ 3 ∷ 6 ∷ 1 ∷ 4 ∷ 1 ∷ 311 ∷ 60 ∷ 2 ∷ 1 ∷ 2 ∷ [], codes "jurisdictionStateOrProvinceName") ∷
    (1 ∷ 3 ∷ 6 ∷ 1 ∷ 4 ∷ 1 ∷ 311 ∷ 60 ∷ 2 ∷ 1 ∷ 3 ∷ [], codes "jurisdictionCountryName") ∷
    -- Extensions of certificates, lists and OCSP, and what they hold (RFC 5280, 6960, 6962, 7633; CA/Browser Forum).
    (2 ∷ 5 ∷ 29 ∷ 9 ∷ [], codes "subjectDirectoryAttributes") ∷
    (2 ∷ 5 ∷ 29 ∷ 16 ∷ [], codes "privateKeyUsagePeriod") ∷
    (2 ∷ 5 ∷ 29 ∷ 23 ∷ [], codes "holdInstructionCode") ∷
    (2 ∷ 5 ∷ 29 ∷ 24 ∷ [], codes "invalidityDate") ∷
    (2 ∷ 5 ∷ 29 ∷ 27 ∷ [], codes "deltaCRLIndicator") ∷
    (2 ∷ 5 ∷ 29 ∷ 28 ∷ [], codes "issuingDistributionPoint") ∷
    (2 ∷ 5 ∷ 29 ∷ 29 ∷ [], codes "certificateIssuer") ∷
    (1 ∷ 3 ∷ 6 ∷ 1 ∷ 5 ∷ 5 ∷ 7 ∷ 1 ∷ 3 ∷ [], codes "qcStatements") ∷
    (1 ∷ 3 ∷ 6 ∷ 1 ∷ 5 ∷ 5 ∷ 7 ∷ 1 ∷ 24 ∷ [], codes "tlsFeature") ∷
    (1 ∷ 3 ∷ 6 ∷ 1 ∷ 5 ∷ 5 ∷ 7 ∷ 2 ∷ 1 ∷ [], codes "cps") ∷
    (1 ∷ 3 ∷ 6 ∷ 1 ∷ 5 ∷ 5 ∷ 7 ∷ 2 ∷ 2 ∷ [], codes "userNotice") ∷
    (1 ∷ 3 ∷ 6 ∷ 1 ∷ 5 ∷ 5 ∷ 7 ∷ 48 ∷ 1 ∷ 1 ∷ [], codes "ocspBasic") ∷
    (1 ∷ 3 ∷ 6 ∷ 1 ∷ 5 ∷ 5 ∷ 7 ∷ 48 ∷ 1 ∷ 2 ∷ [], codes "ocspNonce") ∷
    (1 ∷ 3 ∷ 6 ∷ 1 ∷ 5 ∷ 5 ∷ 7 ∷ 48 ∷ 1 ∷ 5 ∷ [], codes "ocspNoCheck") ∷
    (1 ∷ 3 ∷ 6 ∷ 1 ∷ 5 ∷ 5 ∷ 7 ∷ 48 ∷ 5 ∷ [], codes "caRepository") ∷
    (1 ∷ 3 ∷ 6 ∷ 1 ∷ 4 ∷ 1 ∷ 11129 ∷ 2 ∷ 4 ∷ 2 ∷ [], codes "signedCertificateTimestampList") ∷
    (1 ∷ 3 ∷ 6 ∷ 1 ∷ 4 ∷ 1 ∷ 11129 ∷ 2 ∷ 4 ∷ 3 ∷ [], codes "precertificatePoison") ∷
    (1 ∷ 3 ∷ 6 ∷ 1 ∷ 4 ∷ 1 ∷ 311 ∷ 20 ∷ 2 ∷ 3 ∷ [], codes "userPrincipalName") ∷
    (1 ∷ 3 ∷ 6 ∷ 1 ∷ 5 ∷ 2 ∷ 2 ∷ [], codes "pkinitSAN") ∷
    (2 ∷ 16 ∷ 840 ∷ 1 ∷ 113730 ∷ 1 ∷ 1 ∷ [], codes "netscapeCertType") ∷
    (2 ∷ 16 ∷ 840 ∷ 1 ∷ 113730 ∷ 1 ∷ 13 ∷ [], codes "netscapeComment") ∷
    (2 ∷ 23 ∷ 140 ∷ 1 ∷ 1 ∷ [], codes "extendedValidation") ∷
    (2 ∷ 23 ∷ 140 ∷ 1 ∷ 2 ∷ 1 ∷ [], codes "domainValidated") ∷
    (2 ∷ 23 ∷ 140 ∷ 1 ∷ 2 ∷ 2 ∷ [], codes "organizationValidated") ∷
    -- Contents and attributes of CMS, TSP and PKCS #12 (RFC 5652, 5035, 5083, 3161, 7292).
    (1 ∷ 2 ∷ 840 ∷ 113549 ∷ 1 ∷ 7 ∷ 5 ∷ [], codes "digestedData") ∷
    (1 ∷ 2 ∷ 840 ∷ 113549 ∷ 1 ∷ 7 ∷ 6 ∷ [], codes "encryptedData") ∷
    (1 ∷ 2 ∷ 840 ∷ 113549 ∷ 1 ∷ 9 ∷ 6 ∷ [], codes "countersignature") ∷
    (1 ∷ 2 ∷ 840 ∷ 113549 ∷ 1 ∷ 9 ∷ 15 ∷ [], codes "smimeCapabilities") ∷
    (1 ∷ 2 ∷ 840 ∷ 113549 ∷ 1 ∷ 9 ∷ 20 ∷ [], codes "friendlyName") ∷
    (1 ∷ 2 ∷ 840 ∷ 113549 ∷ 1 ∷ 9 ∷ 21 ∷ [], codes "localKeyId") ∷
    (1 ∷ 2 ∷ 840 ∷ 113549 ∷ 1 ∷ 9 ∷ 22 ∷ 1 ∷ [], codes "x509Certificate") ∷
    (1 ∷ 2 ∷ 840 ∷ 113549 ∷ 1 ∷ 9 ∷ 52 ∷ [], codes "cmsAlgorithmProtection") ∷
    (1 ∷ 2 ∷ 840 ∷ 113549 ∷ 1 ∷ 9 ∷ 16 ∷ 1 ∷ 2 ∷ [], codes "authData") ∷
    (1 ∷ 2 ∷ 840 ∷ 113549 ∷ 1 ∷ 9 ∷ 16 ∷ 1 ∷ 4 ∷ [], codes "tstInfo") ∷
    (1 ∷ 2 ∷ 840 ∷ 113549 ∷ 1 ∷ 9 ∷ 16 ∷ 1 ∷ 9 ∷ [], codes "compressedData") ∷
    (1 ∷ 2 ∷ 840 ∷ 113549 ∷ 1 ∷ 9 ∷ 16 ∷ 1 ∷ 23 ∷ [], codes "authEnvelopedData") ∷
    (1 ∷ 2 ∷ 840 ∷ 113549 ∷ 1 ∷ 9 ∷ 16 ∷ 2 ∷ 11 ∷ [], codes "encryptionKeyPreference") ∷
    (1 ∷ 2 ∷ 840 ∷ 113549 ∷ 1 ∷ 9 ∷ 16 ∷ 2 ∷ 12 ∷ [], codes "signingCertificate") ∷
    (1 ∷ 2 ∷ 840 ∷ 113549 ∷ 1 ∷ 9 ∷ 16 ∷ 2 ∷ 14 ∷ [], codes "timeStampToken") ∷
    (1 ∷ 2 ∷ 840 ∷ 113549 ∷ 1 ∷ 9 ∷ 16 ∷ 2 ∷ 47 ∷ [], codes "signingCertificateV2") ∷
    (1 ∷ 2 ∷ 840 ∷ 113549 ∷ 1 ∷ 12 ∷ 10 ∷ 1 ∷ 1 ∷ [], codes "keyBag") ∷
    (1 ∷ 2 ∷ 840 ∷ 113549 ∷ 1 ∷ 12 ∷ 10 ∷ 1 ∷ 2 ∷ [], codes "pkcs8ShroudedKeyBag") ∷
    (1 ∷ 2 ∷ 840 ∷ 113549 ∷ 1 ∷ 12 ∷ 10 ∷ 1 ∷ 3 ∷ [], codes "certBag") ∷
    -- Encryption, keys from passwords, and codes of authentication (RFC 8018, 3565, 5084, 3370).
    (2 ∷ 16 ∷ 840 ∷ 1 ∷ 101 ∷ 3 ∷ 4 ∷ 1 ∷ 2 ∷ [], codes "aes128-CBC") ∷
    (2 ∷ 16 ∷ 840 ∷ 1 ∷ 101 ∷ 3 ∷ 4 ∷ 1 ∷ 22 ∷ [], codes "aes192-CBC") ∷
    (2 ∷ 16 ∷ 840 ∷ 1 ∷ 101 ∷ 3 ∷ 4 ∷ 1 ∷ 42 ∷ [], codes "aes256-CBC") ∷
    (2 ∷ 16 ∷ 840 ∷ 1 ∷ 101 ∷ 3 ∷ 4 ∷ 1 ∷ 5 ∷ [], codes "aes128-wrap") ∷
    (2 ∷ 16 ∷ 840 ∷ 1 ∷ 101 ∷ 3 ∷ 4 ∷ 1 ∷ 25 ∷ [], codes "aes192-wrap") ∷
    (2 ∷ 16 ∷ 840 ∷ 1 ∷ 101 ∷ 3 ∷ 4 ∷ 1 ∷ 45 ∷ [], codes "aes256-wrap") ∷
    (2 ∷ 16 ∷ 840 ∷ 1 ∷ 101 ∷ 3 ∷ 4 ∷ 1 ∷ 6 ∷ [], codes "aes128-GCM") ∷
    (2 ∷ 16 ∷ 840 ∷ 1 ∷ 101 ∷ 3 ∷ 4 ∷ 1 ∷ 26 ∷ [], codes "aes192-GCM") ∷
    (2 ∷ 16 ∷ 840 ∷ 1 ∷ 101 ∷ 3 ∷ 4 ∷ 1 ∷ 46 ∷ [], codes "aes256-GCM") ∷
    (1 ∷ 2 ∷ 840 ∷ 113549 ∷ 3 ∷ 2 ∷ [], codes "rc2-CBC") ∷
    (1 ∷ 2 ∷ 840 ∷ 113549 ∷ 3 ∷ 7 ∷ [], codes "des-EDE3-CBC") ∷
    (1 ∷ 2 ∷ 840 ∷ 113549 ∷ 1 ∷ 5 ∷ 12 ∷ [], codes "PBKDF2") ∷
    (1 ∷ 2 ∷ 840 ∷ 113549 ∷ 1 ∷ 5 ∷ 13 ∷ [], codes "PBES2") ∷
    (1 ∷ 2 ∷ 840 ∷ 113549 ∷ 1 ∷ 12 ∷ 1 ∷ 3 ∷ [], codes "pbeWithSHAAnd3-KeyTripleDES-CBC") ∷
    (1 ∷ 3 ∷ 6 ∷ 1 ∷ 4 ∷ 1 ∷ 11591 ∷ 4 ∷ 11 ∷ [], codes "scrypt") ∷
    (1 ∷ 2 ∷ 840 ∷ 113549 ∷ 2 ∷ 7 ∷ [], codes "hmacWithSHA1") ∷
    (1 ∷ 2 ∷ 840 ∷ 113549 ∷ 2 ∷ 8 ∷ [], codes "hmacWithSHA224") ∷
    (1 ∷ 2 ∷ 840 ∷ 113549 ∷ 2 ∷ 9 ∷ [], codes "hmacWithSHA256") ∷
    (1 ∷ 2 ∷ 840 ∷ 113549 ∷ 2 ∷ 10 ∷ [], codes "hmacWithSHA384") ∷
    (1 ∷ 2 ∷ 840 ∷ 113549 ∷ 2 ∷ 11 ∷ [], codes "hmacWithSHA512") ∷
    -- Digests, signatures and keys (RFC 8017, 3279, 5480, 5639, 5758; NIST).
    (1 ∷ 2 ∷ 840 ∷ 113549 ∷ 2 ∷ 5 ∷ [], codes "md5") ∷
    (1 ∷ 2 ∷ 840 ∷ 113549 ∷ 1 ∷ 1 ∷ 4 ∷ [], codes "md5WithRSAEncryption") ∷
    (1 ∷ 2 ∷ 840 ∷ 113549 ∷ 1 ∷ 1 ∷ 7 ∷ [], codes "rsaesOaep") ∷
    (1 ∷ 2 ∷ 840 ∷ 113549 ∷ 1 ∷ 1 ∷ 9 ∷ [], codes "pSpecified") ∷
    (1 ∷ 2 ∷ 840 ∷ 10040 ∷ 4 ∷ 1 ∷ [], codes "dsa") ∷
    (1 ∷ 2 ∷ 840 ∷ 10040 ∷ 4 ∷ 3 ∷ [], codes "dsa-with-SHA1") ∷
    (2 ∷ 16 ∷ 840 ∷ 1 ∷ 101 ∷ 3 ∷ 4 ∷ 3 ∷ 2 ∷ [], codes "dsa-with-SHA256") ∷
    (1 ∷ 2 ∷ 840 ∷ 10045 ∷ 1 ∷ 1 ∷ [], codes "prime-field") ∷
    (1 ∷ 2 ∷ 840 ∷ 10045 ∷ 4 ∷ 1 ∷ [], codes "ecdsa-with-SHA1") ∷
    (1 ∷ 2 ∷ 840 ∷ 10045 ∷ 4 ∷ 3 ∷ 1 ∷ [], codes "ecdsa-with-SHA224") ∷
    (1 ∷ 2 ∷ 840 ∷ 10046 ∷ 2 ∷ 1 ∷ [], codes "dhPublicNumber") ∷
    (1 ∷ 2 ∷ 840 ∷ 113549 ∷ 1 ∷ 3 ∷ 1 ∷ [], codes "dhKeyAgreement") ∷
    (1 ∷ 3 ∷ 132 ∷ 0 ∷ 10 ∷ [], codes "secp256k1") ∷
    (1 ∷ 3 ∷ 132 ∷ 1 ∷ 11 ∷ 1 ∷ [], codes "dhSinglePass-stdDH-sha256kdf") ∷
    (1 ∷ 3 ∷ 36 ∷ 3 ∷ 3 ∷ 2 ∷ 8 ∷ 1 ∷ 1 ∷ 7 ∷ [], codes "brainpoolP256r1") ∷
    (1 ∷ 3 ∷ 36 ∷ 3 ∷ 3 ∷ 2 ∷ 8 ∷ 1 ∷ 1 ∷ 11 ∷ [], codes "brainpoolP384r1") ∷
    (1 ∷ 3 ∷ 36 ∷ 3 ∷ 3 ∷ 2 ∷ 8 ∷ 1 ∷ 1 ∷ 13 ∷ [], codes "brainpoolP512r1") ∷
    (2 ∷ 16 ∷ 840 ∷ 1 ∷ 101 ∷ 3 ∷ 4 ∷ 2 ∷ 6 ∷ [], codes "sha512-256") ∷
    (2 ∷ 16 ∷ 840 ∷ 1 ∷ 101 ∷ 3 ∷ 4 ∷ 2 ∷ 7 ∷ [], codes "sha3-224") ∷
    (2 ∷ 16 ∷ 840 ∷ 1 ∷ 101 ∷ 3 ∷ 4 ∷ 2 ∷ 8 ∷ [], codes "sha3-256") ∷
    (2 ∷ 16 ∷ 840 ∷ 1 ∷ 101 ∷ 3 ∷ 4 ∷ 2 ∷ 9 ∷ [], codes "sha3-384") ∷
    (2 ∷ 16 ∷ 840 ∷ 1 ∷ 101 ∷ 3 ∷ 4 ∷ 2 ∷ 10 ∷ [], codes "sha3-512") ∷
    (2 ∷ 16 ∷ 840 ∷ 1 ∷ 101 ∷ 3 ∷ 4 ∷ 2 ∷ 11 ∷ [], codes "shake128") ∷
    (2 ∷ 16 ∷ 840 ∷ 1 ∷ 101 ∷ 3 ∷ 4 ∷ 2 ∷ 12 ∷ [], codes "shake256") ∷
    (2 ∷ 16 ∷ 840 ∷ 1 ∷ 101 ∷ 3 ∷ 4 ∷ 3 ∷ 17 ∷ [], codes "id-ml-dsa-44") ∷
    (2 ∷ 16 ∷ 840 ∷ 1 ∷ 101 ∷ 3 ∷ 4 ∷ 3 ∷ 18 ∷ [], codes "id-ml-dsa-65") ∷
    (2 ∷ 16 ∷ 840 ∷ 1 ∷ 101 ∷ 3 ∷ 4 ∷ 3 ∷ 19 ∷ [], codes "id-ml-dsa-87") ∷
    (1 ∷ 2 ∷ 840 ∷ 113554 ∷ 1 ∷ 2 ∷ 2 ∷ [], codes "krb5") ∷
    (1 ∷ 3 ∷ 6 ∷ 1 ∷ 5 ∷ 5 ∷ 2 ∷ [], codes "spnego") ∷
    (1 ∷ 3 ∷ 6 ∷ 1 ∷ 5 ∷ 2 ∷ 3 ∷ 4 ∷ [], codes "pkinitClientAuth") ∷
    (1 ∷ 3 ∷ 6 ∷ 1 ∷ 5 ∷ 2 ∷ 3 ∷ 5 ∷ [], codes "pkinitKDC") ∷
    (1 ∷ 3 ∷ 6 ∷ 1 ∷ 4 ∷ 1 ∷ 311 ∷ 20 ∷ 2 ∷ 2 ∷ [], codes "smartcardLogon") ∷ []

-- with the contents of the identifiers
abbrev pub further_contents : List (List ℕ × List ℕ)
further_contents = map (λ entry. (object_identifier_content entry.0, entry.1)) further_names

abbrev pub further_name_of : List ℕ → Option (List ℕ)
further_name_of content = name_in further_contents content
