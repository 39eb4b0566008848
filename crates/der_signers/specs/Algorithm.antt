-- Names of algorithms.
use Rattle.std.specs.Prelude.{ℕ, List, [], ◌∷◌, Option, None, Some, codes, map, nat_eq, if◌then◌else◌}
use Rattle.std.specs.Cmp.Lexicographic.{pointwise}
use Rattle.der_types.specs.Dotted.{dotted_or_marked, fitted}
use Rattle.der_types.specs.ObjectIdentifier.{arcs_of, object_identifier_content}

-- algorithms of digests and of signatures, by the arcs of their identifiers, with OpenSSL's names
abbrev pub algorithms : List (List ℕ × List ℕ)
algorithms =
    (1 ∷ 2 ∷ 840 ∷ 113549 ∷ 2 ∷ 5 ∷ [], codes "md5") ∷
    (1 ∷ 3 ∷ 14 ∷ 3 ∷ 2 ∷ 26 ∷ [], codes "sha1") ∷
    (2 ∷ 16 ∷ 840 ∷ 1 ∷ 101 ∷ 3 ∷ 4 ∷ 2 ∷ 4 ∷ [], codes "sha224") ∷
    (2 ∷ 16 ∷ 840 ∷ 1 ∷ 101 ∷ 3 ∷ 4 ∷ 2 ∷ 1 ∷ [], codes "sha256") ∷
    (2 ∷ 16 ∷ 840 ∷ 1 ∷ 101 ∷ 3 ∷ 4 ∷ 2 ∷ 2 ∷ [], codes "sha384") ∷
    (2 ∷ 16 ∷ 840 ∷ 1 ∷ 101 ∷ 3 ∷ 4 ∷ 2 ∷ 3 ∷ [], codes "sha512") ∷
    (2 ∷ 16 ∷ 840 ∷ 1 ∷ 101 ∷ 3 ∷ 4 ∷ 2 ∷ 5 ∷ [], codes "sha512-224") ∷
    (2 ∷ 16 ∷ 840 ∷ 1 ∷ 101 ∷ 3 ∷ 4 ∷ 2 ∷ 6 ∷ [], codes "sha512-256") ∷
    (2 ∷ 16 ∷ 840 ∷ 1 ∷ 101 ∷ 3 ∷ 4 ∷ 2 ∷ 7 ∷ [], codes "sha3-224") ∷
    (2 ∷ 16 ∷ 840 ∷ 1 ∷ 101 ∷ 3 ∷ 4 ∷ 2 ∷ 8 ∷ [], codes "sha3-256") ∷
    (2 ∷ 16 ∷ 840 ∷ 1 ∷ 101 ∷ 3 ∷ 4 ∷ 2 ∷ 9 ∷ [], codes "sha3-384") ∷
    (2 ∷ 16 ∷ 840 ∷ 1 ∷ 101 ∷ 3 ∷ 4 ∷ 2 ∷ 10 ∷ [], codes "sha3-512") ∷
    (2 ∷ 16 ∷ 840 ∷ 1 ∷ 101 ∷ 3 ∷ 4 ∷ 2 ∷ 11 ∷ [], codes "shake128") ∷
    (2 ∷ 16 ∷ 840 ∷ 1 ∷ 101 ∷ 3 ∷ 4 ∷ 2 ∷ 12 ∷ [], codes "shake256") ∷
    (1 ∷ 3 ∷ 36 ∷ 3 ∷ 2 ∷ 1 ∷ [], codes "ripemd160") ∷
    (1 ∷ 2 ∷ 840 ∷ 113549 ∷ 1 ∷ 1 ∷ 1 ∷ [], codes "rsaEncryption") ∷
    (1 ∷ 2 ∷ 840 ∷ 113549 ∷ 1 ∷ 1 ∷ 4 ∷ [], codes "md5WithRSAEncryption") ∷
    (1 ∷ 2 ∷ 840 ∷ 113549 ∷ 1 ∷ 1 ∷ 5 ∷ [], codes "sha1WithRSAEncryption") ∷
    (1 ∷ 2 ∷ 840 ∷ 113549 ∷ 1 ∷ 1 ∷ 14 ∷ [], codes "sha224WithRSAEncryption") ∷
    (1 ∷ 2 ∷ 840 ∷ 113549 ∷ 1 ∷ 1 ∷ 11 ∷ [], codes "sha256WithRSAEncryption") ∷
    (1 ∷ 2 ∷ 840 ∷ 113549 ∷ 1 ∷ 1 ∷ 12 ∷ [], codes "sha384WithRSAEncryption") ∷
    (1 ∷ 2 ∷ 840 ∷ 113549 ∷ 1 ∷ 1 ∷ 13 ∷ [], codes "sha512WithRSAEncryption") ∷
    (1 ∷ 2 ∷ 840 ∷ 113549 ∷ 1 ∷ 1 ∷ 15 ∷ [], codes "sha512-224WithRSAEncryption") ∷
    (1 ∷ 2 ∷ 840 ∷ 113549 ∷ 1 ∷ 1 ∷ 16 ∷ [], codes "sha512-256WithRSAEncryption") ∷
    (2 ∷ 16 ∷ 840 ∷ 1 ∷ 101 ∷ 3 ∷ 4 ∷ 3 ∷ 13 ∷ [], codes "RSA-SHA3-224") ∷
    (2 ∷ 16 ∷ 840 ∷ 1 ∷ 101 ∷ 3 ∷ 4 ∷ 3 ∷ 14 ∷ [], codes "RSA-SHA3-256") ∷
    (2 ∷ 16 ∷ 840 ∷ 1 ∷ 101 ∷ 3 ∷ 4 ∷ 3 ∷ 15 ∷ [], codes "RSA-SHA3-384") ∷
    (2 ∷ 16 ∷ 840 ∷ 1 ∷ 101 ∷ 3 ∷ 4 ∷ 3 ∷ 16 ∷ [], codes "RSA-SHA3-512") ∷
    (1 ∷ 2 ∷ 840 ∷ 113549 ∷ 1 ∷ 1 ∷ 10 ∷ [], codes "rsassaPss") ∷
    (1 ∷ 2 ∷ 840 ∷ 10040 ∷ 4 ∷ 1 ∷ [], codes "dsaEncryption") ∷
    (1 ∷ 2 ∷ 840 ∷ 10040 ∷ 4 ∷ 3 ∷ [], codes "dsaWithSHA1") ∷
    (2 ∷ 16 ∷ 840 ∷ 1 ∷ 101 ∷ 3 ∷ 4 ∷ 3 ∷ 1 ∷ [], codes "dsa_with_SHA224") ∷
    (2 ∷ 16 ∷ 840 ∷ 1 ∷ 101 ∷ 3 ∷ 4 ∷ 3 ∷ 2 ∷ [], codes "dsa_with_SHA256") ∷
    (1 ∷ 2 ∷ 840 ∷ 10045 ∷ 2 ∷ 1 ∷ [], codes "id-ecPublicKey") ∷
    (1 ∷ 2 ∷ 840 ∷ 10045 ∷ 4 ∷ 1 ∷ [], codes "ecdsa-with-SHA1") ∷
    (1 ∷ 2 ∷ 840 ∷ 10045 ∷ 4 ∷ 3 ∷ 1 ∷ [], codes "ecdsa-with-SHA224") ∷
    (1 ∷ 2 ∷ 840 ∷ 10045 ∷ 4 ∷ 3 ∷ 2 ∷ [], codes "ecdsa-with-SHA256") ∷
    (1 ∷ 2 ∷ 840 ∷ 10045 ∷ 4 ∷ 3 ∷ 3 ∷ [], codes "ecdsa-with-SHA384") ∷
    (1 ∷ 2 ∷ 840 ∷ 10045 ∷ 4 ∷ 3 ∷ 4 ∷ [], codes "ecdsa-with-SHA512") ∷
    (2 ∷ 16 ∷ 840 ∷ 1 ∷ 101 ∷ 3 ∷ 4 ∷ 3 ∷ 9 ∷ [], codes "ecdsa_with_SHA3-224") ∷
    (2 ∷ 16 ∷ 840 ∷ 1 ∷ 101 ∷ 3 ∷ 4 ∷ 3 ∷ 10 ∷ [], codes "ecdsa_with_SHA3-256") ∷
    (2 ∷ 16 ∷ 840 ∷ 1 ∷ 101 ∷ 3 ∷ 4 ∷ 3 ∷ 11 ∷ [], codes "ecdsa_with_SHA3-384") ∷
    (2 ∷ 16 ∷ 840 ∷ 1 ∷ 101 ∷ 3 ∷ 4 ∷ 3 ∷ 12 ∷ [], codes "ecdsa_with_SHA3-512") ∷
    (1 ∷ 3 ∷ 101 ∷ 112 ∷ [], codes "ED25519") ∷
    (1 ∷ 3 ∷ 101 ∷ 113 ∷ [], codes "ED448") ∷ []

-- with the contents of the identifiers
abbrev pub named_contents : List (List ℕ × List ℕ)
named_contents = map (λ entry. (object_identifier_content entry.0, entry.1)) algorithms

-- the name beside this content, the first if there are several
abbrev pub name_in : List (List ℕ × List ℕ) → List ℕ → Option (List ℕ)
name_in [] content = None
name_in (entry ∷ entries) content = if pointwise nat_eq entry.0 content then Some entry.1 else name_in entries content

abbrev pub name_of : List ℕ → Option (List ℕ)
name_of content = name_in named_contents content

abbrev pub or_dotted : Option (List ℕ) → List ℕ → List ℕ
or_dotted (Some name) content = name
or_dotted None content = dotted_or_marked (map fitted (arcs_of content))

-- the name of the algorithm whose identifier has this content, or the arcs with points between them
abbrev pub algorithm_text : List ℕ → List ℕ
algorithm_text content = or_dotted (name_of content) content
