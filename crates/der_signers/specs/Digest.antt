-- Digest algorithms: their digests, and their object identifiers.
use Rattle.std.specs.Prelude.{◌≡◌, ◌≢◌, ℕ, List, [], ◌∷◌, Option, MatchOption}
use Rattle.md5.specs.Md5.{md5}
use Rattle.sha1.specs.Sha1.{sha1}
use Rattle.sha2.specs.Sha256.{sha224, sha256}
use Rattle.sha2.specs.Sha512.{sha384, sha512, sha512_224, sha512_256}
use Rattle.der_types.specs.declared.object_identifier.ObjectIdentifier.{ObjectIdentifier}
use Rattle.der_types.specs.contracts.generated.object_identifier.ObjectIdentifierContents.TheImpl as identifier
use Rattle.der_signers.specs.declared.digest.DigestAlgorithm.{DigestAlgorithm}
use Rattle.der_signers.specs.declared.digest.DigestAlgorithm.TheVariants.{Md5, Sha1, Sha224, Sha256, Sha384, Sha512}
use Rattle.der_signers.specs.declared.digest.DigestAlgorithm.TheVariants.{Sha512To224, Sha512To256}

-- the digest of a message, as the contracts of the crates `md5`, `sha1` and `sha2` say it
abbrev pub digest_of : DigestAlgorithm → List ℕ → List ℕ
digest_of Md5 message = md5 message
digest_of Sha1 message = sha1 message
digest_of Sha224 message = sha224 message
digest_of Sha256 message = sha256 message
digest_of Sha384 message = sha384 message
digest_of Sha512 message = sha512 message
digest_of Sha512To224 message = sha512_224 message
digest_of Sha512To256 message = sha512_256 message

-- the arcs of the algorithm's object identifier
abbrev pub arcs_of_algorithm : DigestAlgorithm → List ℕ
arcs_of_algorithm Md5 = 1 ∷ 2 ∷ 840 ∷ 113549 ∷ 2 ∷ 5 ∷ []
arcs_of_algorithm Sha1 = 1 ∷ 3 ∷ 14 ∷ 3 ∷ 2 ∷ 26 ∷ []
arcs_of_algorithm Sha224 = 2 ∷ 16 ∷ 840 ∷ 1 ∷ 101 ∷ 3 ∷ 4 ∷ 2 ∷ 4 ∷ []
arcs_of_algorithm Sha256 = 2 ∷ 16 ∷ 840 ∷ 1 ∷ 101 ∷ 3 ∷ 4 ∷ 2 ∷ 1 ∷ []
arcs_of_algorithm Sha384 = 2 ∷ 16 ∷ 840 ∷ 1 ∷ 101 ∷ 3 ∷ 4 ∷ 2 ∷ 2 ∷ []
arcs_of_algorithm Sha512 = 2 ∷ 16 ∷ 840 ∷ 1 ∷ 101 ∷ 3 ∷ 4 ∷ 2 ∷ 3 ∷ []
arcs_of_algorithm Sha512To224 = 2 ∷ 16 ∷ 840 ∷ 1 ∷ 101 ∷ 3 ∷ 4 ∷ 2 ∷ 5 ∷ []
arcs_of_algorithm Sha512To256 = 2 ∷ 16 ∷ 840 ∷ 1 ∷ 101 ∷ 3 ∷ 4 ∷ 2 ∷ 6 ∷ []

-- the content of that object identifier
abbrev pub identifier_of : DigestAlgorithm → List ℕ
identifier_of Md5 = 0x2A ∷ 0x86 ∷ 0x48 ∷ 0x86 ∷ 0xF7 ∷ 0x0D ∷ 0x02 ∷ 0x05 ∷ []
identifier_of Sha1 = 0x2B ∷ 0x0E ∷ 0x03 ∷ 0x02 ∷ 0x1A ∷ []
identifier_of Sha224 = 0x60 ∷ 0x86 ∷ 0x48 ∷ 0x01 ∷ 0x65 ∷ 0x03 ∷ 0x04 ∷ 0x02 ∷ 0x04 ∷ []
identifier_of Sha256 = 0x60 ∷ 0x86 ∷ 0x48 ∷ 0x01 ∷ 0x65 ∷ 0x03 ∷ 0x04 ∷ 0x02 ∷ 0x01 ∷ []
identifier_of Sha384 = 0x60 ∷ 0x86 ∷ 0x48 ∷ 0x01 ∷ 0x65 ∷ 0x03 ∷ 0x04 ∷ 0x02 ∷ 0x02 ∷ []
identifier_of Sha512 = 0x60 ∷ 0x86 ∷ 0x48 ∷ 0x01 ∷ 0x65 ∷ 0x03 ∷ 0x04 ∷ 0x02 ∷ 0x03 ∷ []
identifier_of Sha512To224 = 0x60 ∷ 0x86 ∷ 0x48 ∷ 0x01 ∷ 0x65 ∷ 0x03 ∷ 0x04 ∷ 0x02 ∷ 0x05 ∷ []
identifier_of Sha512To256 = 0x60 ∷ 0x86 ∷ 0x48 ∷ 0x01 ∷ 0x65 ∷ 0x03 ∷ 0x04 ∷ 0x02 ∷ 0x06 ∷ []

-- the bytes of an object identifier's content
abbrev pub content_of : ObjectIdentifier → List ℕ
content_of = identifier.ghosts.content

-- it is the algorithm with this object identifier; none has it, if there is none
abbrev pub IsAlgorithmOf : ObjectIdentifier → Option DigestAlgorithm → Type 0
IsAlgorithmOf id found = MatchOption found ((a : DigestAlgorithm) → content_of id ≢ identifier_of a)
    (λ a. content_of id ≡ identifier_of a)
