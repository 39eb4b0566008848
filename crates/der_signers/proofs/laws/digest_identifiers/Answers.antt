use Rattle.std.proofs.Common.{◌≡◌, refl}
use Rattle.der_types.specs.Subidentifiers.{marked, subidentifier}
use Rattle.der_types.specs.ObjectIdentifier.{object_identifier_content}
use Rattle.der_signers.specs.declared.digest.DigestAlgorithm.{DigestAlgorithm}
use Rattle.der_signers.specs.declared.digest.DigestAlgorithm.TheVariants.{Md5, Sha1, Sha224, Sha256, Sha384, Sha512}
use Rattle.der_signers.specs.declared.digest.DigestAlgorithm.TheVariants.{Sha512To224, Sha512To256}
use Rattle.der_signers.specs.Digest.{arcs_of_algorithm, identifier_of}
use Rattle.der_signers.proofs.laws.digest_identifiers.Goals as goal

same_content : (algorithm : DigestAlgorithm)
    → identifier_of algorithm ≡ object_identifier_content (arcs_of_algorithm algorithm)
unfolding marked subidentifier
same_content Md5 = refl
same_content Sha1 = refl
same_content Sha224 = refl
same_content Sha256 = refl
same_content Sha384 = refl
same_content Sha512 = refl
same_content Sha512To224 = refl
same_content Sha512To256 = refl

pub returns : goal.returns
returns c = same_content
