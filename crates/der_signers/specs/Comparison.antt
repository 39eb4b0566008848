-- The words for what comes of comparing.
use Rattle.std.specs.Prelude.{ℕ, Bool, if◌then◌else◌, List, Option, None, Some, codes}
use Rattle.der_signers.specs.declared.comparison.DigestComparison.{DigestComparison}
use Rattle.der_signers.specs.declared.comparison.DigestComparison.TheVariants as digest
use Rattle.der_signers.specs.declared.comparison.TypeComparison.{TypeComparison}
use Rattle.der_signers.specs.declared.comparison.TypeComparison.TheVariants as type
use Rattle.der_signers.specs.declared.comparison.RequiredAttributes.{RequiredAttributes}
use Rattle.der_signers.specs.declared.comparison.RequiredAttributes.TheVariants.{Complete, Incomplete, Missing}
use Rattle.der_signers.specs.declared.comparison.RequiredAttributes.TheVariants.{NotNeeded}
use Rattle.der_signers.specs.declared.comparison.ContentComparison.{ContentComparison}
use Rattle.der_signers.specs.declared.comparison.ContentComparison.TheVariants as content

abbrev pub digest_word : DigestComparison → List ℕ
digest_word digest.Same = codes "yes"
digest_word digest.OtherLineEnds = codes "no"
digest_word digest.Different = codes "no"
digest_word digest.NoAttributes = codes "absent"
digest_word digest.UnknownAlgorithm = codes "unknown"
digest_word digest.NoContent = codes "detached"

-- what is said of a digest that agrees with other line ends
abbrev pub hint_of : DigestComparison → Option (List ℕ)
hint_of digest.OtherLineEnds = Some (codes "messageDigest agrees if lines end with CR LF (--text)")
hint_of digest.Same = None
hint_of digest.Different = None
hint_of digest.NoAttributes = None
hint_of digest.UnknownAlgorithm = None
hint_of digest.NoContent = None

abbrev pub type_word : TypeComparison → List ℕ
type_word type.Same = codes "yes"
type_word type.Different = codes "no"
type_word type.Absent = codes "absent"

abbrev pub attributes_word : RequiredAttributes → List ℕ
attributes_word Complete = codes "complete"
attributes_word Incomplete = codes "incomplete"
attributes_word Missing = codes "missing"
attributes_word NotNeeded = codes "none"

abbrev pub content_word : ContentComparison → List ℕ
content_word content.Same = codes "yes"
content_word content.Different = codes "no"

abbrev pub listed_word : Bool → List ℕ
listed_word is_listed = if is_listed then codes "yes" else codes "no"
