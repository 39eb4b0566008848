-- The status for a message.
use Rattle.std.specs.Prelude.{Bool, true, false, not, ◌||◌, if◌then◌else◌, Option, None, Some}
use Rattle.std.specs.List.{list_any}
use Rattle.der_signers.specs.declared.comparison.DigestComparison.{DigestComparison}
use Rattle.der_signers.specs.declared.comparison.DigestComparison.TheVariants as digest
use Rattle.der_signers.specs.declared.comparison.TypeComparison.{TypeComparison}
use Rattle.der_signers.specs.declared.comparison.TypeComparison.TheVariants as type
use Rattle.der_signers.specs.declared.comparison.RequiredAttributes.{RequiredAttributes}
use Rattle.der_signers.specs.declared.comparison.RequiredAttributes.TheVariants.{Complete, Incomplete, Missing}
use Rattle.der_signers.specs.declared.comparison.RequiredAttributes.TheVariants.{NotNeeded}
use Rattle.der_signers.specs.declared.comparison.ContentComparison.{ContentComparison}
use Rattle.der_signers.specs.declared.comparison.ContentComparison.TheVariants as content
use Rattle.der_signers.specs.declared.report.Report.{Report}
use Rattle.der_signers.specs.declared.message.Message.{Message}
use Rattle.der_signers.specs.declared.outcome.Outcome.{Outcome}
use Rattle.der_signers.specs.declared.outcome.Outcome.TheVariants as outcome
use Rattle.der_program_base.specs.declared.status.Status.{Status}
use Rattle.der_program_base.specs.declared.status.Status.TheVariants.{Fine, Refused, NothingCompared}

-- ---- a signer

abbrev pub is_other_digest : DigestComparison → Bool
is_other_digest digest.Same = false
is_other_digest digest.OtherLineEnds = true
is_other_digest digest.Different = true
is_other_digest digest.NoAttributes = false
is_other_digest digest.UnknownAlgorithm = false
is_other_digest digest.NoContent = false

abbrev pub is_other_type : TypeComparison → Bool
is_other_type type.Same = false
is_other_type type.Different = true
is_other_type type.Absent = false

-- attributes that must be there aren't
abbrev pub lacks : RequiredAttributes → Bool
lacks Complete = false
lacks Incomplete = true
lacks Missing = true
lacks NotNeeded = false

-- something differs from what it must be
abbrev pub differs : Report → Bool
differs r =
    is_other_digest r.message_digest || (is_other_type r.content_type || (lacks r.attributes || not r.is_listed))

abbrev pub is_same_digest : DigestComparison → Bool
is_same_digest digest.Same = true
is_same_digest digest.OtherLineEnds = false
is_same_digest digest.Different = false
is_same_digest digest.NoAttributes = false
is_same_digest digest.UnknownAlgorithm = false
is_same_digest digest.NoContent = false

-- the digest of the content was compared, and is the same
abbrev pub was_compared : Report → Bool
was_compared r = is_same_digest r.message_digest

-- ---- a message

abbrev pub content_differs : Option ContentComparison → Bool
content_differs (Some content.Same) = false
content_differs (Some content.Different) = true
content_differs None = false

-- the content or something of a signer
abbrev pub something_differs : Message → Bool
something_differs m = content_differs m.content || list_any differs m.reports.items

-- nothing differs, and a digest was compared or none was
abbrev pub message_status : Message → Status
message_status m = if something_differs m then Refused else if list_any was_compared m.reports.items then Fine else
    NothingCompared

abbrev pub status_of : Outcome → Status
status_of (outcome.Read m) = message_status m
status_of (outcome.Refused r) = Refused
