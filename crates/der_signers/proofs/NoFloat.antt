-- The objects of JSON have no float.
use Rattle.std.proofs.Common.{◌≡◌, ℕ, Bool, true, false, ◌||◌, List, Option, Some, None, refl}
use mathlib.Core.Bool.{true≢false}
use Rattle.std.specs.Prelude.{option_map, string_bytes}
use Rattle.serde_json.specs.Written.{has_float}
use Rattle.der_signers.specs.declared.comparison.ContentComparison.{ContentComparison}
use Rattle.der_signers.specs.declared.comparison.DigestComparison.{DigestComparison}
use Rattle.der_signers.specs.declared.comparison.DigestComparison.TheVariants as digest
use Rattle.der_signers.specs.declared.message.Message.{Message}
use Rattle.der_signers.specs.declared.reason.Reason.{Reason}
use Rattle.der_signers.specs.declared.report.Report.{Report}
use Rattle.der_signers.specs.declared.report.Signed.{Signed}
use Rattle.der_signers.specs.declared.report.Signed.TheVariants as signed
use Rattle.der_signers.specs.declared.who.Who.{Who}
use Rattle.der_signers.specs.declared.who.Who.TheVariants.{Certificate, KeyIdentifier}
use Rattle.der_signers.specs.Json.{number_data, comparisons_data, content_data, digest_data, digests_data, hint_data}
use Rattle.der_signers.specs.Json.{no_signers_data, refused_data, signer_data, who_data}

or_false : (p q : Bool) → p ≡ false → q ≡ false → p || q ≡ false
or_false false q h k = k
or_false true q h k = absurd (true≢false h)

number_no_float : (n : Option ℕ) → has_float (number_data n) ≡ false
number_no_float (Some number) = refl
number_no_float None = refl

content_no_float : (content : Option ContentComparison) → has_float (content_data content) ≡ false
content_no_float (Some comparison) = refl
content_no_float None = refl

digest_no_float : (digest : Option (List ℕ)) → has_float (digest_data digest) ≡ false
digest_no_float (Some digest) = refl
digest_no_float None = refl

hint_no_float : (comparison : DigestComparison) → has_float (hint_data comparison) ≡ false
hint_no_float digest.Same = refl
hint_no_float digest.OtherLineEnds = refl
hint_no_float digest.Different = refl
hint_no_float digest.NoAttributes = refl
hint_no_float digest.UnknownAlgorithm = refl
hint_no_float digest.NoContent = refl

who_no_float : (who : Who) (digest signature : List ℕ) → has_float (who_data who digest signature) ≡ false
who_no_float (Certificate name) digest signature = refl
who_no_float (KeyIdentifier identifier) digest signature = refl

comparisons_no_float : (content : Option ContentComparison) (r : Report)
    → has_float (comparisons_data content r) ≡ false
comparisons_no_float content r =
    or_false _ _ refl
    (or_false _ _ (content_no_float content)
    (or_false _ _ refl (or_false _ _ refl (or_false _ _ (hint_no_float r.message_digest) refl))))

digests_no_float : (part : Signed) (digest : Option (List ℕ)) → has_float (digests_data part digest) ≡ false
digests_no_float signed.Attributes digest = or_false _ _ refl (or_false _ _ (digest_no_float digest) refl)
digests_no_float signed.Content digest = or_false _ _ (digest_no_float digest) refl

pub signer_no_float : (file : List ℕ) (block : Option ℕ) (content : Option ContentComparison) (index : ℕ) (r : Report)
    → has_float (signer_data file block content index r) ≡ false
signer_no_float file block content index r =
    or_false _ _ (number_no_float block)
    (or_false _ _ (comparisons_no_float content r)
    (or_false _ _ (digests_no_float r.signed (option_map (λ d. d.items) r.signed_digest))
    (or_false _ _ refl (or_false _ _ (who_no_float r.who (string_bytes r.digest) (string_bytes r.signature)) refl))))

pub no_signers_no_float : (file : List ℕ) (block : Option ℕ) (m : Message)
    → has_float (no_signers_data file block m) ≡ false
no_signers_no_float file block m =
    or_false _ _ (number_no_float block) (or_false _ _ refl (or_false _ _ (content_no_float m.content) refl))

pub refused_no_float : (file : List ℕ) (block : Option ℕ) (reason : Reason)
    → has_float (refused_data file block reason) ≡ false
refused_no_float file block reason =
    or_false _ _ (number_no_float block) (or_false _ _ refl (or_false _ _ (number_no_float reason.offset) refl))
