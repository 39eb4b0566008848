-- What is found of a message with signed data (RFC 5652, 5.1 and 5.2).
use Rattle.std.specs.Prelude.{◌≡◌, ℕ, if◌then◌else◌, List, length, Option, None, Some, nat_eq, option_map}
use Rattle.std.specs.Cmp.Lexicographic.{pointwise}
use Rattle.std.specs.List.{AllZip}
use Rattle.der_cms.specs.declared.signed_data.SignedData.{SignedData}
use Rattle.der_signers.specs.declared.comparison.ContentComparison.{ContentComparison}
use Rattle.der_signers.specs.declared.comparison.ContentComparison.TheVariants.{Same, Different}
use Rattle.der_signers.specs.declared.message.Message.{Message}
use Rattle.der_signers.specs.declared.request.Request.{Request}
use Rattle.der_signers.specs.LineEnds.{taken}
use Rattle.der_signers.specs.Report.{IsReport}

-- ---- the message's own content and the one that was given, as their digests are computed

abbrev pub own_content : Request → SignedData → Option (List ℕ)
own_content request d =
    option_map (taken request.line_ends) (option_map (λ c. c.0.0.items) d.encap_content_info.e_content)

abbrev pub given_content : Request → Option (List ℕ)
given_content request = option_map (taken request.line_ends) (option_map (λ c. c.items) request.content)

-- the content at hand: the message's own, or if it has none the one that was given
abbrev pub or_given : Option (List ℕ) → Option (List ℕ) → Option (List ℕ)
or_given (Some content) given = Some content
or_given None given = given

abbrev pub same_contents : List ℕ → List ℕ → ContentComparison
same_contents own given = if pointwise nat_eq own given then Same else Different

-- both are compared, if they are there
abbrev pub content_comparison : Option (List ℕ) → Option (List ℕ) → Option ContentComparison
content_comparison (Some own) (Some given) = Some (same_contents own given)
content_comparison (Some own) None = None
content_comparison None given = None

-- ---- the whole

abbrev pub members_count : Option ℕ → ℕ
members_count (Some count) = count
members_count None = 0

-- with a report on each signer, in their order
pub record IsMessageOf (d : SignedData) (own given : Option (List ℕ)) (m : Message) : Type 0 where
  pub certificates : m.certificates ≡ members_count (option_map (λ set. length set.0.0.items) d.certificates)
  pub lists : m.lists ≡ members_count (option_map (λ set. length set.0.0.items) d.crls)
  pub content : m.content ≡ content_comparison own given
  pub reports : AllZip (IsReport d (or_given own given)) d.signer_infos.0.items m.reports.items
