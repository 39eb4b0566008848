-- What is at the front of bytes whose header was found.
use Rattle.std.proofs.Common.{◌≡◌, ℕ, ◌+◌, ◌≤◌, Some, None, List, length, arith, sym, subst}
use Rattle.std.specs.Prelude.{slice_range}
use Rattle.der_show.specs.declared.rule.Rule.{Rule}
use Rattle.der_show.specs.declared.header.Header.{Header}
use Rattle.der_show.specs.Headers.{HasHeader}
use Rattle.der_show.specs.Contents.{form_rule, IsContent, BreaksContent}
use Rattle.der_show.specs.Nodes.{header_size}
use Rattle.der_show.specs.Outlines.{Breaks, IsFound}
use Rattle.der_show.proofs.HeaderLemmas.{found, content_found}

module _ (bytes : List ℕ) (h : Header) (has : HasHeader bytes h) where
  pub header_within : h.header_len + h.content_len ≤ length bytes
  header_within = (found bytes h has).1

  pub form_broken : (r : Rule) → form_rule h.tag ≡ Some r → Breaks bytes r
  form_broken r e = Breaks.form h.tag has.content has.rest has.is e

  pub content_broken : (r : Rule) → BreaksContent h.tag (slice_range bytes h.header_len (h.header_len + h.content_len))
      r → Breaks bytes r
  content_broken r e =
      Breaks.content h.tag has.content has.rest has.is (subst (λ s. BreaksContent h.tag s r) (content_found bytes h has)
      e)

  pub front_found : form_rule h.tag ≡ None
      → IsContent h.tag (slice_range bytes h.header_len (h.header_len + h.content_len)) → IsFound bytes h
  front_found form content = record {
    content = has.content;
    rest = has.rest;
    is = has.is;
    canonical =
        record {
          number = has.number;
          form = form;
          is_content =
              subst (IsContent h.tag) (content_found bytes h has) content;
        };
    content_len = sym has.content_len;
    header_len = header_size_is;
  }
    where
      header_size_is : h.header_len ≡ header_size (length has.content)
      header_size_is = omega (arith, has.header_len)

-- an element that is in DER has a header
pub has_header : (front : List ℕ) (h : Header) → IsFound front h → HasHeader front h
has_header front h f =
    record {
      content = f.content;
      rest = f.rest;
      is = f.is;
      number = f.canonical.number;
      content_len =
          sym f.content_len;
      header_len = omega (arith, f.header_len);
    }
