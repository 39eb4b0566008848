-- Which bytes are strings, by the header at their front.
use Rattle.std.proofs.Common.{◌≡◌, ◌≢◌, ℕ, ◌+◌, ◌^◌, ◌<◌, ◌≤◌, Bool, true, false, List, [], ◌∷◌, ◌++◌, length, Option}
use Rattle.std.proofs.Common.{Some, None, MatchOption, String, string_bytes, refl, sym, ap, ◌∙◌, arith, length-append}
use Rattle.std.proofs.Common.{append-nil}
use Rattle.std.specs.Prelude.{slice_range, option_map}
use Rattle.std.specs.declared.alloc.Global.{Global}
use Rattle.std.specs.Str.{IsUtf8, is_utf8}
use Rattle.std.proofs.lemmas.Str.{IsUtf8-from_is_utf8, is_utf8-from_IsUtf8}
use Rattle.picky_der_core.specs.Element.{tlv, length_octets}
use Rattle.picky_der_core.specs.ElementLaws.{tlv-same}
use Rattle.der_show.specs.declared.header.Header.{Header}
use Rattle.der_show.specs.declared.rule.Rule.{Rule}
use Rattle.der_show.specs.Headers.{HasHeader, BreaksHeader}
use Rattle.der_show.proofs.HeaderLemmas.{begins_with, one_element, content_found}
use Rattle.der_read.specs.Names.{IsString, string_text, text_if, utf8_text}

-- without a header they are none
pub no_header : (bytes : List ℕ) (r : Rule) → length bytes < 2 ^ 64 → BreaksHeader bytes r → (s : List ℕ)
    → IsString bytes s → ⊥
no_header bytes r small broken =
    λ s string. begins_with bytes r small broken bytes string.element
    (record { rest = []; is = sym (append-nil bytes) })

module _ (bytes : List ℕ) (h : Header) (has : HasHeader bytes h) where
  sizes : length (tlv h.tag has.content) ≡ h.header_len + h.content_len
  unfolding tlv
  sizes = omega (arith, has.header_len, has.content_len, length-append (length_octets (length has.content)) has.content)

  all_sizes : length bytes ≡ (h.header_len + h.content_len) + length has.rest
  all_sizes = omega (arith, ap length has.is, length-append (tlv h.tag has.content) has.rest, sizes)

  pub inside : h.header_len + h.content_len ≤ length bytes
  inside = omega (arith, all_sizes)

  -- with bytes after the element they are none
  pub more_than_one : h.header_len + h.content_len ≢ length bytes → (s : List ℕ) → IsString bytes s → ⊥
  more_than_one other = λ s string.
      let whole : tlv h.tag has.content ++ has.rest ≡ bytes ++ [] = sym has.is ∙ sym (append-nil bytes) in
      let one = one_element (tlv h.tag has.content) bytes has.rest []
      (record { tag = h.tag; content = has.content; number = has.number; is = refl }) string.element whole in
      let none : length has.rest ≡ 0 = ap length one.1 in
      absurd (other (omega (arith, all_sizes, none)))

  module _ (all : h.header_len + h.content_len ≡ length bytes) where
    none_left : (rest : List ℕ) → length rest ≡ 0 → rest ≡ []
    none_left [] e = refl
    none_left (b ∷ rest) e = absurd (omega arith)

    is_element : bytes ≡ tlv h.tag has.content
    is_element = has.is ∙ ap (λ r. tlv h.tag has.content ++ r) (none_left has.rest (omega (arith, all_sizes, all)))
        ∙ append-nil (tlv h.tag has.content)

    -- the text of the content is theirs
    pub text_found : (r : Option (String Global))
        → option_map string_bytes r ≡ string_text h.tag (slice_range bytes h.header_len (h.header_len + h.content_len))
        → MatchOption r ((s : List ℕ) → IsString bytes s → ⊥) (λ s. IsString bytes (string_bytes s))
    text_found (Some s) e = record {
      element = record { tag = h.tag; content = has.content; number = has.number; is = is_element };
      has = sym (e ∙ ap (string_text h.tag) (content_found bytes h has));
    }
    text_found None e = λ s string.
        let same = tlv-same string.element.tag h.tag string.element.content has.content (sym string.element.is
        ∙ is_element) in
        let none : None ≡ string_text h.tag has.content = e ∙ ap (string_text h.tag) (content_found bytes h has) in
        let some : string_text h.tag has.content ≡ Some s = ap (λ t. string_text t has.content) (sym same.0)
        ∙ ap (string_text string.element.tag) (sym same.1) ∙ string.has in
        let bad : None ≡ Some s = none ∙ some in
        cc

-- ---- texts that are there on a condition

some_if : (holds : Bool) (s t : List ℕ) → holds ≡ true → s ≡ t → Some s ≡ text_if holds t
some_if true s t h e = ap Some e
some_if false s t h e = cc

none_if : (holds : Bool) (t : List ℕ) → (holds ≡ true → ⊥) → None ≡ text_if holds t
none_if true t other = absurd (other refl)
none_if false t other = refl

pub is_utf8_text : (content s : List ℕ) → IsUtf8 content → s ≡ content → Some s ≡ utf8_text content
is_utf8_text content s h e = some_if (is_utf8 content) s content (is_utf8-from_IsUtf8 content h) e

pub no_utf8_text : (content : List ℕ) → (IsUtf8 content → ⊥) → None ≡ utf8_text content
no_utf8_text content other = none_if (is_utf8 content) content (λ e. other (IsUtf8-from_is_utf8 content e))
