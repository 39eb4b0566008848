-- Contents that are tested.
use Rattle.std.proofs.Common.{◌≡◌, ◌≢◌, ℕ, Bool, true, false, Option, Some, None, Result, Ok, Err, List, refl, sym, ap}
use Rattle.std.proofs.Common.{subst}
use Rattle.std.specs.Prelude.{MatchBool, MatchOption, MatchResult, is_ok, IsUtf8}
use Rattle.std.specs.Str.{is_utf8}
use Rattle.std.proofs.lemmas.Str.{IsUtf8-from_is_utf8, is_utf8-from_IsUtf8}
use Rattle.der_show.specs.declared.rule.Rule.{Rule}
use Rattle.der_show.specs.declared.rule.Rule.TheVariants as rule
use Rattle.der_show.specs.Members.{IsSetContent, IsNoSetContent}
use Rattle.der_show.specs.Contents.{unless, primitive_rule, string_rule, IsContent, BreaksContent}

abbrev Judged : ℕ → List ℕ → Option Rule → Type 0
Judged tag content r = MatchOption r (IsContent tag content) (BreaksContent tag content)

set_judged : (content : List ℕ) (b : Bool) → MatchBool b (IsSetContent content) (IsNoSetContent content)
    → Judged 0x31 content (unless b rule.SetOrder)
set_judged content true h = record { primitive = refl; set = λ e. h }
set_judged content false h = BreaksContent.set refl h refl

pub set_rule : (tag : ℕ) (content : List ℕ) (b : Bool) (r : Option Rule) → tag ≡ 0x31
    → MatchBool b (IsSetContent content) (IsNoSetContent content) → r ≡ unless b rule.SetOrder → Judged tag content r
set_rule tag content b r e h k =
    subst (λ t. Judged t content r) (sym e) (subst (Judged 0x31 content) (sym k) (set_judged content b h))

pub other_rule : (tag : ℕ) (content : List ℕ) (r : Option Rule) → tag ≢ 0x31 → r ≡ primitive_rule tag content
    → Judged tag content r
other_rule tag content None other e = record { primitive = sym e; set = λ is. absurd (other is) }
other_rule tag content (Some x) other e = BreaksContent.primitive (sym e)

-- ---- texts

module _ {S E : Type 0} (P : S → Type 0) (Q : E → Type 0) (bytes : List ℕ) where
  refused_text : (b : Bool) → is_utf8 bytes ≡ b → ¬ (IsUtf8 bytes) → false ≡ is_utf8 bytes
  refused_text true e none = absurd (none (IsUtf8-from_is_utf8 bytes e))
  refused_text false e none = sym e

  pub text_tested : (r : Result S E) → MatchResult r (λ s. P s × IsUtf8 bytes) (λ e. ¬ (IsUtf8 bytes) × Q e)
      → is_ok r ≡ is_utf8 bytes
  text_tested (Ok s) h = sym (is_utf8-from_IsUtf8 bytes h.1)
  text_tested (Err e) h = refused_text (is_utf8 bytes) refl h.0

pub text_rule : (tag : ℕ) (bytes : List ℕ) (b : Bool) → tag ≡ 0x0C → b ≡ is_utf8 bytes
    → unless b rule.Utf8 ≡ string_rule tag bytes
text_rule tag bytes b e k =
    subst (λ t. unless b rule.Utf8 ≡ string_rule t bytes) (sym e) (ap (λ u. unless u rule.Utf8) k)
