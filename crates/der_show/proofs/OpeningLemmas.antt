-- Strings that are opened.
use Rattle.std.proofs.Common.{◌≡◌, ◌≢◌, ℕ, ◌+◌, ◌≤◌, ◌<◌, ◌^◌, ◌==◌, Bool, true, false, if◌then◌else◌, Option, Some}
use Rattle.std.proofs.Common.{None, List, [], ◌∷◌, length, take, drop, sym, ap, subst, ◌∙◌, arith, append-nil}
use Rattle.std.proofs.Common.{take-append-drop, length-take-le}
use Rattle.std.proofs.Math.Seq.{take-length}
use Rattle.std.specs.Prelude.{MatchBool, MatchOption, is_none}
use Rattle.picky_der_core.specs.Element.{IsElement}
use Rattle.der_show.specs.declared.header.Header.{Header}
use Rattle.der_show.specs.declared.rule.Rule.{Rule}
use Rattle.der_show.specs.declared.options.ShowOptions.{ShowOptions}
use Rattle.der_show.specs.Headers.{HasHeader, BreaksHeader}
use Rattle.der_show.specs.declared.outline.Complaint.{Complaint}
use Rattle.der_show.specs.Outlines.{IsFound, AreElements, IsComplaint}
use Rattle.der_show.specs.Openings.{Opens, IsOneInDer, whole_bytes}
use Rattle.der_show.specs.Entries.{content_of}
use Rattle.der_show.proofs.HeaderLemmas.{found, content_found, begins_with, one_element}
use Rattle.der_show.proofs.Fronts.{has_header}

abbrev held_by : Bool → Bool → List ℕ → Option (ℕ × List ℕ)
held_by is_octets is_bits content =
    if is_octets then Some (0, content) else (if is_bits then whole_bytes content else None)

abbrev after_zero : Bool → List ℕ → Option (ℕ × List ℕ)
after_zero is_zero bytes = if is_zero then Some (1, bytes) else None

first_of : Option (ℕ × List ℕ) → ℕ
first_of None = 0
first_of (Some pair) = pair.0

zero_some : (xs : List ℕ) (skipped : ℕ) (bytes : List ℕ) (b : Bool) → after_zero b xs ≡ Some (skipped, bytes)
    → skipped ≡ 1
unfolding first_of
zero_some xs skipped bytes true e = sym (ap first_of e)
zero_some xs skipped bytes false e = cc

held_some : (content : List ℕ) (skipped : ℕ) (bytes : List ℕ) (a b : Bool) → held_by a b content ≡ Some (skipped, bytes)
    → skipped ≤ length content
unfolding first_of
held_some content skipped bytes true b e = let none : skipped ≡ 0 = sym (ap first_of e) in omega arith
held_some [] skipped bytes false true e = cc
held_some (x ∷ xs) skipped bytes false true e = omega (arith, zero_some xs skipped bytes (x == 0) e)
held_some content skipped bytes false false e = cc

-- what is before the held bytes is in the content
pub held_within : (front : List ℕ) (h : Header) (skipped : ℕ) (o : ShowOptions) (depth : ℕ) → IsFound front h
    → Opens o depth h.tag (content_of front h) skipped → skipped ≤ h.content_len
held_within front h skipped o depth f opens =
    let has = has_header front h f in
    let size : length (content_of front h) ≡ h.content_len = ap length (content_found front h has) ∙ has.content_len in
    omega (arith, held_some (content_of front h) skipped opens.bytes (h.tag == 0x04) (h.tag == 0x03) opens.is_held)

-- ---- one element and nothing else

-- bytes without a header aren't one
pub not_one_broken : (bytes : List ℕ) (r : Rule) → length bytes < 2 ^ 64 → BreaksHeader bytes r → IsOneInDer bytes → ⊥
not_one_broken bytes r small broken one =
    begins_with bytes r small broken bytes one.one (record { rest = []; is = sym (append-nil bytes) })

-- nor are those that go on after it
pub not_one_longer : (bytes : List ℕ) (h : Header) → HasHeader bytes h → h.header_len + h.content_len ≢ length bytes
    → IsOneInDer bytes → ⊥
not_one_longer bytes h has other one =
    let (element, fits) = found bytes h has in
    let (same, none) =
    one_element bytes (take (h.header_len + h.content_len) bytes) [] (drop (h.header_len + h.content_len) bytes)
    one.one element (append-nil bytes ∙ sym (take-append-drop (h.header_len + h.content_len) bytes)) in
    other (omega (arith, ap length same, length-take-le (h.header_len + h.content_len) bytes fits))

-- they are one where a header takes all of them
pub is_one : (bytes : List ℕ) (h : Header) → HasHeader bytes h → h.header_len + h.content_len ≡ length bytes
    → AreElements bytes → IsOneInDer bytes
is_one bytes h has all e =
    let (element, fits) = found bytes h has in
    record { one = subst IsElement (ap (λ k. take k bytes) all ∙ take-length bytes) element; in_der = e }

pub one_by_complaint : (bytes : List ℕ) (h : Header) (it : Option Complaint) (b : Bool) → HasHeader bytes h
    → h.header_len + h.content_len ≡ length bytes
    → MatchOption it (AreElements bytes) (IsComplaint bytes) → b ≡ is_none it
    → MatchBool b (IsOneInDer bytes) (IsOneInDer bytes → ⊥)
one_by_complaint bytes h None b has all e same =
    subst (λ x. MatchBool x (IsOneInDer bytes) (IsOneInDer bytes → ⊥)) (sym same) (is_one bytes h has all e)
one_by_complaint bytes h (Some c) b has all e same =
    subst (λ x. MatchBool x (IsOneInDer bytes) (IsOneInDer bytes → ⊥)) (sym same) (λ one. let listed = one.in_der.1 in
    e.1.none listed.nodes listed.canonical listed.is)
