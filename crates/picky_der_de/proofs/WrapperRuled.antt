-- Values in wrappers, sequences and sets are refused by their rules.
use Rattle.std.proofs.Common.{◌≡◌, ℕ, ◌+◌, List, ◌++◌, length, Option, Some, None, refl, sym, ◌∙◌, ap}
use Rattle.std.proofs.Common.{subst, arith}
use Rattle.picky_der_core.specs.declared.error.Asn1DerError.{Asn1DerError}
use Rattle.picky_der_core.specs.declared.asn1.wrapper.Wrapper.{Wrapper}
use Rattle.picky_der_core.specs.Wrapper.{counts_unused_bits}
use Rattle.picky_der_core.specs.Tree.{Tree}
use Rattle.picky_der_core.specs.Reading.{written_at}
use Rattle.picky_der_core.specs.Refusal.{header_refusal, wrapper_header}
use Rattle.picky_der_core.specs.Shape.{Shape}
use Rattle.picky_der_de.specs.declared.end.End.TheVariants.{Soft}
use Rattle.picky_der_de.specs.State.{State}
use Rattle.picky_der_de.specs.Steps.{IsJudged, is_hard, place_of}
use Rattle.picky_der_de.specs.Order.{order_of}
use Rattle.picky_der_de.specs.Reading.{Reads}
use Rattle.picky_der_de.specs.Headers.{header_bytes}
use Rattle.picky_der_de.specs.Ends.{EnclosingEnd, RefusesClose, OpensList, RefusesList}
use Rattle.picky_der_de.specs.Wrappers.{refusal_after, opening_refusal, wrapper_opening, OpensWrapper, RefusesOpening}
use Rattle.picky_der_de.specs.RefusesBy.{Rule, spot_of, RefusesBy}
use Rattle.picky_der_de.specs.Rules.{IsNext, IsOpened, inside_spot, soft_spot, wrapped_rule, at_opening, at_value}
use Rattle.picky_der_de.specs.Rules.{after_value, list_refusal_at, list_rule, at_header, at_content}
use Rattle.picky_der_de.specs.Rules.{end_rule}
use Rattle.picky_der_de.proofs.Steps.{judged_after}
use Rattle.picky_der_de.proofs.Refusals.{front_consumed}
use Rattle.picky_der_de.proofs.Order.{judged_alike}
use Rattle.picky_der_de.proofs.Ends.{judged_with_inner_end}
use Rattle.picky_der_de.proofs.PlainReads.{all_of}
use Rattle.picky_der_de.proofs.PlainRuled.{same_left, bytes_by}

-- ---- a value that was read

-- it is at the front of known bytes, before those that are left
unfoldable pub next_of : {V : Type 0} {meaning : V → Tree} {s : Shape} {a b : State} {bs left : List ℕ} {after : ℕ}
    (v : V) → Reads s a b (meaning v) → a.input ≡ Some bs → b.input ≡ Some left → b.until_end ≡ after
    → IsNext meaning s (spot_of a) bs after left
next_of {meaning = meaning} {a = a} {b = b} {bs = bs} v r k l room =
    let written = written_at (place_of a) (meaning v) in
    let p = front_consumed a.input b.input written bs r.consumes.input k in
    record {
      value = v;
      of_shape = r.of_shape;
      readable = r.readable;
      may_be_there = r.may_be_there;
      is = p.2 ∙ ap (λ x. written ++ x) (same_left b.input p.1 l);
      ahead = r.consumes.until_end ∙ ap (λ n. length written + n) room;
    }

-- ---- wrappers

-- known bytes of which those before the value were consumed
record IsOpenedIn (w : Wrapper) (a b : State) (bs : List ℕ) : Type 0 where
  pub rest : List ℕ
  pub known : b.input ≡ Some rest
  pub is : IsOpened w (spot_of a) bs b.until_end rest

opens : {w : Wrapper} {a b : State} {outer : EnclosingEnd} {bs : List ℕ} → OpensWrapper w a b outer
    → a.input ≡ Some bs → IsOpenedIn w a b bs
opens {w} {a} {b} {outer} {bs} o k =
    let p = front_consumed a.input b.input (wrapper_opening w o.size) bs o.consumes.input k in
    record {
      rest = p.0;
      known = p.1;
      is = record {
        size = o.size;
        number = o.number;
        is = p.2;
        size_is = o.until_end;
        within = omega (arith, o.consumes.until_end, o.within);
      };
    }

inside : {w : Wrapper} {a b : State} {outer : EnclosingEnd} → OpensWrapper w a b outer
    → spot_of b ≡ inside_spot w b.until_end
inside {w} {a} {b} o = rw (ap is_hard o.end, o.implicit_tag) refl

opened_judged : {w : Wrapper} {a b c : State} {outer : EnclosingEnd} {e : Asn1DerError} → OpensWrapper w a b outer
    → IsJudged a c e → IsJudged b c e
opened_judged o j =
    let i = judged_after o.consumes j in
    record { had_not_failed = i.had_not_failed; faults = i.faults; memory = i.memory }

module _ {V : Type 0} (meaning : V → Tree) (s : Shape) (inner : Rule) {w : Wrapper} where
  pub opening_by : {a c : State} {e : Asn1DerError} → RefusesOpening w a c e
      → RefusesBy (wrapped_rule meaning s w inner) a c e
  opening_by {a} {c} {e} r j bs left k l =
      let by = bytes_by (opening_refusal w a)
      (λ at rest. refusal_after (counts_unused_bits w) (wrapper_header w at.hard at.ahead rest)) (λ rest. refl)
      r.just in
      at_opening (by j bs left k l)

  pub value_by : {a b c : State} {outer : EnclosingEnd} {e : Asn1DerError} → OpensWrapper w a b outer
      → RefusesBy inner b c e → RefusesBy (wrapped_rule meaning s w inner) a c e
  value_by {a} {b} {c} {outer} {e} o by j bs left k l =
      let p = opens o k in
      let q = by (opened_judged o j) p.rest left p.known l in
      at_value b.until_end p.rest p.is (subst (λ at. inner at p.rest e left) (inside o) q)

  pub left_over_by : {a b m c : State} {outer : EnclosingEnd} {e : Asn1DerError} (v : V) → OpensWrapper w a b outer
      → Reads s b m (meaning v) → RefusesClose m c e → RefusesBy (wrapped_rule meaning s w inner) a c e
  left_over_by {a} {b} {m} {c} {outer} {e} v o r h j bs left k l =
      let p = opens o k in
      let over = h.left r.consumes.not_failed in
      let n = next_of v r p.known (sym (ap (λ (z : State). z.input) over.2) ∙ l) refl in
      after_value b.until_end m.until_end p.rest p.is
      (subst (λ at. IsNext meaning s at p.rest m.until_end left) (inside o) n) over.0 over.1

-- ---- sequences and sets

header_of : (d : Option ℕ) (tag : ℕ) (s : State) (rest : List ℕ) → d ≡ None
    → header_refusal tag (is_hard s.end) s.until_end rest ≡ list_refusal_at d tag (spot_of s) rest
header_of None tag s rest e = refl
header_of (Some number) tag s rest e = absurd (let q : Some number ≡ None = e in cc)

module _ {tag : ℕ} (content : Rule) where
  -- there is no header
  pub header_by : {a c : State} {e : Asn1DerError} → RefusesList tag a c e → RefusesBy (list_rule tag content) a c e
  header_by {a} {c} {e} r j bs left k l =
      let h = r.begin.header j in
      let by = bytes_by (header_refusal tag (is_hard a.end) a.until_end)
      (λ at rest. list_refusal_at at.implicit_tag tag at rest) (λ rest. header_of a.implicit_tag tag a rest h.0)
      h.1.just in
      at_header (by j bs left k l)

  -- the content was refused
  pub content_by : {a b c : State} {outer : EnclosingEnd} {e : Asn1DerError} → OpensList tag a b outer
      → RefusesBy content b c e → RefusesBy (list_rule tag content) a c e
  content_by {a} {b} {c} {outer} {e} o by j bs left k l =
      let h = o.begins in
      let bytes = header_bytes a.implicit_tag tag o.size in
      let p = front_consumed a.input o.mid.input bytes bs h.consumes.input k in
      let judged : IsJudged b c e =
      subst (λ z. IsJudged z c e) (sym o.opened)
      (judged_alike (order_of tag)
      (judged_with_inner_end o.size Soft (judged_after h.consumes j))) in
      let known : b.input ≡ Some p.0 = ap (λ (z : State). z.input) o.opened ∙ p.1 in
      let q = by judged p.0 left known l in
      let here : spot_of b ≡ soft_spot o.size = ap spot_of o.opened ∙ rw h.implicit_tag refl in
      at_content o.size p.0 (record {
        is = p.2;
        all = all_of a.implicit_tag tag o.size a.until_end o.mid.until_end h.consumes.until_end h.all;
        within = omega (arith, h.consumes.until_end, h.fits);
      }) (subst (λ at. content at p.0 e left) here q)

-- something is left before the end
pub end_by : {c d : State} {e : Asn1DerError} → RefusesClose c d e → RefusesBy end_rule c d e
end_by {c} {d} h j bs left k l =
    let over = h.left j.had_not_failed in
    record {
      more = over.0;
      error = over.1;
      all_left = same_left d.input l (ap (λ (z : State). z.input) over.2 ∙ k);
    }
