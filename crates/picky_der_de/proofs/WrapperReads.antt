-- Values in wrappers, read and refused.
use Rattle.std.proofs.Common.{◌≡◌, ℕ, zero, suc, ◌+◌, ◌<◌, ◌≤◌, ◌^◌, Bool, true, false, cond, List, [], ◌∷◌, ◌++◌}
use Rattle.std.proofs.Common.{length, take, Option, Some, None, Ok, Err, refl, ◌∙◌, ap, arith, ne_eqb, ◌≢◌, ◌-◌, inl}
use Rattle.std.proofs.Common.{inr, drop, sym, subst, append_assoc, length-append}
use Rattle.picky_der_core.specs.declared.error.Asn1DerError.{Asn1DerError}
use Rattle.picky_der_core.specs.declared.error.Asn1DerError.TheVariants.{TruncatedData, InvalidData, UnsupportedValue}
use Rattle.picky_der_core.specs.declared.error.Asn1DerError.TheVariants.{OutOfMemory}
use Rattle.picky_der_core.specs.declared.asn1.wrapper.Wrapper.{Wrapper}
use Rattle.picky_der_core.specs.Element.{length_octets, tlv}
use Rattle.picky_der_core.specs.Tree.{Tree, is_plain}
use Rattle.picky_der_core.specs.Encoding.{der, with_header, implicit_content}
use Rattle.picky_der_core.specs.EncodingLaws.{implicit_content-other, is_absent-readable, der-wrapped_present}
use Rattle.picky_der_core.specs.EncodingLaws.{same_encoding}
use Rattle.picky_der_core.specs.FirstLaws.{contains_numbered}
use Rattle.picky_der_core.specs.Readable.{IsReadable, IsHeadedIfChoice}
use Rattle.picky_der_core.specs.Reading.{written_at, MayBeAt, Place, IsAtFront}
use Rattle.picky_der_core.specs.Refusal.{Refusal, ReadOutcome, wrapper_header, header, header_refusal, refusal_of}
use Rattle.picky_der_core.specs.Shape.{Shape, IsFirst, IsOf}
use Rattle.picky_der_core.specs.Wrapper.{wrapper_tag, wrapper_number, wrapper_front, counts_unused_bits, keeps_header}
use Rattle.picky_der_core.specs.Wrapper.{HasTagNumber}
use Rattle.picky_der_core.specs.WrapperLaws.{wrapper_tag_number, wrapper_number-small, has_tag_number-true}
use Rattle.picky_der_core.specs.WrapperLaws.{has_tag_number-false}
use Rattle.picky_der_de.specs.State.{State}
use Rattle.picky_der_de.specs.Steps.{place_in, is_hard, Consumed, Fails, IsJudged, IsMissing, end_is_here, input_ended}
use Rattle.picky_der_de.specs.Steps.{UsesNoMemory, failed_with, mendable_within, fetched_count, place_of}
use Rattle.picky_der_de.specs.Wrappers.{implicit_tag_of, unused_bits_refusal, refusal_after, opening_refusal}
use Rattle.picky_der_de.specs.Wrappers.{OpensWrapper, RefusesOpening, BeginsWrapper, StopsUnusedBits, count_missing}
use Rattle.picky_der_de.specs.Wrappers.{count_other, RefusesUnusedBits, wrapper_opening, ReadsWrapped, RefusesWrapped}
use Rattle.picky_der_de.specs.Wrappers.{before_value, in_value, after_value}
use Rattle.picky_der_de.proofs.Headers.{is_number, header-read, header_length, length_tlv}
use Rattle.std.proofs.lemmas.Grind.{common_steps}
use Rattle.std.proofs.lemmas.List.{take-append-drop}
use Rattle.picky_der_de.specs.declared.end.End.TheVariants.{Hard}
use Rattle.picky_der_de.specs.Reading.{Concerns, now, ever, IsJustRefused, Reads, Refuses}
use Rattle.picky_der_de.specs.Headers.{RefusesHeader}
use Rattle.picky_der_de.specs.Ends.{EnclosingEnd, innermost, with_inner_end, with_outer_end, Closes}
use Rattle.picky_der_de.proofs.Steps.{consumes_then, consumes_beside, consumes_none, fails_after, judged_after}
use Rattle.picky_der_de.proofs.Refusals.{front_consumed, concerns_after, failed_grows, missing_here, consumed_first}
use Rattle.picky_der_de.proofs.Refusals.{at_end_of, end_below}
use Rattle.picky_der_de.proofs.KnownBytes.{front_of, just_consumed, just_unconsumed, kept_known, peeked_kept}
use Rattle.picky_der_de.proofs.PlainReads.{just_map}
use Rattle.picky_der_de.proofs.Ends.{judged_with_inner_end, fails_without_inner_end, consumes_around}
use Rattle.picky_der_core.specs.ElementLaws.{same_front}
use Rattle.picky_der_core.specs.ShapeLaws.{is_plain_shape, plain_by_shape}

-- ---- the tree in a wrapper

-- directly under an implicit tag with this number, or not
abbrev implicit_unless : Bool → ℕ → Option ℕ
implicit_unless headed tag = cond headed None (Some tag)

headed_if_choice : (headed : Bool) (tag until_end : ℕ) (t : Tree)
    → MayBeAt (place_in (implicit_unless headed tag) until_end) t → IsHeadedIfChoice headed t
headed_if_choice true tag until_end t m = tt
headed_if_choice false tag until_end t m = m.no_choice

pub readable_wrapped : (w : Wrapper) (t : Tree) (until_end : ℕ) → HasTagNumber w → IsReadable t
    → MayBeAt (place_in (implicit_tag_of w) until_end) t → IsReadable (Tree.wrapped w t)
readable_wrapped w t until_end n r m = (n, headed_if_choice (keeps_header w) (wrapper_tag w) until_end t m, r)

may_be_there_headed : (headed : Bool) (tag until_end : ℕ) (t : Tree) → IsHeadedIfChoice headed t
    → length (written_at (place_in (implicit_unless headed tag) until_end) t) ≡ until_end
    → MayBeAt (place_in (implicit_unless headed tag) until_end) t
may_be_there_headed true tag until_end t h l = tt
may_be_there_headed false tag until_end t h l = record { no_choice = h; filled = λ p. l }

pub may_be_there_inner : (w : Wrapper) (t : Tree) (until_end : ℕ) → IsReadable (Tree.wrapped w t)
    → length (written_at (place_in (implicit_tag_of w) until_end) t) ≡ until_end
    → MayBeAt (place_in (implicit_tag_of w) until_end) t
may_be_there_inner w t until_end r l = may_be_there_headed (keeps_header w) (wrapper_tag w) until_end t r.1 l

-- a wrapper is no plain value and no choice
pub may_be_there_wrapped : (d : Option ℕ) (until_end : ℕ) (w : Wrapper) (t : Tree)
    → MayBeAt (place_in d until_end) (Tree.wrapped w t)
may_be_there_wrapped None until_end w t = tt
may_be_there_wrapped (Some k) until_end w t =
    record { no_choice = tt; filled = λ p. absurd (let q : false ≡ true = p in cc) }

-- it keeps its header directly under an implicit tag
written_whole : (d : Option ℕ) (until_end : ℕ) (w : Wrapper) (t : Tree)
    → written_at (place_in d until_end) (Tree.wrapped w t) ≡ der (Tree.wrapped w t)
written_whole None until_end w t = refl
written_whole (Some k) until_end w t = implicit_content-other (Tree.wrapped w t) refl tt

written_headed : (headed : Bool) (tag until_end : ℕ) (t : Tree)
    → with_header headed t ≡ written_at (place_in (implicit_unless headed tag) until_end) t
written_headed true tag until_end t = refl
written_headed false tag until_end t = refl

-- what is written of a wrapper, wherever it is
pub written_wrapped : (d : Option ℕ) (ahead until_end : ℕ) (w : Wrapper) (t : Tree) → IsReadable t
    → written_at (place_in d ahead) (Tree.wrapped w t) ≡ tlv (wrapper_tag w)
    (wrapper_front w ++ written_at (place_in (implicit_tag_of w) until_end) t)
written_wrapped d ahead until_end w t r =
    written_whole d ahead w t ∙ der-wrapped_present w t (is_absent-readable t r)
    ∙ ap (λ c. tlv (wrapper_tag w) (wrapper_front w ++ c)) (written_headed (keeps_header w) (wrapper_tag w) until_end t)

pub first_wrapped : (w : Wrapper) (s : Shape) → HasTagNumber w → IsFirst (Shape.wrapped w s) (wrapper_tag w)
first_wrapped w s h = contains_numbered (wrapper_number w) (wrapper_tag w) (wrapper_number-small w h)

-- ---- the count of unused bits

pub some_unused : (w : Wrapper) → counts_unused_bits w ≡ true → wrapper_front w ≡ 0x00 ∷ []
some_unused w e = rw e refl

pub no_unused : (w : Wrapper) → counts_unused_bits w ≡ false → wrapper_front w ≡ []
no_unused w e = rw e refl

pub unused_cut : (n : ℕ) (y : List ℕ) → 0 < n → y ≡ [] → unused_bits_refusal n y ≡ Some (TruncatedData, y)
unused_cut zero y l e = absurd (omega arith)
unused_cut (suc n) y l e = rw e refl

pub unused_other : (n x : ℕ) (y : List ℕ) (e : Asn1DerError) → 0 < n → x ≢ 0x00 → e ≡ InvalidData
    → unused_bits_refusal n (x ∷ y) ≡ Some (e, y)
unused_other zero x y e l d is = absurd (omega arith)
unused_other (suc n) x y e l d is = rw (ne_eqb x 0x00 d, is) refl

unused_read : (n until_end : ℕ) (rest : List ℕ) → 1 ≤ n → n ≤ until_end
    → unused_bits_refusal n (take until_end (0x00 ∷ rest)) ≡ None
unused_read zero until_end rest l m = absurd (omega arith)
unused_read (suc n) zero rest l m = absurd (omega arith)
unused_read (suc n) (suc until_end) rest l m = refl

-- the count
abbrev count_if : Bool → List ℕ
count_if counts = cond counts (0x00 ∷ []) []

counted_read : (counts : Bool) (n until_end : ℕ) (rest left : List ℕ) → rest ≡ count_if counts ++ left
    → length (count_if counts) ≤ n → n ≤ until_end → refusal_after counts (Ok (n, take until_end rest)) ≡ None
counted_read true n until_end rest left e l m = ap (λ z. unused_bits_refusal n (take until_end z)) e
    ∙ unused_read n until_end left l m
counted_read false n until_end rest left e l m = refl

-- nothing is refused where it follows the header
pub after_read : (w : Wrapper) (n until_end : ℕ) (rest left : List ℕ) → rest ≡ wrapper_front w ++ left
    → length (wrapper_front w) ≤ n → n ≤ until_end → refusal_after (counts_unused_bits w) (Ok (n, take until_end rest))
    ≡ None
after_read w = counted_read (counts_unused_bits w)

-- ---- the header

header_is : (w : Wrapper) (hard : Bool) (ahead : ℕ) (rest : List ℕ) → HasTagNumber w
    → wrapper_header w hard ahead rest ≡ header (wrapper_tag w) hard ahead rest
header_is w hard ahead rest h = rw (has_tag_number-true w h, is_number (wrapper_tag_number w h)) refl

-- known bytes with a header in front
pub opening_read : (w : Wrapper) (s : State) (n q : ℕ) (y : List ℕ) → HasTagNumber w → n < 2 ^ 64
    → s.until_end ≡ length (wrapper_tag w ∷ length_octets n) + q → n ≤ q
    → opening_refusal w s ((wrapper_tag w ∷ length_octets n) ++ y) ≡ refusal_after (counts_unused_bits w) (Ok (n, y))
opening_read w s n q y h small r l =
    ap (refusal_after (counts_unused_bits w))
    (header_is w (is_hard s.end) s.until_end ((wrapper_tag w ∷ length_octets n) ++ y) h
    ∙ header-read (wrapper_tag w) (is_hard s.end) s.until_end n q y (wrapper_tag_number w h) small r l)

refused_after : (counts : Bool) (o : ReadOutcome ℕ) (r : Refusal) → refusal_of o ≡ Some r
    → refusal_after counts o ≡ Some r
refused_after counts (Ok read) r h = absurd (let q : None ≡ Some r = h in cc)
refused_after true (Err e) r h = h
refused_after false (Err e) r h = h

-- a refused header
pub opening_refused : (w : Wrapper) (s : State) (rest : List ℕ) (r : Refusal) → HasTagNumber w
    → header_refusal (wrapper_tag w) (is_hard s.end) s.until_end rest ≡ Some r → opening_refusal w s rest ≡ Some r
opening_refused w s rest r h e =
    refused_after (counts_unused_bits w) (wrapper_header w (is_hard s.end) s.until_end rest) r
    (ap refusal_of (header_is w (is_hard s.end) s.until_end rest h) ∙ e)

-- a tag of the long form is refused before any byte is looked at
pub opening_unsupported : (w : Wrapper) (s : State) (rest : List ℕ) → (HasTagNumber w → ⊥)
    → opening_refusal w s rest ≡ Some (UnsupportedValue, rest)
opening_unsupported w s rest h =
    refused_after (counts_unused_bits w) (wrapper_header w (is_hard s.end) s.until_end rest) (UnsupportedValue, rest)
    (rw (has_tag_number-false w h) refl)

-- ---- what is before the value in a wrapper, read and refused

-- ---- refused headers

-- a tag of the long form was asked for, and nothing was consumed
pub opening_past : {w : Wrapper} {a c : State} {e : Asn1DerError} → (HasTagNumber w → ⊥) → Fails a c e
    → e ≡ UnsupportedValue → c ≡ failed_with a e → a.until_end < 2 ^ 64 → RefusesOpening w a c e
opening_past {w} {a} {c} {e} n f is same small = record {
  fails = f;
  none = λ j end bs k content rest number. absurd (n number);
  first = λ j k. absurd (let r : UnsupportedValue ≡ TruncatedData = sym is ∙ k in cc);
  just = λ j bs k. just_unconsumed (opening_refusal w a) same k (λ rest. opening_unsupported w a rest n
      ∙ ap (λ x. Some (x, rest)) (sym is));
  memory = λ k l m. let r : UnsupportedValue ≡ OutOfMemory = sym is ∙ m in cc;
  bounded = λ k. small;
}

-- the header was refused
pub opening_header : {w : Wrapper} {a c : State} {e : Asn1DerError} → HasTagNumber w
    → RefusesHeader (wrapper_tag w) a c e → UsesNoMemory a c e → a.until_end < 2 ^ 64 → RefusesOpening w a c e
opening_header {w} {a} {c} {e} number h m small = record {
  fails = h.fails;
  none = λ j end bs k content rest n below is fits. h.none j end bs k (wrapper_front w ++ content) rest below is fits;
  first = λ j k l b left q. (h.first j k l b left q, number);
  just = λ j bs k. just_map (λ rest r x. opening_refused w a rest r number x) (h.just j bs k);
  memory = m;
  bounded = λ k. small;
}

-- ---- the count of unused bits

-- bytes to which a refusal applies, where a hard end is nearer
hard_concerns : {b c : State} {e : Asn1DerError} {n left : ℕ} {seen : List ℕ} → Concerns b c e left seen
    → Concerns (with_inner_end b n Hard) c e n seen
hard_concerns (now i r) = now i refl
hard_concerns (ever w r d y left i q f) = ever w refl d y left i q f

-- the same of the end that is open
pub own_concerns : {b c : State} (outer : EnclosingEnd) {e : Asn1DerError} {left : ℕ} {seen : List ℕ} → b.end ≡ Hard
    → Concerns (with_outer_end outer b) c e left seen → Concerns b c e b.until_end seen
own_concerns outer hard (now i r) = now i refl
own_concerns {b} outer hard (ever w r d y left i q f) =
    ever w (sym (ap (λ z. mendable_within z b.until_end) hard)) d y left i q f

first_byte : (x y : ℕ) (a b : List ℕ) → x ∷ a ≡ y ∷ b → x ≡ y
first_byte x y a b e = cc

-- if the count isn't 00, no container is there
no_container : {b c : State} {e : Asn1DerError} {n left : ℕ} {seen : List ℕ} (content : List ℕ)
    → StopsUnusedBits (with_inner_end b n Hard) c e → Concerns b c e left seen → n ≡ length (0x00 ∷ content)
    → (rest : List ℕ) → seen ≡ (0x00 ∷ content) ++ rest → ⊥
no_container content (count_missing m i t p) w size rest is = elim (missing_here m (hard_concerns w)) [
  | inl here ↦ omega (arith, here, size)
  | inr ended ↦ omega (arith, ap length (sym ended ∙ is))
]
no_container {c = c} content (count_other mid x t d is same) w size rest q =
    let grows : mid.consumed ≤ fetched_count c = omega (arith, ap (λ (s : State). s.consumed) same) in
    let v = concerns_after t grows (hard_concerns w) in
    d (first_byte x 0x00 v.rest (content ++ rest) (sym v.begins ∙ q))

-- what is refused is known by the input, and by what was consumed and peeked
just_alike : {refusal : List ℕ → Option Refusal} {a c d : State} {e : Asn1DerError} {bs : List ℕ} → d.input ≡ c.input
    → d.consumed ≡ c.consumed → d.peeked ≡ c.peeked → IsJustRefused refusal a c e bs → IsJustRefused refusal a d e bs
just_alike i t p h = record {
  left = h.left;
  refused = h.refused;
  input = i ∙ h.input;
  kept =
      λ q. p ∙ h.kept (sym t ∙ q);
  used = λ more. p ∙ h.used (omega (arith, more, t));
}

-- what was consumed before an opened end was consumed before the one around it
consumes_without_inner_end : {b c : State} {n : ℕ} {x : List ℕ} → n ≤ b.until_end
    → Consumed (with_inner_end b n Hard) c x
    → Consumed b (record c { until_end = b.until_end - length x; end = b.end; last = b.last }) x
consumes_without_inner_end l t = consumes_beside (omega (arith, t.until_end, l)) refl refl t

unused_missing : (n until_end : ℕ) (rest : List ℕ) (b : State) {e : Asn1DerError}
    → IsMissing (with_inner_end b n Hard) e → b.input ≡ Some rest
    → unused_bits_refusal n (take until_end rest) ≡ Some (e, take until_end rest)
unused_missing n until_end rest b (end_is_here z is) k = ap (λ m. unused_bits_refusal m (take until_end rest)) z
    ∙ ap (λ x. Some (x, take until_end rest)) (sym is)
unused_missing n until_end rest b (input_ended some ended is) k =
    let nothing : take until_end rest ≡ [] = ap (take until_end) (at_end_of b.input rest ended k)
    ∙ take_nothing until_end in
    unused_cut n (take until_end rest) some nothing ∙ ap (λ x. Some (x, take until_end rest)) (sym is)
  where
    take_nothing : (m : ℕ) → take {A = ℕ} m [] ≡ []
    take_nothing m = grind (arith, common_steps)

below : {w : Wrapper} {a b : State} {outer : EnclosingEnd} → (h : BeginsWrapper w a b outer) → h.size < 2 ^ 64
below h = omega (arith, h.fits, h.consumes.until_end, h.bounded)

-- known bytes after the header
counted : {w : Wrapper} {a b : State} {outer : EnclosingEnd} (h : BeginsWrapper w a b outer) (y : List ℕ)
    → counts_unused_bits w ≡ true → opening_refusal w a ((wrapper_tag w ∷ length_octets h.size) ++ y)
    ≡ unused_bits_refusal h.size y
counted {w} {a} h y e = opening_read w a h.size h.mid.until_end y h.number (below h) h.consumes.until_end h.fits
    ∙ ap (λ counts. refusal_after counts (Ok (h.size, y))) e

just_unused : {w : Wrapper} {a b c : State} {outer : EnclosingEnd} {e : Asn1DerError} {bs : List ℕ}
    (h : BeginsWrapper w a b outer) → counts_unused_bits w ≡ true
    → StopsUnusedBits (with_inner_end h.mid h.size Hard) c e → a.input ≡ Some bs
    → IsJustRefused (opening_refusal w a) a c e bs
just_unused {w} {a} {c = c} {bs = bs} h counts (count_missing m i t p) k =
    let f = front_of h.consumes k in
    let until_end = h.mid.until_end in
    let both : f.rest ≡ take until_end f.rest ++ drop a.until_end bs = sym (take-append-drop until_end f.rest)
    ∙ ap (λ x. take until_end f.rest ++ x) (sym f.past) in
    record {
      left = take until_end f.rest;
      refused = ap (opening_refusal w a) f.before ∙ counted h (take until_end f.rest) counts
          ∙ unused_missing h.size until_end f.rest h.mid m f.known;
      input = kept_known h.mid.input c.input f.rest i f.known ∙ ap (λ x. Some x) both;
      kept = peeked_kept c h.consumes t p;
      used = λ more. p ∙ h.consumes.unpeeked;
    }
just_unused {w} {a} {c = c} {e = e} h counts (count_other mid x t d is same) k =
    let header = wrapper_tag w ∷ length_octets h.size in
    let end = record mid { until_end = h.mid.until_end - 1; end = h.mid.end; last = h.mid.last } in
    let some : 0 < h.size = omega (arith, t.until_end) in
    just_alike (ap (λ (s : State). s.input) same) (ap (λ (s : State). s.consumed) same)
    (ap (λ (s : State). s.peeked) same)
    (just_consumed (opening_refusal w a) {c = failed_with end e}
    (consumes_then h.consumes (consumes_without_inner_end h.fits t)) refl k (λ y.
    ap (opening_refusal w a) (append_assoc header (x ∷ []) y) ∙ counted h (x ∷ y) counts
    ∙ unused_other h.size x y e some d is))

-- the count of unused bits after a header was refused
pub opening_unused : {w : Wrapper} {a b c : State} {outer : EnclosingEnd} {e : Asn1DerError} → BeginsWrapper w a b outer
    → counts_unused_bits w ≡ true → RefusesUnusedBits b c e → RefusesOpening w a c e
opening_unused {w} {a} {b} {c} {outer} {e} h counts r =
    let r' : RefusesUnusedBits (with_inner_end h.mid h.size Hard) c e =
    subst (λ z. RefusesUnusedBits z c e) h.opened r in
    let fails : Fails h.mid c e = fails_without_inner_end h.fits r'.fails in
    let judged : IsJudged a c e → IsJudged (with_inner_end h.mid h.size Hard) c e =
    λ j. judged_with_inner_end h.size Hard (judged_after h.consumes j) in
    let zero : wrapper_front w ≡ 0x00 ∷ [] = some_unused w counts in
    record {
      fails = fails_after h.consumes fails;
      none = λ j end bs k content rest n small is fits.
          let v = concerns_after h.consumes (failed_grows fails) k in
          let q = header_length (wrapper_tag w) h.size (wrapper_front w ++ content) v.rest rest (sym v.begins ∙ is) in
          let with : wrapper_front w ++ content ≡ 0x00 ∷ content = ap (λ u. u ++ content) zero in
          no_container content (r'.stops (judged j)) v.concerns (q.0 ∙ ap length with) rest
          (q.1 ∙ ap (λ u. u ++ rest) with);
      first = λ j k l x left q. (
        consumed_first a.input h.mid.input (wrapper_tag w) x (length_octets h.size) left
            h.consumes.input q,
        h.number,
      );
      just = λ j bs k. just_unused h counts (r'.stops (judged j)) k;
      memory = λ k same. r'.memory h.consumes.not_failed (same ∙ sym h.consumes.faults);
      bounded = λ k. h.bounded;
    }

-- ---- what was consumed

same_innermost : {a b : State} {x : List ℕ} → Consumed a b x → innermost b ≡ innermost a
same_innermost {a} {b} t =
    let position : b.consumed + b.until_end ≡ a.consumed + a.until_end = omega (arith, t.consumed, t.until_end) in
    rw (position, t.end, t.last) refl

not_refused : {w : Wrapper} {a b c : State} {outer : EnclosingEnd} {bs : List ℕ} (h : BeginsWrapper w a b outer)
    → Consumed (with_inner_end h.mid h.size Hard) c (wrapper_front w) → a.input ≡ Some bs
    → opening_refusal w a (take a.until_end bs) ≡ None
not_refused {w} {a} {c = c} h t k =
    let f = front_of h.consumes k in
    let p = front_consumed h.mid.input c.input (wrapper_front w) f.rest t.input f.known in
    ap (opening_refusal w a) f.before ∙ opening_read w a h.size h.mid.until_end (take h.mid.until_end f.rest) h.number
    (below h) h.consumes.until_end h.fits
    ∙ after_read w h.size h.mid.until_end f.rest p.0 p.2 (omega (arith, t.until_end)) h.fits

-- what is before the value was consumed
pub opens_wrapper : {w : Wrapper} {a b c d : State} {outer : EnclosingEnd} → BeginsWrapper w a b outer
    → Consumed b c (wrapper_front w) → d ≡ record c { implicit_tag = implicit_tag_of w } → OpensWrapper w a d outer
opens_wrapper {w} {a} {b} {c} {d} {outer} h consumed is =
    let t : Consumed (with_inner_end h.mid h.size Hard) c (wrapper_front w) =
    subst (λ z. Consumed z c (wrapper_front w)) h.opened consumed in
    let position : outer.position ≡ h.mid.consumed + h.mid.until_end =
    ap (λ (o : EnclosingEnd). o.position) h.outer_end in
    let new : State = record c { implicit_tag = implicit_tag_of w } in
    let after : Consumed h.mid (with_outer_end outer new) (wrapper_front w) =
    consumes_around outer new (consumes_beside (omega (arith, t.consumed, t.until_end, position, h.fits))
    (ap (λ (o : EnclosingEnd). o.kind) h.outer_end) (ap (λ (o : EnclosingEnd). o.last) h.outer_end) t) in
    subst (λ z. OpensWrapper w a z outer) (sym is) (record {
      size = h.size;
      number = h.number;
      outer_end = h.outer_end ∙ same_innermost h.consumes;
      consumes = consumes_then h.consumes after;
      until_end = t.until_end;
      within = omega (arith, t.consumed, t.until_end, position, h.fits);
      end = t.end;
      implicit_tag = refl;
      bounded = h.bounded;
      no_refusal = λ bs k. not_refused h t k;
    })

-- a wrapper that has no count of unused bits
pub opens_at_once : {w : Wrapper} {a b d : State} {outer : EnclosingEnd} → BeginsWrapper w a b outer
    → counts_unused_bits w ≡ false → d ≡ record b { implicit_tag = implicit_tag_of w } → OpensWrapper w a d outer
opens_at_once {w} {a} {b} {d} h none is =
    let nothing : Consumed b b [] = consumes_none b (ap (λ (s : State). s.failed) h.opened ∙ h.consumes.not_failed)
    (ap (λ (s : State). s.peeked) h.opened ∙ h.consumes.unpeeked) in
    opens_wrapper h (subst (Consumed b b) (sym (no_unused w none)) nothing) is

-- one that has
pub opens_after_count : {w : Wrapper} {a b c d : State} {outer : EnclosingEnd} → BeginsWrapper w a b outer
    → counts_unused_bits w ≡ true → Consumed b c (0x00 ∷ []) → d ≡ record c { implicit_tag = implicit_tag_of w }
    → OpensWrapper w a d outer
opens_after_count {w} {a} {b} {c} h some t is = opens_wrapper h (subst (Consumed b c) (sym (some_unused w some)) t) is

-- ---- values in wrappers, read and refused

-- ---- the end around

consumes_with_outer_end : {b c : State} {x : List ℕ} (outer : EnclosingEnd) → c.consumed ≤ outer.position
    → Consumed b c x → Consumed (with_outer_end outer b) (with_outer_end outer c) x
consumes_with_outer_end outer l t = record {
  input = t.input;
  consumed = t.consumed;
  until_end = omega (arith, t.consumed, l);
  end = refl;
  limit = t.limit;
  last = refl;
  unpeeked = t.unpeeked;
  fetched = t.fetched;
  had_not_failed = t.had_not_failed;
  not_failed = t.not_failed;
  faults = t.faults;
  references = t.references;
}

fails_with_outer_end : {b c : State} {e : Asn1DerError} (outer : EnclosingEnd)
    → b.consumed + b.until_end ≤ outer.position → Fails b c e → Fails (with_outer_end outer b) c e
fails_with_outer_end {b} {c} {e} outer l f = record {
  failed = f.failed;
  again = λ k w. let q = f.again k w in
      (q.0, record { input = q.1.input; consumed = q.1.consumed; peeked = q.1.peeked; faults = q.1.faults });
  faults = f.faults;
  unpeeked = f.unpeeked;
  other = f.other;
  took = record { bytes = f.took.bytes; input = f.took.input; count = f.took.count };
  grows = f.grows;
  end = omega (arith, f.end, l);
  limit = f.limit;
  within = λ w. f.within (record { end = omega (arith, w.end, l); fetched = w.fetched });
  there = f.there;
  references = f.references;
}

judged_with_outer_end : {b c : State} {e : Asn1DerError} (outer : EnclosingEnd) → IsJudged (with_outer_end outer b) c e
    → IsJudged b c e
judged_with_outer_end outer j = record { had_not_failed = j.had_not_failed; faults = j.faults; memory = j.memory }

opened_fails : {w : Wrapper} {a b c : State} {outer : EnclosingEnd} {e : Asn1DerError} → OpensWrapper w a b outer
    → Fails b c e → Fails a c e
opened_fails {outer = outer} o f = fails_after o.consumes (fails_with_outer_end outer o.within f)

opened_judged : {w : Wrapper} {a b c : State} {outer : EnclosingEnd} {e : Asn1DerError} → OpensWrapper w a b outer
    → IsJudged a c e → IsJudged b c e
opened_judged {outer = outer} o j = judged_with_outer_end outer (judged_after o.consumes j)

-- ---- what is in a wrapper

-- bytes to which a refusal applies begin with what is written of the tree, which fills what is left before the
-- wrapper's end
record FillsWrapper (w : Wrapper) (b c : State) (e : Asn1DerError) (s : Shape) (u : Tree) : Type 0 where
  pub seen : List ℕ
  pub concerns : Concerns b c e b.until_end seen
  pub at_front : IsAtFront (place_of b) s seen b.until_end u
  pub fills : length (written_at (place_of b) u) ≡ b.until_end

holds : {w : Wrapper} {a b c : State} {outer : EnclosingEnd} {e : Asn1DerError} {end : ℕ} {bs : List ℕ} (s : Shape)
    (u : Tree) → OpensWrapper w a b outer → Fails b c e → Concerns a c e end bs
    → IsAtFront (place_of a) (Shape.wrapped w s) bs end (Tree.wrapped w u) → FillsWrapper w b c e s u
holds {w} {a} {b} {c} {outer} {e} {end} {bs} s u o f k st =
    let readable = st.readable.2 in
    let unused = wrapper_front w in
    let part = written_at (place_in (implicit_tag_of w) b.until_end) u in
    let v = concerns_after o.consumes (failed_grows f) k in
    let header = wrapper_tag w ∷ length_octets o.size in
    let whole : written_at (place_of a) (Tree.wrapped w u) ≡ tlv (wrapper_tag w) (unused ++ part) =
    written_wrapped a.implicit_tag a.until_end b.until_end w u readable in
    let same : header ++ (unused ++ v.rest) ≡ tlv (wrapper_tag w) (unused ++ part) ++ st.front.rest =
    sym (append_assoc header unused v.rest) ∙ sym v.begins ∙ st.front.is ∙ ap (λ z. z ++ st.front.rest) whole in
    let q = header_length (wrapper_tag w) o.size (unused ++ part) (unused ++ v.rest) st.front.rest same in
    let front : v.rest ≡ part ++ st.front.rest =
    (same_front unused unused v.rest (part ++ st.front.rest) refl
    (q.1 ∙ append_assoc unused part st.front.rest)).1 in
    let fills : length part ≡ b.until_end = omega (arith, q.0, length-append unused part, o.until_end) in
    let at_front : IsAtFront (place_in (implicit_tag_of w) b.until_end) s v.rest b.until_end u = record {
      of_shape = st.of_shape.1;
      readable = readable;
      may_be_there = may_be_there_inner w u b.until_end st.readable fills;
      within = omega (arith, fills);
      front = record { rest = st.front.rest; is = front };
    } in
    record {
      seen = v.rest;
      concerns = own_concerns outer o.end v.concerns;
      at_front = subst (λ d. IsAtFront (place_in d b.until_end) s v.rest b.until_end u) (sym o.implicit_tag) at_front;
      fills = ap (λ d. length (written_at (place_in d b.until_end) u)) o.implicit_tag ∙ fills;
    }

-- what was read is as long as a value that would fill the wrapper
same_implicit_content : (plain : Bool) (until_end : ℕ) (t u : Tree) (x y : List ℕ) → is_plain t ≡ plain
    → is_plain u ≡ plain → IsReadable t → IsReadable u → MayBeAt (Place.under_implicit until_end) t
    → MayBeAt (Place.under_implicit until_end) u
    → implicit_content t ++ x ≡ implicit_content u ++ y → length (implicit_content u) ≡ until_end
    → length (implicit_content t) ≡ until_end
same_implicit_content true until_end t u x y p q r v f g e l = f.filled p
same_implicit_content false until_end t u x y p q r v f g e l =
    let h : implicit_content t ≡ der t = implicit_content-other t p f.no_choice in
    let k : implicit_content u ≡ der u = implicit_content-other u q g.no_choice in
    let i : der t ++ x ≡ der u ++ y = sym (ap (λ c. c ++ x) h) ∙ e ∙ ap (λ c. c ++ y) k in
    ap length (h ∙ (same_encoding t u x y r v i).0 ∙ sym k) ∙ l

same_size : (d : Option ℕ) (until_end : ℕ) (s : Shape) (t u : Tree) (x y : List ℕ) → IsOf s t → IsOf s u → IsReadable t
    → IsReadable u → MayBeAt (place_in d until_end) t → MayBeAt (place_in d until_end) u
    → written_at (place_in d until_end) t ++ x ≡ written_at (place_in d until_end) u ++ y
    → length (written_at (place_in d until_end) u) ≡ until_end
    → length (written_at (place_in d until_end) t) ≡ until_end
same_size None until_end s t u x y o p r v f g e l = ap length (same_encoding t u x y r v e).0 ∙ l
same_size (Some n) until_end s t u x y o p r v f g e l =
    same_implicit_content (is_plain_shape s) until_end t u x y (plain_by_shape s t o r f.no_choice)
    (plain_by_shape s u p v g.no_choice) r v f g e l

-- ---- refused values

not_opened : {V : Type 0} (meaning : V → Tree) (s : Shape) {w : Wrapper} {a c : State} {e : Asn1DerError} {end : ℕ}
    {bs : List ℕ} → RefusesOpening w a c e → IsJudged a c e → Concerns a c e end bs → (v : V)
    → IsAtFront (place_of a) (Shape.wrapped w s) bs end (Tree.wrapped w (meaning v)) → ⊥
not_opened meaning s {w} {a} {c} {e} {end} {bs} r j k v st =
    let part = written_at (place_in (implicit_tag_of w) 0) (meaning v) in
    let whole : written_at (place_of a) (Tree.wrapped w (meaning v)) ≡ tlv (wrapper_tag w) (wrapper_front w ++ part) =
    written_wrapped a.implicit_tag a.until_end 0 w (meaning v) st.readable.2 in
    let size : length (written_at (place_of a) (Tree.wrapped w (meaning v)))
    ≡ length (tlv (wrapper_tag w) (wrapper_front w ++ part)) = ap length whole in
    let small = end_below (r.bounded j.had_not_failed) k in
    r.none j end bs k part st.front.rest st.readable.0
    (omega (arith, st.within, size, length_tlv (wrapper_tag w) (wrapper_front w ++ part), small))
    (st.front.is ∙ ap (λ z. z ++ st.front.rest) whole) (omega (arith, st.within, size))

first_opened : {w : Wrapper} {a b : State} {outer : EnclosingEnd} (s : Shape) → OpensWrapper w a b outer
    → (x : ℕ) (left : List ℕ) → a.input ≡ Some (x ∷ left) → IsFirst (Shape.wrapped w s) x
first_opened {w} {a} {b} s o x left q =
    subst (IsFirst (Shape.wrapped w s))
    (sym (consumed_first a.input b.input (wrapper_tag w) x (length_octets o.size ++ wrapper_front w) left
    o.consumes.input q)) (first_wrapped w s o.number)

-- bytes are left over after a value that was read, so no value fills the wrapper
not_filled : {s : Shape} {w : Wrapper} {b last c : State} {e : Asn1DerError} {t u : Tree} → Reads s b last t
    → Fails last c e → 0 < last.until_end → FillsWrapper w b c e s u → ⊥
not_filled {s} {w} {b} {last} {c} {e} {t} {u} r f l z =
    let y = concerns_after r.consumes (failed_grows f) z.concerns in
    let full = same_size b.implicit_tag b.until_end s t u y.rest z.at_front.front.rest r.of_shape z.at_front.of_shape
    r.readable z.at_front.readable r.may_be_there z.at_front.may_be_there (sym y.begins ∙ z.at_front.front.is)
    z.fills in
    omega (arith, full, r.consumes.until_end, l)

-- no value was read in this wrapper, and none is there
pub refuses_wrapped : {V : Type 0} {meaning : V → Tree} {s : Shape} {w : Wrapper} {a c : State} {e : Asn1DerError}
    → RefusesWrapped meaning s w a c e → Refuses (λ v. Tree.wrapped w (meaning v)) (Shape.wrapped w s) a c e
refuses_wrapped {meaning = meaning} {s = s} {w = w} (before_value r) = record {
  fails = r.fails;
  none = λ j end bs k v st. not_opened meaning s r j k v st;
  first = λ j is d l x left q. let p = r.first j is l x left q in
      subst (IsFirst (Shape.wrapped w s)) (sym p.0) (first_wrapped w s p.1);
}
refuses_wrapped {meaning = meaning} {s = s} {w = w} (in_value b outer o r) = record {
  fails = opened_fails o r.fails;
  none = λ j end bs k v st.
      let z = holds s (meaning v) o r.fails k st in
      r.none (opened_judged o j) _ z.seen z.concerns v z.at_front;
  first = λ j is d l x left q. first_opened s o x left q;
}
refuses_wrapped {meaning = meaning} {s = s} {w = w} (after_value b last outer t o r k) =
    let left = k.left r.consumes.not_failed in
    let f = fails_after r.consumes k.fails in
    record {
      fails = opened_fails o f;
      none = λ j end bs concerns v st. not_filled r k.fails left.0 (holds s (meaning v) o f concerns st);
      first = λ j is d l x rest q. absurd (let z : InvalidData ≡ TruncatedData = sym left.1 ∙ is in cc);
    }

-- ---- what was read

whole_wrapped : (tag n : ℕ) (unused part : List ℕ) → n ≡ length unused + length part
    → ((tag ∷ length_octets n) ++ unused) ++ part ≡ tlv tag (unused ++ part)
unfolding tlv
whole_wrapped tag n unused part l =
    let size : n ≡ length (unused ++ part) = omega (arith, l, length-append unused part) in
    append_assoc (tag ∷ length_octets n) unused part ∙ ap (λ m. (tag ∷ length_octets m) ++ (unused ++ part)) size

-- a value was read up to the wrapper's end
pub reads_wrapped : {s : Shape} {w : Wrapper} {a b c d : State} {outer closed : EnclosingEnd} {t : Tree}
    → OpensWrapper w a b outer → Reads s b c t → Closes closed c d → closed ≡ outer → ReadsWrapped w s a d t
reads_wrapped {s} {w} {a} {b} {c} {d} {outer} {closed} {t} o r k same =
    let part = written_at (place_in (implicit_tag_of w) b.until_end) t in
    let is : written_at (place_of b) t ≡ part = ap (λ n. written_at (place_in n b.until_end) t) o.implicit_tag in
    let full : length part ≡ b.until_end = omega (arith, r.consumes.until_end, k.reached, ap length is) in
    let inner : Consumed b c part = subst (Consumed b c) is r.consumes in
    let within : c.consumed ≤ outer.position = omega (arith, inner.consumed, full, o.within) in
    let all = consumes_then o.consumes (consumes_with_outer_end outer within inner) in
    let bytes : wrapper_opening w o.size ++ part ≡ written_at (place_of a) (Tree.wrapped w t) =
    whole_wrapped (wrapper_tag w) o.size (wrapper_front w) part (omega (arith, o.until_end, full))
    ∙ sym (written_wrapped a.implicit_tag a.until_end b.until_end w t r.readable) in
    let end : d ≡ with_outer_end outer c = k.same ∙ ap (λ z. with_outer_end z c) same in
    let at_front : MayBeAt (place_in (implicit_tag_of w) b.until_end) t =
    subst (λ n. MayBeAt (place_in n b.until_end) t) o.implicit_tag r.may_be_there in
    record {
      reads = record {
        of_shape = (refl, r.of_shape);
        readable = readable_wrapped w t b.until_end o.number r.readable at_front;
        may_be_there = may_be_there_wrapped a.implicit_tag a.until_end w t;
        consumes = subst (λ z. Consumed a z (written_at (place_of a) (Tree.wrapped w t))) (sym end)
            (subst (Consumed a (with_outer_end outer c)) bytes all);
        implicit_tag = ap (λ (z : State). z.implicit_tag) end ∙ r.implicit_tag;
      };
      no_refusal = o.no_refusal;
    }
