-- Plain values, read and refused.
use Rattle.std.proofs.Common.{◌≡◌, ℕ, ◌+◌, ◌<◌, ◌≤◌, ◌^◌, inl, inr, true, false, List, [], ◌∷◌, ◌++◌, length, take}
use Rattle.std.proofs.Common.{Option, Some, None, IfSome, Ok, Err, refl, sym, ◌∙◌, ap, subst, arith, length-append}
use Rattle.std.proofs.Common.{append_assoc, lt-ltb, le-ltb, suc, ◌*◌, get_or, nat_lt, add-one}
use Rattle.std.specs.Io.KnownBytes.{Consumes}
use Rattle.std.proofs.Math.Seq.{take-append_seam, drop-append_seam}
use Rattle.std.proofs.lemmas.Bool.Decides.{nat_tests}
use Rattle.std.proofs.lemmas.Grind.{common_steps}
use Rattle.picky_der_core.specs.declared.error.Asn1DerError.{Asn1DerError}
use Rattle.picky_der_core.specs.declared.error.Asn1DerError.TheVariants.{TruncatedData, UnsupportedValue}
use Rattle.picky_der_core.specs.Element.{length_octets, tlv, AreBytes}
use Rattle.picky_der_core.specs.ElementLaws.{same_front}
use Rattle.picky_der_core.specs.Tag.{number_of, is_tag_number, IsTagNumber}
use Rattle.picky_der_core.specs.Primitive.{Primitive, PrimitiveShape, primitive_content, IsPrimitive}
use Rattle.picky_der_core.specs.Primitive.{IsReadablePrimitive, shape_tag, unsigned_content}
use Rattle.picky_der_core.specs.PrimitiveLaws.{primitive_tag-shape}
use Rattle.picky_der_core.specs.Tree.{Tree, is_plain}
use Rattle.picky_der_core.specs.Encoding.{der, implicit_content, content, plain_tag}
use Rattle.picky_der_core.specs.EncodingLaws.{der-plain, implicit_content-plain}
use Rattle.picky_der_core.specs.FirstLaws.{contains_numbered}
use Rattle.picky_der_core.specs.Readable.{IsNoChoice}
use Rattle.picky_der_core.specs.Shape.{Shape, IsFirst}
use Rattle.picky_der_core.specs.Reading.{written_at, MayBeAt, IsAtFront}
use Rattle.picky_der_core.specs.Refusal.{Judge, Refusal, refusal_leaving, header, header_refusal, refusal_of}
use Rattle.picky_der_core.specs.Refusal.{content_refusal, ReadOutcome, unsigned_error, number_error}
use Rattle.picky_der_de.specs.State.{State}
use Rattle.picky_der_de.specs.Steps.{Consumed, ConsumesKept, Fails, IsCut, StopsShort, IsJudged, failed_with, is_hard}
use Rattle.picky_der_de.specs.Steps.{place_in, place_of, fetched_count}
use Rattle.picky_der_de.specs.PlainKinds.{IsPlainKind, IsShortKind}
use Rattle.picky_der_de.specs.Reading.{Concerns, Refuses, refusal_in, refusal_at, IsJustRefused, AreJustRefused}
use Rattle.picky_der_de.specs.Reading.{ReadsJudged, RefusesJudged}
use Rattle.picky_der_de.proofs.PlainRuled.{plain_by}
use Rattle.picky_der_de.specs.Headers.{header_bytes, BeginsContent, RefusesBegin, NoElement}
use Rattle.picky_der_de.proofs.Steps.{consumes_then, fails_after, judged_after}
use Rattle.picky_der_de.proofs.Refusals.{concerns_after, failed_grows, cut_grows, missing_here, end_below}
use Rattle.picky_der_de.proofs.Refusals.{consumed_first}
use Rattle.picky_der_de.proofs.Headers.{cut_after, header_length, length_tlv, header-read}
use Rattle.picky_der_de.proofs.KnownBytes.{front_of, just_cut, just_consumed, just_unconsumed, missing_before}
use Rattle.std.specs.Int.Digits.{number_from_digits}
use Rattle.std.proofs.Math.Nat.{pow-suc, pow-le-pow_right}
use Rattle.picky_der_core.specs.UnsignedLaws.{content-unsigned_error}

-- ---- what follows the header

-- the encoding of a plain tree with this tag
der_of : (t : Tree) (tag : ℕ) → is_plain t ≡ true → plain_tag t ≡ tag → der t ≡ tlv tag (content t)
der_of t tag p e = der-plain t p ∙ ap (λ x. tlv x (content t)) e

pub record IsContentAtFront (d : Option ℕ) (tag n end : ℕ) (rest : List ℕ) (t : Tree) : Type 0 where
  pub size : length (content t) ≡ n
  pub after : List ℕ
  pub is : rest ≡ content t ++ after
  pub within : length (header_bytes d tag n) + n ≤ end

content_at_front : (d : Option ℕ) (tag n until_end end : ℕ) (s : Shape) (rest : List ℕ) (t : Tree) → is_plain t ≡ true
    → plain_tag t ≡ tag → IfSome d (λ number. n ≡ until_end)
    → IsAtFront (place_in d until_end) s (header_bytes d tag n ++ rest) end t → IsContentAtFront d tag n end rest t
content_at_front None tag n until_end end s rest t p e a st =
    let is : (tag ∷ length_octets n) ++ rest ≡ tlv tag (content t) ++ st.front.rest =
    st.front.is ∙ ap (λ z. z ++ st.front.rest) (der_of t tag p e) in
    let q = header_length tag n (content t) rest st.front.rest is in
    let size : length (der t) ≡ length (tlv tag (content t)) = ap length (der_of t tag p e) in
    let same : length (length_octets n) ≡ length (length_octets (length (content t))) =
    ap (λ m. length (length_octets m)) q.0 in
    record {
      size = sym q.0;
      after = st.front.rest;
      is = q.1;
      within =
          omega (arith, st.within, size, length_tlv tag (content t), same, q.0);
    }
content_at_front (Some number) tag n until_end end s rest t p e a st =
    let is : implicit_content t ≡ content t = implicit_content-plain t p in
    let size : length (content t) ≡ until_end = ap length (sym is) ∙ st.may_be_there.filled p in
    record {
      size = size ∙ sym a;
      after = st.front.rest;
      is = st.front.is ∙ ap (λ z. z ++ st.front.rest) is;
      within =
          omega (arith, st.within, size, ap length is);
    }

pub all_of : (d : Option ℕ) (tag n until_end left : ℕ) → until_end ≡ length (header_bytes d tag n) + left
    → IfSome d (λ number. n ≡ left) → IfSome d (λ number. n ≡ until_end)
all_of None tag n until_end left r a = tt
all_of (Some number) tag n until_end left r a = omega arith

-- the content of a value that is there, after its header
pub record SeenContent (mid new : State) (e : Asn1DerError) (n : ℕ) (t : Tree) : Type 0 where
  pub left : ℕ
  pub seen : List ℕ
  pub concerns : Concerns mid new e left seen
  pub fits : n ≤ left
  pub rest : List ℕ
  pub begins : seen ≡ content t ++ rest
  pub size : length (content t) ≡ n

pub seen_content : {a b c : State} {s : Shape} {e : Asn1DerError} {tag n end : ℕ} {bs : List ℕ} {t : Tree}
    → BeginsContent tag a b n → b.consumed ≤ fetched_count c → is_plain t ≡ true → plain_tag t ≡ tag
    → Concerns a c e end bs → IsAtFront (place_of a) s bs end t → SeenContent b c e n t
seen_content {a} {b} {c} {s} {e} {tag} {n} {end} {bs} {t} h g p k w st =
    let v = concerns_after h.consumes g w in
    let st' : IsAtFront (place_of a) s (header_bytes a.implicit_tag tag n ++ v.rest) end t =
    subst (λ x. IsAtFront (place_of a) s x end t) v.begins st in
    let q = content_at_front a.implicit_tag tag n a.until_end end s v.rest t p k
    (all_of a.implicit_tag tag n a.until_end b.until_end h.consumes.until_end h.all) st' in
    record {
      left = v.left;
      seen = v.rest;
      concerns = v.concerns;
      fits = omega (arith, v.ends, q.within);
      rest =
          q.after;
      begins = q.is;
      size = q.size;
    }

-- ---- refused headers

pub no_plain : (d : Option ℕ) (tag until_end end : ℕ) (s : Shape) (bs : List ℕ) (t : Tree) → d ≡ None → end < 2 ^ 64
    → is_plain t ≡ true → plain_tag t ≡ tag → NoElement tag end bs → IsAtFront (place_in d until_end) s bs end t → ⊥
no_plain None tag until_end end s bs t e small p k h st =
    let size : length (der t) ≡ length (tlv tag (content t)) = ap length (der_of t tag p k) in
    h (content t) st.front.rest (omega (arith, st.within, size, length_tlv tag (content t), small)) (st.front.is
    ∙ ap (λ z. z ++ st.front.rest) (der_of t tag p k)) (omega (arith, st.within, size))
no_plain (Some number) tag until_end end s bs t e small p k h st = absurd (let q : Some number ≡ None = e in cc)

refused_in : (d : Option ℕ) (tag : ℕ) (judge : Judge) (s : State) (rest : List ℕ) (r : Refusal) → d ≡ None
    → header_refusal tag (is_hard s.end) s.until_end rest ≡ Some r → refusal_in d tag judge s rest ≡ Some r
refused_in None tag judge s rest r e h = refused (header tag (is_hard s.end) s.until_end rest) h
  where
    refused : (o : ReadOutcome ℕ) → refusal_of o ≡ Some r → content_refusal judge o ≡ Some r
    refused (Ok read) h = absurd (let q : None ≡ Some r = h in cc)
    refused (Err e) h = h
refused_in (Some number) tag judge s rest r e h = absurd (let q : Some number ≡ None = e in cc)

pub just_map : {p q : List ℕ → Option Refusal} {a c : State} {e : Asn1DerError} {bs : List ℕ}
    → ((rest : List ℕ) (r : Refusal) → p rest ≡ Some r → q rest ≡ Some r) → IsJustRefused p a c e bs
    → IsJustRefused q a c e bs
just_map {a = a} {e = e} {bs = bs} f h =
    record {
      left = h.left;
      refused = f (take a.until_end bs) (e, h.left) h.refused;
      input = h.input;
      kept =
          h.kept;
      used = h.used;
    }

primitive_first : (k : PrimitiveShape) → IsTagNumber (number_of (shape_tag k))
    → IsFirst (Shape.primitive k) (shape_tag k)
primitive_first k number = contains_numbered (number_of (shape_tag k)) (shape_tag k) number

-- a plain value whose header was refused
pub refuses_header : {V : Type 0} {meaning : V → Primitive} {k : PrimitiveShape} {judge : Judge} {a c : State}
    {e : Asn1DerError} → IsPlainKind meaning k judge → RefusesBegin (shape_tag k) a c e
    → RefusesJudged meaning k judge a c e
refuses_header {k = k} {judge = judge} {a = a} {c = c} {e = e} kind h = record {
  refuses = record {
    fails = h.fails;
    none = λ j end bs w v st. let r = h.header j in
        no_plain a.implicit_tag (shape_tag k) a.until_end end (Shape.primitive k) bs _ r.0
        (end_below (h.bounded j.had_not_failed) w) refl (primitive_tag-shape k _ st.of_shape) (r.1.none j end bs w) st;
    first = λ j is d l b left q. subst (IsFirst (Shape.primitive k)) (sym ((h.header j).1.first j is l b left q))
        (primitive_first k kind.number);
  };
  just = just;
  by = plain_by (shape_tag k) judge just;
} where
  just : AreJustRefused (refusal_at (shape_tag k) judge a) a c e
  just j bs i = let r = h.header j in just_map (λ rest x. refused_in a.implicit_tag (shape_tag k) judge a rest x r.0)
      (r.1.just j bs i)

-- ---- tags that aren't read

unsupported_in : (d : Option ℕ) (tag : ℕ) (judge : Judge) (s : State) (rest : List ℕ) → 30 < number_of tag
    → refusal_in d tag judge s rest ≡ Some (UnsupportedValue, rest)
unsupported_in None tag judge s rest n = let past : is_tag_number (number_of tag) ≡ false = grind (arith, nat_tests) in
    rw past refl
unsupported_in (Some number) tag judge s rest n = let past : is_tag_number (number_of tag) ≡ false =
    grind (arith, nat_tests) in rw past refl

-- a tag of the long form was asked for, and nothing was consumed
pub refuses_number : {V : Type 0} {meaning : V → Primitive} {k : PrimitiveShape} {judge : Judge} {a c : State}
    {e : Asn1DerError} → 30 < number_of (shape_tag k)
    → ((v : V) → IsPrimitive k (meaning v) → IsReadablePrimitive (meaning v) → ⊥) → Fails a c e → e ≡ UnsupportedValue
    → c ≡ failed_with a e
    → RefusesJudged meaning k judge a c e
refuses_number {k = k} {judge = judge} {a = a} {c = c} {e = e} n none f is same = record {
  refuses = record {
    fails = f;
    none = λ j end bs w v st. none v st.of_shape st.readable;
    first = λ j cut d l b left q. absurd (let r : UnsupportedValue ≡ TruncatedData = sym is ∙ cut in cc);
  };
  just = just;
  by = plain_by (shape_tag k) judge just;
} where
  just : AreJustRefused (refusal_at (shape_tag k) judge a) a c e
  just j bs known = just_unconsumed (refusal_at (shape_tag k) judge a) same known
      (λ rest. unsupported_in a.implicit_tag (shape_tag k) judge a rest n ∙ ap (λ x. Some (x, rest)) (sym is))

-- ---- refused contents

pub first_of_header : (s : Shape) (d : Option ℕ) (i j : Option (List ℕ)) (tag n : ℕ) → IsFirst s tag
    → Consumes i j (header_bytes d tag n) → d ≡ None → (b : ℕ) (left : List ℕ) → i ≡ Some (b ∷ left) → IsFirst s b
first_of_header s None i j tag n f t e b left k =
    subst (IsFirst s) (sym (consumed_first i j tag b (length_octets n) left t k)) f
first_of_header s (Some number) i j tag n f t e b left k = absurd (let q : Some number ≡ None = e in cc)

-- known bytes after the header are judged
content_at : (d : Option ℕ) (tag n q : ℕ) (judge : Judge) (s : State) (y : List ℕ) → IsTagNumber (number_of tag)
    → n < 2 ^ 64 → s.until_end ≡ length (header_bytes d tag n) + q → n ≤ q → IfSome d (λ number. n ≡ q)
    → refusal_in d tag judge s (header_bytes d tag n ++ y) ≡ content_refusal judge (Ok (n, y))
content_at None tag n q judge s y i small r l a =
    ap (content_refusal judge) (header-read tag (is_hard s.end) s.until_end n q y i small r l)
content_at (Some number) tag n q judge s y i small r l a =
    let in_range : is_tag_number (number_of tag) ≡ true = grind (arith, nat_tests) in
    let all : s.until_end ≡ n = omega arith in
    rw (in_range, all) refl

content_cut : (judge : Judge) (n : ℕ) (y : List ℕ) → length y < n
    → content_refusal judge (Ok (n, y)) ≡ Some (TruncatedData, [])
content_cut judge n y l = rw (lt-ltb (length y) n l) refl

content_judged : (judge : Judge) (x y : List ℕ)
    → content_refusal judge (Ok (length x, x ++ y)) ≡ refusal_leaving (judge x) y
content_judged judge x y = rw (
  le-ltb (length (x ++ y)) (length x) (omega (arith, length-append x y)),
  take-append_seam x y,
  drop-append_seam x y,
) refl

pub fits_below : {a b : State} {tag n : ℕ} → BeginsContent tag a b n → n < 2 ^ 64
fits_below h = omega (arith, h.fits, h.consumes.until_end, h.bounded)

-- a plain value whose header was consumed
after_header : {V : Type 0} {meaning : V → Primitive} {k : PrimitiveShape} {n : ℕ} {judge : Judge} {a b c : State}
    {e : Asn1DerError} → IsPlainKind meaning k judge → BeginsContent (shape_tag k) a b n → Fails b c e
    → (IsJudged b c e → (v : V) → IsPrimitive k (meaning v) → SeenContent b c e n (Tree.primitive (meaning v)) → ⊥)
    → (IsJudged b c e → (bs : List ℕ) → a.input ≡ Some bs
    → IsJustRefused (refusal_at (shape_tag k) judge a) a c e bs)
    → RefusesJudged meaning k judge a c e
after_header {k = k} {n = n} {judge = judge} {a = a} {b = b} kind h f none just = record {
  refuses = record {
    fails = fails_after h.consumes f;
    none = λ j end bs w v st. none (judged_after h.consumes j) v st.of_shape
        (seen_content h (failed_grows f) refl (primitive_tag-shape k _ st.of_shape) w st);
    first = λ j is d x left l q. first_of_header (Shape.primitive k) a.implicit_tag a.input b.input (shape_tag k) n
        (primitive_first k kind.number) h.consumes.input d left l q;
  };
  just = λ j. just (judged_after h.consumes j);
  by = plain_by (shape_tag k) judge (λ j. just (judged_after h.consumes j));
}

content_missing : {b c : State} {e : Asn1DerError} {n : ℕ} {t : Tree} → IsCut b c n e → SeenContent b c e n t → ⊥
content_missing {t = t} m w =
    let v = concerns_after m.consumes (cut_grows m) w.concerns in
    let sizes : length m.bytes + length v.rest ≡ length (content t) + length w.rest =
    sym (length-append m.bytes v.rest) ∙ ap length (sym v.begins ∙ w.begins) ∙ length-append (content t) w.rest in
    elim (missing_here m.missing v.concerns) [
      | inl here ↦ omega (arith, w.fits, v.ends, m.short)
      | inr ended ↦ omega (arith, w.size, m.short, sizes, ap length ended)
    ]

just_content_cut : (tag n : ℕ) (judge : Judge) {a b c : State} {e : Asn1DerError} {bs : List ℕ}
    → IsTagNumber (number_of tag) → BeginsContent tag a b n → IsCut b c n e → a.input ≡ Some bs
    → IsJustRefused (refusal_at tag judge a) a c e bs
unfolding cut_after
just_content_cut tag n judge {a} {b} {c} {e} i h m k =
    let header = header_bytes a.implicit_tag tag n in
    let few : length (header ++ m.bytes) < a.until_end =
    omega (arith, length-append header m.bytes, h.consumes.until_end, h.fits, m.short) in
    just_cut (refusal_at tag judge a) (cut_after h.consumes refl m) k (λ is.
    let error : e ≡ TruncatedData = sym is ∙ missing_before a.end a.until_end (header ++ m.bytes) few in
    content_at a.implicit_tag tag n b.until_end judge a m.bytes i (fits_below h) h.consumes.until_end h.fits h.all
    ∙ content_cut judge n m.bytes m.short ∙ ap (λ x. Some (x, [])) (sym error))

-- the content ended before it was whole
pub refuses_cut : {V : Type 0} {meaning : V → Primitive} {k : PrimitiveShape} {n : ℕ} {judge : Judge} {a b c : State}
    {e : Asn1DerError} → IsPlainKind meaning k judge → BeginsContent (shape_tag k) a b n → StopsShort b c n e
    → RefusesJudged meaning k judge a c e
refuses_cut {k = k} {n = n} {judge = judge} kind h f =
    after_header kind h f.fails (λ j v o. content_missing (f.short j))
    (λ j bs i. just_content_cut (shape_tag k) n judge kind.number h (f.short j) i)

judged_none : (judge : Judge) {b c d : State} {e : Asn1DerError} {n : ℕ} {t : Tree} {x : List ℕ} → Consumed b c x
    → length x ≡ n → c.consumed ≤ fetched_count d → judge x ≡ Some e → judge (content t) ≡ None → SeenContent b d e n t
    → ⊥
judged_none judge {e = e} {t = t} {x = x} h l g bad good w =
    let v = concerns_after h g w.concerns in
    let same : x ≡ content t = (same_front x (content t) v.rest w.rest (l ∙ sym w.size) (sym v.begins ∙ w.begins)).0 in
    let q : Some e ≡ None = sym bad ∙ ap judge same ∙ good in
    cc

just_judged : (tag n : ℕ) (judge : Judge) {a b c d : State} {e : Asn1DerError} {x bs : List ℕ}
    → IsTagNumber (number_of tag) → BeginsContent tag a b n → Consumed b c x → length x ≡ n → judge x ≡ Some e
    → d ≡ failed_with c e → a.input ≡ Some bs
    → IsJustRefused (refusal_at tag judge a) a d e bs
just_judged tag n judge {a} {b} {c} {d} {e} {x} i h t l bad same k =
    let header = header_bytes a.implicit_tag tag n in
    just_consumed (refusal_at tag judge a) (consumes_then h.consumes t) same k (λ y.
    ap (refusal_at tag judge a) (append_assoc header x y)
    ∙ content_at a.implicit_tag tag n b.until_end judge a (x ++ y) i (fits_below h) h.consumes.until_end h.fits h.all
    ∙ ap (λ m. content_refusal judge (Ok (m, x ++ y))) (sym l)
    ∙ content_judged judge x y ∙ ap (λ r. refusal_leaving r y) bad)

-- the content isn't one of the kind
pub refuses_content : {V : Type 0} {meaning : V → Primitive} {k : PrimitiveShape} {n : ℕ} {judge : Judge}
    {a b c d : State} {e : Asn1DerError} {x : List ℕ} → IsPlainKind meaning k judge → BeginsContent (shape_tag k) a b n
    → Consumed b c x → length x ≡ n
    → Fails c d e → judge x ≡ Some e → d ≡ failed_with c e → RefusesJudged meaning k judge a d e
refuses_content {k = k} {n = n} {judge = judge} kind h t l f bad same =
    after_header kind h (fails_after t f) (λ j v o. judged_none judge t l (failed_grows f) bad (kind.judged v o))
    (λ j bs i. just_judged (shape_tag k) n judge kind.number h t l bad same i)

-- ---- what was read

pub consumes_plain : (d : Option ℕ) (until_end : ℕ) {a b c : State} {tag n : ℕ} (t : Tree) → is_plain t ≡ true
    → plain_tag t ≡ tag → Consumed a b (header_bytes d tag n) → Consumed b c (content t) → length (content t) ≡ n
    → Consumed a c (written_at (place_in d until_end) t)
unfolding tlv
consumes_plain None until_end {a} {b} {c} {tag} {n} t p k h x l =
    let is : (tag ∷ length_octets n) ++ content t ≡ der t = rw (der_of t tag p k, l) refl in
    subst (Consumed a c) is (consumes_then h x)
consumes_plain (Some number) until_end {a} {b} {c} t p k h x l =
    subst (Consumed a c) (sym (implicit_content-plain t p)) (consumes_then h x)

pub may_be_there : (d : Option ℕ) (tag n until_end left : ℕ) (t : Tree) → is_plain t ≡ true
    → until_end ≡ length (header_bytes d tag n) + left → IfSome d (λ number. n ≡ left) → length (content t) ≡ n
    → IsNoChoice t → MayBeAt (place_in d until_end) t
may_be_there None tag n until_end left t p r a l c = tt
may_be_there (Some number) tag n until_end left t p r a l c =
    record { no_choice = c; filled = λ q. omega (arith, ap length (implicit_content-plain t p)) }

not_refused : (tag n : ℕ) (judge : Judge) {a b c : State} {x bs : List ℕ} → IsTagNumber (number_of tag)
    → BeginsContent tag a b n → Consumed b c x → length x ≡ n → judge x ≡ None → a.input ≡ Some bs
    → refusal_at tag judge a (take a.until_end bs) ≡ None
not_refused tag n judge {a} {b} {c} {x} {bs} i h t l good k =
    let header = header_bytes a.implicit_tag tag n in
    let f = front_of (consumes_then h.consumes t) k in
    let y = take c.until_end f.rest in
    ap (refusal_at tag judge a) (f.before ∙ append_assoc header x y)
    ∙ content_at a.implicit_tag tag n b.until_end judge a (x ++ y) i (fits_below h) h.consumes.until_end h.fits h.all
    ∙ ap (λ m. content_refusal judge (Ok (m, x ++ y))) (sym l)
    ∙ content_judged judge x y ∙ ap (λ r. refusal_leaving r y) good

-- a plain value was read
pub reads_plain : {V : Type 0} {meaning : V → Primitive} {k : PrimitiveShape} {n : ℕ} {judge : Judge} {a b c : State}
    → IsPlainKind meaning k judge → (v : V) → IsPrimitive k (meaning v) → IsReadablePrimitive (meaning v)
    → BeginsContent (shape_tag k) a b n → Consumed b c (primitive_content (meaning v))
    → length (primitive_content (meaning v)) ≡ n → c.implicit_tag ≡ None → ReadsJudged k judge a c (meaning v)
reads_plain {meaning = meaning} {k = k} {n = n} {judge = judge} {a = a} {b = b} kind v o r h t l d = record {
  reads = record {
    of_shape = o;
    readable = r;
    may_be_there = may_be_there a.implicit_tag (shape_tag k) n a.until_end b.until_end (Tree.primitive (meaning v)) refl
        h.consumes.until_end h.all l tt;
    consumes = consumes_plain a.implicit_tag a.until_end (Tree.primitive (meaning v)) refl
        (primitive_tag-shape k (meaning v) o) h.consumes t l;
    implicit_tag = d;
  };
  no_refusal = λ bs i. not_refused (shape_tag k) n judge kind.number h t l (kind.judged v o) i;
}

-- ---- read from the first bytes

-- a content that is shorter than what is kept is kept whole
kept_whole : (kept c : List ℕ) → kept ≡ take 18 c → length kept < 18 → kept ≡ c
kept_whole kept c e h = grind (arith, common_steps)

-- a plain value was read from what is kept of its content
pub reads_kept : {V : Type 0} {meaning : V → Primitive} {k : PrimitiveShape} {n : ℕ} {judge : Judge} {a b c : State}
    {kept : List ℕ} → IsShortKind meaning k judge → (v : V) → BeginsContent (shape_tag k) a b n
    → ConsumesKept b c n kept
    → kept ≡ primitive_content (meaning v) → judge kept ≡ None → c.implicit_tag ≡ None
    → ReadsJudged k judge a c (meaning v)
reads_kept {meaning = meaning} {judge = judge} {b = b} {c = c} {kept = kept} kind v h t is good d =
    let w = kind.short v (ap judge (sym is) ∙ good) in
    let whole : t.content ≡ primitive_content (meaning v) =
    sym (kept_whole kept t.content t.first (omega (arith, ap length is, w.short))) ∙ is in
    reads_plain kind.plain v w.of_shape w.readable h (subst (Consumed b c) whole t.consumes) (ap length (sym whole)
    ∙ t.count) d

-- what is kept of the content isn't one of the kind
pub refuses_kept : {V : Type 0} {meaning : V → Primitive} {k : PrimitiveShape} {n : ℕ} {judge : Judge} {a b c d : State}
    {e : Asn1DerError} {kept : List ℕ} → IsShortKind meaning k judge → BeginsContent (shape_tag k) a b n
    → ConsumesKept b c n kept
    → Fails c d e → judge kept ≡ Some e → d ≡ failed_with c e → RefusesJudged meaning k judge a d e
refuses_kept {judge = judge} kind h k f bad same =
    refuses_content kind.plain h k.consumes k.count f (sym (kind.by_front k.content) ∙ ap judge (sym k.first) ∙ bad)
    same

-- the same of values that hold such a value
pub refuses_of : {V W : Type 0} {meaning : V → Tree} {s : Shape} {a c : State} {e : Asn1DerError} (part : W → V)
    → Refuses meaning s a c e → Refuses (λ w. meaning (part w)) s a c e
refuses_of part h = record { fails = h.fails; none = λ j end bs k w. h.none j end bs k (part w); first = h.first }

-- ---- numbers and the bytes that they are read from

pub more_bytes : (k n d : ℕ) → n < 256 ^ k → d < 256 → n * 256 + d < 256 ^ (k + 1)
more_bytes k n d h l =
    let e : 256 ^ (k + 1) ≡ 256 ^ k * 256 = ap (λ m. 256 ^ m) (add-one k) ∙ pow-suc 256 k in
    omega (arith, e)

-- and it has at most so many bits
pub more_bytes_fit : (k m n d : ℕ) → k < m → n < 256 ^ k → d < 256 → n * 256 + d < 256 ^ m
more_bytes_fit k m n d l h b =
    let most : 256 ^ (k + 1) ≤ 256 ^ m = pow-le-pow_right {n = 256} (omega arith) (omega arith) in
    omega (arith, more_bytes k n d h b, most)

-- a list that holds a byte at each index
pub bytes_by_index : (bs : List ℕ) → ((i : ℕ) → get_or bs i 0 < 256) → AreBytes bs
bytes_by_index [] h = tt
bytes_by_index (b ∷ bs) h = (h 0, bytes_by_index bs (λ i. h (suc i)))

-- the content from which a number was read
pub content_of_number : (n : ℕ) (content digits : List ℕ) → AreBytes content
    → ((most : ℕ) → unsigned_error most content ≡ number_error most digits) → length digits ≤ 16
    → n ≡ number_from_digits 256 digits → number_from_digits 256 digits ≡ number_from_digits 256 content
    → content ≡ unsigned_content n
content_of_number n content digits bytes same short e f =
    let a : nat_lt 16 (length digits) ≡ false = grind (arith, nat_tests) in
    let b : nat_lt n (number_from_digits 256 digits) ≡ false = grind (arith, nat_tests) in
    let none : number_error n digits ≡ None = rw (a, b) refl in
    (content-unsigned_error n content bytes (same n ∙ none)).0 ∙ ap unsigned_content (sym f ∙ sym e)

-- the content of one byte that isn't that of a negative number
pub content_of_digit : (n : ℕ) (content : List ℕ) → 1 ≤ length content → length content < 2 → get_or content 0 0 < 0x80
    → n ≡ get_or content 0 0 → content ≡ unsigned_content n
content_of_digit n [] some one small e = absurd (omega arith)
content_of_digit n (b ∷ []) some one small e =
    let a : nat_lt b 0x80 ≡ true = grind (arith, nat_tests) in
    content_of_number n (b ∷ []) (b ∷ []) (omega arith, tt) (λ most. rw a refl) (omega arith) (omega arith) refl
content_of_digit n (b ∷ d ∷ bs) some one small e = absurd (omega arith)
