-- Lengths and headers, read and refused.
use Rattle.std.proofs.Common.{◌≡◌, ◌≢◌, ℕ, ◌+◌, ◌*◌, ◌<◌, List, [], ◌∷◌, ◌++◌, length, None, Err, refl, sym, ◌∙◌, ap}
use Rattle.std.proofs.Common.{arith, length-append, ◌-◌, ◌≤◌, ◌^◌, ◌⊎◌, inl, inr, Bool, true, Some, Ok, ◌==◌}
use Rattle.std.proofs.Common.{append_assoc, append-nil, lt-ltb, le-ltb, ne_eqb}
use Rattle.std.specs.Int.Digits.{number_from_digits}
use Rattle.std.proofs.lemmas.Int.Digits.{number_push}
use Rattle.picky_der_core.specs.declared.error.Asn1DerError.{Asn1DerError}
use Rattle.picky_der_core.specs.declared.error.Asn1DerError.TheVariants.{InvalidData, TruncatedData}
use Rattle.picky_der_core.specs.Element.{length_octets, tlv}
use Rattle.picky_der_core.specs.ElementLaws.{length_octets-short, length_octets_prefix}
use Rattle.picky_der_core.specs.Refusal.{length_of, error_past_end, missing_byte, within_end, header, header_refusal}
use Rattle.picky_der_core.specs.Refusal.{refusal_of}
use Rattle.picky_der_core.specs.Lengths.{IsLongCount, IsNoLongCount, none, too_many}
use Rattle.picky_der_core.specs.LengthLaws.{length_of-none, length_of-too_many, length_of-cut, length_of-longer}
use Rattle.picky_der_core.specs.LengthLaws.{length_octets-number, length_of-length_octets}
use Rattle.picky_der_de.specs.State.{State}
use Rattle.picky_der_de.specs.Steps.{Consumed, Fails, IsCut, StopsShort, failed_with, IsMissing, IsJudged, is_hard}
use Rattle.picky_der_de.specs.Steps.{error_at_end, fetched_count}
use Rattle.picky_der_de.specs.Headers.{ReadsDigits, cut, bad, RefusesLength, StopsLength, StopsContentLength, no_length}
use Rattle.picky_der_de.specs.Headers.{too_long, RefusesContentLength, NoElement, RefusesHeader}
use Rattle.picky_der_de.proofs.Steps.{consumes_then, consumes_none, fails_after, judged_after}
use Rattle.picky_der_de.proofs.Contents.{consumes_bytes-more}
use Rattle.std.proofs.lemmas.Bool.Decides.{nat_tests}
use Rattle.std.specs.Io.KnownBytes.{Keeps}
use Rattle.picky_der_core.specs.Tag.{number_of, is_tag_number, IsTagNumber}
use Rattle.picky_der_de.specs.Reading.{Concerns, IsJustRefused}
use Rattle.picky_der_de.proofs.Refusals.{split_after, concerns_after, cut_grows, tells_after, missing_here, past_end}
use Rattle.picky_der_de.proofs.Refusals.{missing_first, consumed_first}
use Rattle.picky_der_de.proofs.KnownBytes.{just_cut, just_consumed, just_missing}

-- no byte was consumed yet
pub digits_none : (a : State) → a.failed ≡ None → a.peeked ≡ None → ReadsDigits a a 0 0
digits_none a h p =
    record {
      digits = [];
      consumes = record { consumes = consumes_none a h p; count = refl; bytes = tt };
      number =
          refl;
    }

-- one byte more
pub digits_more : {a b c : State} {count n d : ℕ} → ReadsDigits a b count n → Consumed b c (d ∷ []) → d < 256
    → ReadsDigits a c (count + 1) (n * 256 + d)
digits_more {d = d} h t l = record {
  digits = h.digits ++ (d ∷ []);
  consumes = consumes_bytes-more h.consumes t l;
  number = omega (arith, number_push 256 h.digits d, h.number);
}

-- ---- the length itself

-- one byte
pub consumes_short : {a b : State} {first : ℕ} → Consumed a b (first ∷ []) → first < 0x80
    → Consumed a b (length_octets first)
consumes_short {a} {b} {first} t h = rw (length_octets-short first h) t

-- more than one
pub consumes_long : {a b c : State} {first count n : ℕ} → Consumed a b (first ∷ []) → IsLongCount first count
    → ReadsDigits b c count n → length (length_octets n) ≡ 1 + count → Consumed a c (length_octets n)
consumes_long {first = first} {count = count} t l d size =
    let is : length_octets (number_from_digits 256 d.digits) ≡ first ∷ d.digits =
    length_octets-number first count d.digits l d.consumes.count d.consumes.bytes
    (ap (λ m. length (length_octets m)) (sym d.number) ∙ size) in
    rw (d.number, is) (consumes_then t d.consumes.consumes)

-- ---- no length

length_of-nothing : (lacking : Asn1DerError) (bs : List ℕ) → length bs < 1 → length_of lacking bs ≡ Err (lacking, [])
length_of-nothing lacking [] h = refl
length_of-nothing lacking (b ∷ bs) h = absurd (omega arith)

-- the first byte is missing
pub refuses_at_first : {a c : State} {e : Asn1DerError} → StopsShort a c 1 e → RefusesLength a c e
refuses_at_first s =
    record {
      fails = s.fails;
      stops = λ j. let m = s.short j in
          cut 1 m (λ lacking. length_of-nothing lacking m.bytes m.short);
    }

-- the bytes were cut after some that were consumed
unfoldable pub cut_after : {a b c : State} {x : List ℕ} {k n : ℕ} {e : Asn1DerError} → Consumed a b x → length x ≡ k
    → IsCut b c n e → IsCut a c (k + n) e
cut_after {x = x} t l m = record {
  mid = m.mid;
  bytes = x ++ m.bytes;
  consumes = consumes_then t m.consumes;
  short = omega (arith, length-append x m.bytes, m.short);
  missing = m.missing;
  input = m.input;
  consumed = m.consumed;
  peeked = m.peeked;
}

-- one after the first is missing
pub refuses_at_digits : {a b c : State} {first count : ℕ} {e : Asn1DerError} → Consumed a b (first ∷ [])
    → IsLongCount first count → StopsShort b c count e → RefusesLength a c e
unfolding cut_after
refuses_at_digits {first = first} {count = count} t l s = record {
  fails = fails_after t s.fails;
  stops = λ j. let m = s.short (judged_after t j) in
      cut (1 + count) (cut_after t refl m) (λ lacking. length_of-cut lacking first count m.bytes l m.short);
}

-- these bytes begin no length
pub refuses_bad : {a b c : State} {bytes : List ℕ} {e k : Asn1DerError} → Consumed a b bytes → Fails b c e → e ≡ k
    → c ≡ failed_with b k → ((lacking : Asn1DerError) (y : List ℕ) → length_of lacking (bytes ++ y) ≡ Err (k, y))
    → RefusesLength a c e
refuses_bad {a} {b} {c} {bytes} {e} {k} t f is same h = record {
  fails = fails_after t f;
  stops = λ j. bad b bytes t (same ∙ ap (failed_with b) (sym is)) (λ lacking y. h lacking y
      ∙ ap (λ error. Err (error, y)) (sym is));
}

-- the first says nothing
pub no_long_count : {first : ℕ} {k : Asn1DerError} → IsNoLongCount first k → (lacking : Asn1DerError) (y : List ℕ)
    → length_of lacking (first ∷ y) ≡ Err (k, y)
no_long_count {first} {k} (none is error) lacking y = length_of-none lacking first y is
    ∙ ap (λ e. Err (e, y)) (sym error)
no_long_count {first} {k} (too_many more error) lacking y = length_of-too_many lacking first y more
    ∙ ap (λ e. Err (e, y)) (sym error)

-- a shorter length gives the number
pub longer : {b c : State} {first count n : ℕ} {k : Asn1DerError} → IsLongCount first count
    → (d : ReadsDigits b c count n) → k ≡ InvalidData → length (length_octets n) ≢ 1 + count
    → (lacking : Asn1DerError) (y : List ℕ) → length_of lacking (first ∷ d.digits ++ y) ≡ Err (k, y)
longer {first = first} {count = count} l d error more lacking y =
    length_of-longer lacking first count d.digits y l d.consumes.count d.consumes.bytes
    (λ size. more (ap (λ m. length (length_octets m)) d.number ∙ size)) ∙ ap (λ e. Err (e, y)) (sym error)

-- ---- headers, read and refused

-- ---- the header of known bytes

pub is_number : {n : ℕ} → IsTagNumber n → is_tag_number n ≡ true
is_number h = grind (arith, nat_tests)

pub same_byte : (b : ℕ) → (b == b) ≡ true
same_byte b = grind (arith, nat_tests)

header-none : (tag : ℕ) (hard : Bool) (ahead : ℕ) → IsTagNumber (number_of tag)
    → header tag hard ahead [] ≡ Err (missing_byte hard ahead [], [])
header-none tag hard ahead n = rw (is_number n) refl

header-foreign : (tag b : ℕ) (hard : Bool) (ahead : ℕ) (bs : List ℕ) → IsTagNumber (number_of tag) → b ≢ tag
    → header tag hard ahead (b ∷ bs) ≡ Err (InvalidData, bs)
header-foreign tag b hard ahead bs n d = rw (is_number n, ne_eqb b tag d) refl

header-after : (tag : ℕ) (hard : Bool) (ahead : ℕ) (bs : List ℕ) → IsTagNumber (number_of tag)
    → header tag hard ahead (tag ∷ bs) ≡ within_end hard ahead (tag ∷ bs)
    (length_of (missing_byte hard ahead (tag ∷ bs)) bs)
header-after tag hard ahead bs n = rw (is_number n, same_byte tag) refl

-- what is ahead after the header
ahead_after : (tag n q : ℕ) (y : List ℕ)
    → length (tag ∷ length_octets n) + q - (length (tag ∷ (length_octets n ++ y)) - length y) ≡ q
ahead_after tag n q y = omega (arith, length-append (length_octets n) y)

pub header-read : (tag : ℕ) (hard : Bool) (ahead n q : ℕ) (y : List ℕ) → IsTagNumber (number_of tag) → n < 2 ^ 64
    → ahead ≡ length (tag ∷ length_octets n) + q → n ≤ q
    → header tag hard ahead (tag ∷ (length_octets n ++ y)) ≡ Ok (n, y)
header-read tag hard ahead n q y i small e l =
    header-after tag hard ahead (length_octets n ++ y) i
    ∙ ap (within_end hard ahead (tag ∷ (length_octets n ++ y)))
    (length_of-length_octets (missing_byte hard ahead (tag ∷ (length_octets n ++ y))) n y small)
    ∙ rw (e, ahead_after tag n q y, le-ltb q n l) refl

header-past_end : (tag : ℕ) (hard : Bool) (ahead n q : ℕ) (y : List ℕ) → IsTagNumber (number_of tag) → n < 2 ^ 64
    → ahead ≡ length (tag ∷ length_octets n) + q → q < n
    → header tag hard ahead (tag ∷ (length_octets n ++ y)) ≡ Err (error_past_end hard, y)
header-past_end tag hard ahead n q y i small e l =
    header-after tag hard ahead (length_octets n ++ y) i
    ∙ ap (within_end hard ahead (tag ∷ (length_octets n ++ y)))
    (length_of-length_octets (missing_byte hard ahead (tag ∷ (length_octets n ++ y))) n y small)
    ∙ rw (e, ahead_after tag n q y, lt-ltb q n l) refl

-- ---- elements after a header

-- a header in front is that of the element
pub header_length : (tag n : ℕ) (content rest z : List ℕ) → (tag ∷ length_octets n) ++ rest ≡ tlv tag content ++ z
    → (n ≡ length content) × (rest ≡ content ++ z)
unfolding tlv
header_length tag n content rest z e =
    let f : tag ∷ (length_octets n ++ rest) ≡ tag ∷ ((length_octets (length content) ++ content) ++ z) = e in
    let g : length_octets n ++ rest ≡ length_octets (length content) ++ (content ++ z) =
    (cc) ∙ append_assoc (length_octets (length content)) content z in
    length_octets_prefix n (length content) rest (content ++ z) g

-- where there is no length there is no element
no_length_no_element : (tag : ℕ) (bytes content z : List ℕ)
    → ((lacking : Asn1DerError) → length_of lacking bytes ≡ Err (lacking, [])) → length content < 2 ^ 64
    → tag ∷ bytes ≡ tlv tag content ++ z → ⊥
unfolding tlv
no_length_no_element tag bytes content z h small e =
    let f : tag ∷ bytes ≡ tag ∷ ((length_octets (length content) ++ content) ++ z) = e in
    let g : bytes ≡ length_octets (length content) ++ (content ++ z) =
    (cc) ∙ append_assoc (length_octets (length content)) content z in
    let read = ap (length_of InvalidData) g ∙ length_of-length_octets InvalidData (length content) (content ++ z)
    small in
    let none = h InvalidData in
    cc

bad_length_no_element : (tag : ℕ) (bytes rest content z : List ℕ) (e : Asn1DerError)
    → ((lacking : Asn1DerError) (y : List ℕ) → length_of lacking (bytes ++ y) ≡ Err (e, y)) → length content < 2 ^ 64
    → (tag ∷ bytes) ++ rest ≡ tlv tag content ++ z → ⊥
unfolding tlv
bad_length_no_element tag bytes rest content z e h small q =
    let f : tag ∷ (bytes ++ rest) ≡ tag ∷ ((length_octets (length content) ++ content) ++ z) = q in
    let g : bytes ++ rest ≡ length_octets (length content) ++ (content ++ z) =
    (cc) ∙ append_assoc (length_octets (length content)) content z in
    let read = ap (length_of InvalidData) g ∙ length_of-length_octets InvalidData (length content) (content ++ z)
    small in
    let none = h InvalidData rest in
    cc

-- what was consumed holds the element that is before an end right after it
within_consumed : (tag : ℕ) (bytes rest content z : List ℕ) → (tag ∷ bytes) ++ rest ≡ tlv tag content ++ z
    → length (tlv tag content) ≤ length (tag ∷ bytes) → (w : List ℕ) × (tag ∷ bytes ≡ tlv tag content ++ w)
within_consumed tag bytes rest content z e l = let p = split_after (tag ∷ bytes) (tlv tag content) z rest e l in
    (p.0, p.1)

-- ---- refused headers

no_room : (tag end : ℕ) (bs content rest : List ℕ) → (end ≡ 0) ⊎ (bs ≡ []) → bs ≡ tlv tag content ++ rest
    → length (tlv tag content) ≤ end → ⊥
unfolding tlv
no_room tag end bs content rest (inl z) q l = omega arith
no_room tag end bs content rest (inr z) q l = let r : [] ≡ tag ∷ ((length_octets (length content) ++ content) ++ rest) =
    sym z ∙ q in cc

-- no byte came
pub header_missing : (tag : ℕ) {a c : State} {e : Asn1DerError} → IsTagNumber (number_of tag) → Fails a c e
    → (IsJudged a c e → IsMissing a e) → Keeps a.input c.input → c.consumed ≡ a.consumed → c.peeked ≡ a.peeked
    → RefusesHeader tag a c e
header_missing tag {a} {c} {e} n f m i t p = record {
  fails = f;
  none = λ j end bs w content rest small q l. no_room tag end bs content rest (missing_here (m j) w) q l;
  first = λ j k l b left q. absurd (missing_first a (m j) l q);
  just = λ j bs k. just_missing (header_refusal tag (is_hard a.end) a.until_end) (m j) i t p k
      (λ is. ap refusal_of (header-none tag (is_hard a.end) a.until_end n) ∙ ap (λ x. Some (x, [])) is);
}

other_tag : (tag first : ℕ) (rest content z : List ℕ) → first ≢ tag → first ∷ rest ≡ tlv tag content ++ z → ⊥
unfolding tlv
other_tag tag first rest content z d q =
    d (let r : first ∷ rest ≡ tag ∷ ((length_octets (length content) ++ content) ++ z) = q in cc)

-- another tag is there
pub header_foreign : (tag : ℕ) {a b c : State} {e : Asn1DerError} {first : ℕ} → IsTagNumber (number_of tag)
    → Consumed a b (first ∷ []) → Fails b c e → first ≢ tag → e ≡ InvalidData → c ≡ failed_with b e
    → RefusesHeader tag a c e
header_foreign tag {a} {b} {c} {e} {first} n t f d is same = record {
  fails = fails_after t f;
  none = tells_after (NoElement tag) t f (λ j end left rest l w content z small q k. other_tag tag first rest content z
      d q);
  first = λ j k l x left q. absurd (let r : InvalidData ≡ TruncatedData = sym is ∙ k in cc);
  just = λ j bs k. just_consumed (header_refusal tag (is_hard a.end) a.until_end) t same k
      (λ y. ap refusal_of (header-foreign tag first (is_hard a.end) a.until_end y n d)
      ∙ ap (λ x. Some (x, y)) (sym is));
}

-- no length follows the tag
no_length_there : (tag : ℕ) {a b c : State} {e : Asn1DerError} {end : ℕ} {bs : List ℕ} → Consumed a b (tag ∷ [])
    → StopsLength b c e → Concerns a c e end bs → NoElement tag end bs
no_length_there tag t (cut n m h) w content z small q l =
    let v = concerns_after (consumes_then t m.consumes) (cut_grows m) w in
    let e : (tag ∷ m.bytes) ++ v.rest ≡ tlv tag content ++ z = sym v.begins ∙ q in
    elim (missing_here m.missing v.concerns) [
      | inl ended ↦ let p = within_consumed tag m.bytes v.rest content z e (omega (arith, v.ends, ended)) in
          no_length_no_element tag m.bytes content p.0 h small p.1
      | inr last ↦ no_length_no_element tag m.bytes content z h small (sym (append-nil (tag ∷ m.bytes))
          ∙ ap (λ y. (tag ∷ m.bytes) ++ y) (sym last) ∙ e)
    ]
no_length_there tag {c = c} {e = e} t (bad mid bytes d same h) w content z small q l =
    let grows : mid.consumed ≤ fetched_count c = omega (arith, ap (λ (s : State). s.consumed) same) in
    let v = concerns_after (consumes_then t d) grows w in
    bad_length_no_element tag bytes v.rest content z e h small (sym v.begins ∙ q)

just_no_length : (tag : ℕ) {a b c : State} {e : Asn1DerError} {bs : List ℕ} → IsTagNumber (number_of tag)
    → Consumed a b (tag ∷ []) → StopsLength b c e → a.input ≡ Some bs
    → IsJustRefused (header_refusal tag (is_hard a.end) a.until_end) a c e bs
unfolding cut_after
just_no_length tag {a} {e = e} i t (cut n m h) k =
    just_cut (header_refusal tag (is_hard a.end) a.until_end) (cut_after t refl m) k
    (λ is. ap refusal_of (header-after tag (is_hard a.end) a.until_end m.bytes i
    ∙ ap (within_end (is_hard a.end) a.until_end (tag ∷ m.bytes))
    (h (missing_byte (is_hard a.end) a.until_end (tag ∷ m.bytes)))) ∙ ap (λ x. Some (x, [])) is)
just_no_length tag {a} {e = e} i t (bad mid bytes d same h) k =
    just_consumed (header_refusal tag (is_hard a.end) a.until_end) (consumes_then t d) same k
    (λ y. ap refusal_of (header-after tag (is_hard a.end) a.until_end (bytes ++ y) i
    ∙ ap (within_end (is_hard a.end) a.until_end (tag ∷ (bytes ++ y)))
    (h (missing_byte (is_hard a.end) a.until_end (tag ∷ (bytes ++ y))) y)))

pub length_tlv : (tag : ℕ) (content : List ℕ)
    → length (tlv tag content) ≡ length (tag ∷ length_octets (length content)) + length content
unfolding tlv
length_tlv tag content = omega (arith, length-append (length_octets (length content)) content)

-- the length after the tag reaches past the end
too_long_there : (tag : ℕ) {a b c : State} {e : Asn1DerError} {n end : ℕ} {bs : List ℕ}
    → Consumed a b (tag ∷ length_octets n) → b.consumed ≤ fetched_count c → b.until_end < n → e ≡ error_at_end b.end
    → Concerns a c e end bs → NoElement tag end bs
too_long_there tag {n = n} t f more is w content z small q l =
    let v = concerns_after t f w in
    let r = header_length tag n content v.rest z (sym v.begins ∙ q) in
    let same_size : length (length_octets (length content)) ≡ length (length_octets n) =
    ap (λ m. length (length_octets m)) (sym r.0) in
    omega (arith, past_end is more v.concerns, v.ends, length_tlv tag content, same_size, r.0)

just_too_long : (tag : ℕ) {a b c : State} {e : Asn1DerError} {n : ℕ} {bs : List ℕ} → IsTagNumber (number_of tag)
    → Consumed a b (tag ∷ length_octets n) → n < 2 ^ 64 → b.until_end < n → e ≡ error_at_end b.end → c ≡ failed_with b e
    → a.input ≡ Some bs
    → IsJustRefused (header_refusal tag (is_hard a.end) a.until_end) a c e bs
just_too_long tag {a} {b} {n = n} i t small more is same k =
    just_consumed (header_refusal tag (is_hard a.end) a.until_end) t same k (λ y.
    ap refusal_of (header-past_end tag (is_hard a.end) a.until_end n b.until_end y i small t.until_end more)
    ∙ ap (λ x. Some (x, y)) (ap error_at_end (sym t.end) ∙ sym is))

-- no element with this tag is there if its length was refused
no_element_there : (tag : ℕ) {a b c : State} {e : Asn1DerError} {end : ℕ} {bs : List ℕ} → Consumed a b (tag ∷ [])
    → StopsContentLength b c e → Concerns a c e end bs → NoElement tag end bs
no_element_there tag t (no_length s) w = no_length_there tag t s w
no_element_there tag {c = c} t (too_long mid n d small more is same) w =
    too_long_there tag (consumes_then t d) (omega (arith, ap (λ (s : State). s.consumed) same)) more is w

just_no_element : (tag : ℕ) {a b c : State} {e : Asn1DerError} {bs : List ℕ} → IsTagNumber (number_of tag)
    → Consumed a b (tag ∷ []) → StopsContentLength b c e → a.input ≡ Some bs
    → IsJustRefused (header_refusal tag (is_hard a.end) a.until_end) a c e bs
just_no_element tag i t (no_length s) k = just_no_length tag i t s k
just_no_element tag i t (too_long mid n d small more is same) k =
    just_too_long tag i (consumes_then t d) small more is same k

-- the length after the tag was refused
pub header_unread : (tag : ℕ) {a b c : State} {e : Asn1DerError} → IsTagNumber (number_of tag) → Consumed a b (tag ∷ [])
    → RefusesContentLength b c e → RefusesHeader tag a c e
header_unread tag {a} {b} n t r = record {
  fails = fails_after t r.fails;
  none = λ j end bs w. no_element_there tag t (r.stops (judged_after t j)) w;
  first = λ j k l x left q. consumed_first a.input b.input tag x [] left t.input q;
  just = λ j bs k. just_no_element tag n t (r.stops (judged_after t j)) k;
}

-- no length was read
pub content_no_length : {b c : State} {e : Asn1DerError} → RefusesLength b c e → RefusesContentLength b c e
content_no_length r = record { fails = r.fails; stops = λ j. no_length (r.stops j) }

-- the length that was read reaches past the end
pub content_too_long : {b m c : State} {e : Asn1DerError} {n : ℕ} → Consumed b m (length_octets n) → Fails m c e
    → n < 2 ^ 64 → m.until_end < n → e ≡ error_at_end m.end → c ≡ failed_with m e → RefusesContentLength b c e
content_too_long {m = m} {n = n} t f small more is same =
    record { fails = fails_after t f; stops = λ j. too_long m n t small more is same }
