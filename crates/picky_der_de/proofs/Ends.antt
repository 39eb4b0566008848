-- Ends, opened and closed.
use Rattle.std.proofs.Common.{◌≡◌, ◌==◌, ℕ, ◌+◌, ◌-◌, ◌<◌, ◌≤◌, ◌^◌, Bool, true, false, if◌then◌else◌, List, [], ◌∷◌}
use Rattle.std.proofs.Common.{◌++◌, length, take, Option, Some, None, refl, sym, ◌∙◌, ap, subst, arith}
use Rattle.picky_der_core.specs.declared.error.Asn1DerError.{Asn1DerError}
use Rattle.picky_der_core.specs.Tag.{number_of, IsTagNumber}
use Rattle.picky_der_core.specs.Order.{is_less}
use Rattle.picky_der_core.specs.OrderLaws.{IsSortedBy-one, IsSortedBy-first, ascending_after_nothing}
use Rattle.picky_der_core.specs.Refusal.{refusal_of}
use Rattle.picky_der_de.specs.declared.end.End.{End}
use Rattle.picky_der_de.specs.declared.end.End.TheVariants.{Soft}
use Rattle.picky_der_de.specs.State.{State}
use Rattle.picky_der_de.specs.Steps.{Consumed, Fails, IsJudged, mendable_within, is_hard}
use Rattle.picky_der_de.specs.Order.{order_of}
use Rattle.picky_der_de.specs.declared.sequence.order.Next.{Next}
use Rattle.picky_der_de.specs.declared.sequence.order.Next.TheVariants.{Untested, InOrder}
use Rattle.picky_der_de.specs.SetOrder.{last_by, first_by, in_order, IsCompared}
use Rattle.picky_der_de.proofs.InOrder.{consumes_in}
use Rattle.picky_der_de.specs.Reading.{Concerns, now, ever}
use Rattle.picky_der_de.specs.Headers.{header_bytes, BeginsContent}
use Rattle.picky_der_de.specs.Ends.{EnclosingEnd, innermost, with_inner_end, with_outer_end, Closes, OpensList}
use Rattle.picky_der_de.specs.Ends.{list_refusal_in, list_refusal}
use Rattle.picky_der_de.proofs.Steps.{consumes_beside, fails_beside}
use Rattle.picky_der_de.proofs.KnownBytes.{front_of}
use Rattle.picky_der_de.proofs.Headers.{header-read}
use Rattle.picky_der_de.proofs.PlainReads.{fits_below}

-- ---- an end that was opened

-- known bytes with a header in front aren't refused
header_not_refused : (d : Option ℕ) (tag n q : ℕ) (s : State) (y : List ℕ) → IsTagNumber (number_of tag) → n < 2 ^ 64
    → s.until_end ≡ length (header_bytes d tag n) + q → n ≤ q
    → list_refusal_in d tag s (header_bytes d tag n ++ y) ≡ None
header_not_refused None tag n q s y i small r l =
    ap refusal_of (header-read tag (is_hard s.end) s.until_end n q y i small r l)
header_not_refused (Some number) tag n q s y i small r l = refl

not_refused : {tag n : ℕ} {a b : State} {bs : List ℕ} → IsTagNumber (number_of tag) → BeginsContent tag a b n
    → a.input ≡ Some bs → list_refusal tag a (take a.until_end bs) ≡ None
not_refused {tag} {n} {a} {b} i h k =
    let f = front_of h.consumes k in
    ap (list_refusal tag a) f.before ∙ header_not_refused a.implicit_tag tag n b.until_end a (take b.until_end f.rest) i
    (fits_below h) h.consumes.until_end h.fits

-- the end of a list was opened after its header
pub opens_list : {tag n : ℕ} {a b c : State} {outer : EnclosingEnd} → IsTagNumber (number_of tag)
    → BeginsContent tag a b n → c ≡ record (with_inner_end b n Soft) { last = order_of tag }
    → outer ≡ innermost b → OpensList tag a c outer
opens_list {n = n} {b = b} i h opened back = record {
  mid = b;
  size = n;
  begins = h;
  opened = opened;
  outer_end = back;
  no_refusal = λ bs k. not_refused i h k;
}

-- the first member of a list, before which none was seen
first_if : (set : Bool) (kept : List ℕ)
    → last_by (if set then InOrder else Untested) [] kept ≡ (if set then Some [] else None)
first_if true kept = refl
first_if false kept = refl

first_last : (tag : ℕ) (kept : List ℕ) → last_by (first_by tag) [] kept ≡ order_of tag
first_last tag kept = first_if (tag == 0x31) kept

begins_unseen : {tag n : ℕ} {a b : State} → BeginsContent tag a b n → BeginsContent tag a (record b { seen = [] }) n
begins_unseen h = record {
  consumes = consumes_in h.consumes.last h.consumes;
  implicit_tag = h.implicit_tag;
  fits = h.fits;
  all = h.all;
  bounded = h.bounded;
}

pub opens_unseen : {tag n : ℕ} {a b c : State} {outer : EnclosingEnd} → IsTagNumber (number_of tag)
    → BeginsContent tag a b n → c ≡ record (with_inner_end b n Soft) { seen = [] } → outer ≡ innermost b
    → OpensList tag a (in_order c (first_by tag)) outer
opens_unseen {tag} {n} {a} {b} {c} i h opened back =
    let d : State = record (with_inner_end b n Soft) { seen = [] } in
    let first : in_order d (first_by tag) ≡ record d { last = order_of tag } =
    ap (λ l. record d { last = l }) (first_last tag b.kept) in
    opens_list i (begins_unseen h) (ap (λ (z : State). in_order z (first_by tag)) opened ∙ first) back

not_less_nothing : (member : List ℕ) → is_less member [] ≡ false
not_less_nothing member = IsSortedBy-first is_less [] member []
    (ascending_after_nothing (member ∷ []) (IsSortedBy-one is_less member))

-- nothing is less than no bytes
pub first_compared : (c : State) (o : Next) → c.seen ≡ [] → IsCompared c o
first_compared c o none f is member left e k fits = ap (is_less member) none ∙ not_less_nothing member

-- ---- before an end that was opened

-- bytes to which a refusal applies, where the end is nearer
pub concerns_with_inner_end : {b c : State} {e : Asn1DerError} {n left : ℕ} {seen : List ℕ} → Concerns b c e left seen
    → Concerns (with_inner_end b n Soft) c e n seen
concerns_with_inner_end (now i r) = now i refl
concerns_with_inner_end (ever w r d y left i q f) = ever w refl d y left i q f

pub concerns_room : {b c : State} {e : Asn1DerError} {left : ℕ} {seen : List ℕ} → b.end ≡ Soft
    → Concerns b c e left seen → left ≡ b.until_end
concerns_room soft (now i r) = r
concerns_room {b} soft (ever w r d y left i q f) = r ∙ ap (λ (z : End). mendable_within z b.until_end) soft

pub judged_with_inner_end : {b c : State} {e : Asn1DerError} (n : ℕ) (kind : End) → IsJudged b c e
    → IsJudged (with_inner_end b n kind) c e
judged_with_inner_end n kind j = record { had_not_failed = j.had_not_failed; faults = j.faults; memory = j.memory }

-- a call that failed before a nearer end failed before the one around it
pub fails_without_inner_end : {b c : State} {e : Asn1DerError} {n : ℕ} {kind : End} → n ≤ b.until_end
    → Fails (with_inner_end b n kind) c e → Fails b c e
fails_without_inner_end l f = fails_beside l f

-- the end around is the innermost one
abbrev pub around : EnclosingEnd → State → State
around outer s = record s { until_end = outer.position - s.consumed; end = outer.kind; last = outer.last }

-- and no member was seen before it
pub consumes_around : {a : State} {x : List ℕ} (outer : EnclosingEnd) (c : State) → Consumed a (around outer c) x
    → Consumed a (with_outer_end outer c) x
consumes_around outer c t = consumes_in t.last t

-- what was consumed up to an end that is closed was consumed before the one around it
pub closes_after : {b c d : State} {n : ℕ} {kind : End} {outer : EnclosingEnd} {bytes : List ℕ} → n ≤ b.until_end
    → outer ≡ innermost b → Consumed (with_inner_end b n kind) c bytes → Closes outer c d
    → Consumed b d bytes × (length bytes ≡ n)
closes_after {b} {c} {d} {n} {kind} {outer} {bytes} l back t k =
    let size : length bytes ≡ n = omega (arith, t.until_end, k.reached) in
    let position : outer.position ≡ b.consumed + b.until_end = ap (λ (o : EnclosingEnd). o.position) back in
    let consumes : Consumed b (with_outer_end outer c) bytes =
    consumes_around outer c (consumes_beside (omega (arith, t.consumed, t.until_end, position, l))
    (ap (λ (o : EnclosingEnd). o.kind) back) (ap (λ (o : EnclosingEnd). o.last) back) t) in
    (subst (λ z. Consumed b z bytes) (sym k.same) consumes, size)
