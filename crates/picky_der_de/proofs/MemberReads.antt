-- Members of sequences and sets, read and refused.
use Rattle.std.proofs.Common.{◌≡◌, ℕ, ◌<◌, ◌≤◌, false, true, List, [], ◌∷◌, ◌++◌, length, Option, Some, None, refl}
use Rattle.std.proofs.Common.{sym, ◌∙◌, ap, ap₂, subst, arith, append_assoc, length-append, true≢false}
use Rattle.picky_der_core.specs.declared.error.Asn1DerError.{Asn1DerError}
use Rattle.picky_der_core.specs.Failure.{failure_of}
use Rattle.picky_der_core.specs.declared.error.Asn1DerError.TheVariants.{TruncatedData}
use Rattle.picky_der_core.specs.Tree.{ListKind, Tree, Trees}
use Rattle.picky_der_core.specs.Encoding.{tree_bytes, der, encodings, list_tag, content}
use Rattle.picky_der_core.specs.EncodingLaws.{same_encoding, length-der, list_content-in_order}
use Rattle.picky_der_core.specs.Readable.{IsReadable, AreReadable, IsInOrder}
use Rattle.picky_der_core.specs.Shape.{Shape, IsOf, IsFirst}
use Rattle.picky_der_core.specs.Reading.{Place, written_at, IsAtFront}
use Rattle.picky_der_de.specs.declared.end.End.TheVariants.{Soft}
use Rattle.picky_der_de.specs.State.{State}
use Rattle.picky_der_de.specs.Steps.{Consumed, Fails, IsJudged, place_in, place_of, fetched_count}
use Rattle.picky_der_de.specs.RefusesBy.{Rule, RefusesBy}
use Rattle.picky_der_de.proofs.PlainRuled.{same_left}
use Rattle.picky_der_de.specs.Rules.{field_rule, missing, refused}
use Rattle.picky_der_de.specs.Order.{order_of, is_out_of_order, with_last, AreInOrder, without_order}
use Rattle.picky_der_de.specs.Order.{HasFailedWith, RefusesTest, out_of_order, without_memory}
use Rattle.picky_der_de.specs.Reading.{Concerns, now, ever, Reads, Refuses}
use Rattle.picky_der_de.specs.Ends.{EnclosingEnd, with_inner_end, Closes, OpensList, RefusesList}
use Rattle.picky_der_de.specs.Members.{ReadsMember, RefusesNext, no_value, after_value, RefusesMember, HasNoMore}
use Rattle.picky_der_de.specs.Members.{members_encoding, AreBefore, AreUpToEnd, RefusesConsumed}
use Rattle.picky_der_de.proofs.Steps.{fails_after, fails_again, judged_after}
use Rattle.picky_der_de.proofs.Order.{concerns_alike, concerns_without_order, judged_alike, fails_alike}
use Rattle.picky_der_de.proofs.Order.{consumes_without_order, order_none, order_first, order_next, order_more}
use Rattle.picky_der_de.proofs.Order.{order_begins, order_whole}
use Rattle.picky_der_de.proofs.Refusals.{concerns_after, failed_grows, end_below}
use Rattle.picky_der_de.proofs.PlainReads.{no_plain, seen_content, consumes_plain, may_be_there, first_of_header}
use Rattle.picky_der_de.proofs.Ends.{concerns_with_inner_end, concerns_room, judged_with_inner_end}
use Rattle.picky_der_de.proofs.Ends.{fails_without_inner_end, closes_after}

-- ---- the content of a list

pub members_encoding-more : (t : Tree) (ts : Trees) → members_encoding (Trees.more t ts) ≡ der t ++ members_encoding ts
unfolding der tree_bytes
members_encoding-more t ts = refl

pub members_encoding-none : members_encoding Trees.none ≡ []
unfolding tree_bytes
members_encoding-none = refl

pub members_encoding-content : (kind : ListKind) (ts : Trees) → IsInOrder kind (encodings ts)
    → content (Tree.list kind ts) ≡ members_encoding ts
members_encoding-content kind ts h = list_content-in_order kind (encodings ts) h

encodings-more : (t : Tree) (ts : Trees) → encodings (Trees.more t ts) ≡ der t ∷ encodings ts
unfolding der tree_bytes
encodings-more t ts = refl

-- members in order, from left to right
pub no_members_in_order : (l : Option (List ℕ)) → AreInOrder l (encodings Trees.none)
unfolding tree_bytes
no_members_in_order l = order_none l

pub first_in_order : (l : Option (List ℕ)) (t : Tree) (ts : Trees) → AreInOrder l (encodings (Trees.more t ts))
    → is_out_of_order l (der t) ≡ false
first_in_order l t ts h = order_first l (der t) (encodings ts) (subst (AreInOrder l) (encodings-more t ts) h)

next_in_order : (l : Option (List ℕ)) (t : Tree) (ts : Trees) → AreInOrder l (encodings (Trees.more t ts))
    → AreInOrder (with_last l (der t)) (encodings ts)
next_in_order l t ts h = order_next l (der t) (encodings ts) (subst (AreInOrder l) (encodings-more t ts) h)

-- ---- one member

-- a value that isn't directly under an implicit tag
pub consumes_whole : {s : Shape} {b c : State} {t : Tree} → Reads s b c t → b.implicit_tag ≡ None → Consumed b c (der t)
consumes_whole {b = b} {c = c} {t = t} r implicit_tag =
    subst (λ d. Consumed b c (written_at (place_in d b.until_end) t)) implicit_tag r.consumes

pub consumes_member : {s : Shape} {b c : State} {t : Tree} → ReadsMember s b c t
    → Consumed (without_order b) (without_order c) (der t)
consumes_member {b = b} {t = t} r =
    subst (λ z. Consumed (without_order b) (without_order z) (der t)) (sym r.follows.same)
    (consumes_without_order (consumes_whole r.reads r.implicit_tag))

pub member_not_implicit : {s : Shape} {b c : State} {t : Tree} → ReadsMember s b c t → c.implicit_tag ≡ None
member_not_implicit r = ap (λ (z : State). z.implicit_tag) r.follows.same ∙ r.reads.implicit_tag

-- it is the last one from here on
last_member : {s : Shape} {b c : State} {t : Tree} → ReadsMember s b c t → c.last ≡ with_last b.last (der t)
last_member {t = t} r = ap (λ (z : State). z.last) r.follows.same ∙ ap (λ l. with_last l (der t)) r.reads.consumes.last

-- and members that are in order after it are in order with it in front
pub member_leads : {s : Shape} {b c : State} {t : Tree} → ReadsMember s b c t → (ms : List (List ℕ))
    → AreInOrder c.last ms → AreInOrder b.last (der t ∷ ms)
member_leads {b = b} {t = t} r ms h =
    let first : is_out_of_order b.last (der t) ≡ false = ap (λ l. is_out_of_order l (der t)) (sym r.reads.consumes.last)
    ∙ r.follows.in_order in
    order_more b.last (der t) ms first (subst (λ l. AreInOrder l ms) (last_member r) h)

pub members_lead : {s : Shape} {b c : State} {t : Tree} (ts : Trees) → ReadsMember s b c t
    → AreInOrder c.last (encodings ts) → AreInOrder b.last (encodings (Trees.more t ts))
members_lead {b = b} {t = t} ts r h =
    subst (AreInOrder b.last) (sym (encodings-more t ts)) (member_leads r (encodings ts) h)

-- Members after one that has the same encoding as what was read: they are in order with it in front exactly if they are
-- so from there on.
pub order_ahead : {s : Shape} {b c : State} {t : Tree} (u : Tree) (us : Trees) → der u ≡ der t → ReadsMember s b c t
    → AreInOrder c.last (encodings us) → AreInOrder b.last (encodings (Trees.more u us))
order_ahead {b = b} u us same r h =
    subst (AreInOrder b.last) (ap (λ x. x ∷ encodings us) (sym same) ∙ sym (encodings-more u us))
    (member_leads r (encodings us) h)

pub order_after : {s : Shape} {b c : State} {t : Tree} (u : Tree) (us : Trees) → der u ≡ der t → ReadsMember s b c t
    → AreInOrder b.last (encodings (Trees.more u us)) → AreInOrder c.last (encodings us)
order_after {b = b} u us same r h =
    let last = last_member r ∙ ap (with_last b.last) (sym same) in
    subst (λ l. AreInOrder l (encodings us)) (sym last) (next_in_order b.last u us h)

-- a member isn't read at the end
pub member_ahead : {s : Shape} {b c : State} {t : Tree} → ReadsMember s b c t → 0 < b.until_end
member_ahead {t = t} r = omega (arith, (consumes_member r).until_end, length-der t r.reads.readable)

-- it had failed before
pub member_again : {V : Type 0} {meaning : V → Tree} {s : Shape} {rule : Rule} {a : State} {e : Asn1DerError}
    (l : Option (List ℕ)) → a.failed ≡ Some (failure_of e) → RefusesMember meaning s rule (record a { last = l }) a e
member_again {a = a} {e = e} l h =
    let no : a.failed ≡ None → ⊥ = λ w. let q : None ≡ Some (failure_of e) = sym w ∙ h in cc in
    record {
      fails = fails_alike l (fails_again a h);
      refuses = no_value (record {
        fails = fails_alike l (fails_again a h);
        none = λ j. absurd (no j.had_not_failed);
        first =
            λ j. absurd (no j.had_not_failed);
      }) (λ j. absurd (no j.had_not_failed));
      implicit_tag = λ w. absurd (no w);
    }

-- its type refused it
pub member_unread : {V : Type 0} {meaning : V → Tree} {s : Shape} {rule : Rule} {a c : State} {e : Asn1DerError}
    → Refuses meaning s a c e → RefusesBy rule a c e → (a.failed ≡ None → a.implicit_tag ≡ None)
    → RefusesMember meaning s rule a c e
member_unread r by d = record { fails = r.fails; refuses = no_value r by; implicit_tag = d }

test_fails : {m : List ℕ} {b c : State} {e : Asn1DerError} → RefusesTest m b c e → Fails b c e
test_fails (out_of_order h) = h.fails
test_fails (without_memory n f is same) = f

-- it was read, and then refused
pub member_untested : {V : Type 0} {meaning : V → Tree} {s : Shape} {rule : Rule} {a b c : State} {e : Asn1DerError}
    (v : V) → Reads s a b (meaning v) → RefusesTest (der (meaning v)) b c e
    → (a.failed ≡ None → a.implicit_tag ≡ None) → RefusesMember meaning s rule a c e
member_untested {b = b} v r h d = record {
  fails = fails_after r.consumes (test_fails h);
  refuses =
      after_value b v r h;
  implicit_tag = d;
}

-- nothing is whole at the end
nothing_here : {V : Type 0} (meaning : V → Tree) {s : Shape} {a c : State} {e : Asn1DerError} {end : ℕ} {bs : List ℕ}
    (v : V) → a.until_end ≡ 0 → e ≡ TruncatedData → Concerns a c e end bs → IsAtFront Place.whole s bs end (meaning v)
    → ⊥
nothing_here meaning v z is (now i r) st = omega (arith, st.within, length-der (meaning v) st.readable)
nothing_here meaning v z is (ever n r d y left i q f) st = n is

-- a member was wanted at the end
pub member_missing : {V : Type 0} {meaning : V → Tree} {s : Shape} (rule : Rule) {a b c : State} {e : Asn1DerError}
    → HasNoMore a b → a.implicit_tag ≡ None → Fails b c e → e ≡ TruncatedData → HasFailedWith b e c
    → RefusesMember meaning s (field_rule rule) a c e
member_missing {meaning = meaning} {s = s} rule {a = a} {b = b} {c = c} {e = e} h d f is failed =
    member_unread (record {
      fails = subst (λ z. Fails z c e) h.same f;
      none = λ j end bs w v st. nothing_here meaning v h.reached is w
          (subst (λ x. IsAtFront (place_in x a.until_end) s bs end (meaning v)) d st);
      first = λ j k x l. absurd (omega (arith, h.reached));
    }) (λ j bs left k l. missing h.reached is
    (same_left c.input l (ap (λ (z : State). z.input) failed ∙ ap (λ (z : State). z.input) h.same ∙ k))) (λ w. d)

-- a member that is there was refused
pub member_field : {V : Type 0} {meaning : V → Tree} {s : Shape} {rule : Rule} {a c : State} {e : Asn1DerError}
    → 0 < a.until_end → RefusesMember meaning s rule a c e → RefusesMember meaning s (field_rule rule) a c e
member_field {V} {meaning} {s} {rule} {a} {c} {e} ahead h =
    record { fails = h.fails; refuses = next h.refuses; implicit_tag = h.implicit_tag }
  where
    next : RefusesNext meaning s rule a c e → RefusesNext meaning s (field_rule rule) a c e
    next (no_value r by) = no_value r (λ j bs left k l. refused ahead (by j bs left k l))
    next (after_value b v r t) = after_value b v r t

-- ---- members one after another

-- a value with this encoding was read, and refused since it is less than the last one
pub record IsRefusedLess (old new : State) (e : Asn1DerError) (encoding : List ℕ) : Type 0 where
  pub consumed : RefusesConsumed old new e encoding
  pub less : is_out_of_order old.last encoding ≡ true

-- the bytes of a value were consumed: they begin with the bytes of the first member, and the bytes of the others follow
same_first : {b c d : State} {e : Asn1DerError} (t u : Tree) (us : Trees) → IsReadable u → IsReadable t
    → (m : Consumed b c (der t)) → (l : c.consumed ≤ fetched_count d)
    → {end : ℕ} {seen : List ℕ} (w : Concerns b d e end seen) (rest : List ℕ)
    → seen ≡ members_encoding (Trees.more u us) ++ rest
    → (der u ≡ der t) × (members_encoding us ++ rest ≡ (concerns_after m l w).rest)
same_first t u us readable read m l w rest begins =
    let v = concerns_after m l w in
    let same : der u ++ (members_encoding us ++ rest) ≡ der t ++ v.rest =
    sym (append_assoc (der u) (members_encoding us) rest) ∙ ap (λ x. x ++ rest) (sym (members_encoding-more u us))
    ∙ sym begins ∙ v.begins in
    same_encoding u t (members_encoding us ++ rest) v.rest readable read same

-- a member was read, and others follow it
module _ {s : Shape} {b c d : State} {e : Asn1DerError} {t : Tree} (u : Tree) (us : Trees) (readable : IsReadable u)
    (r : ReadsMember s b c t) (f : Fails c d e) (w : AreBefore b d e (members_encoding (Trees.more u us))) where
  pub same_member : (der u ≡ der t)
      × (members_encoding us ++ w.rest
      ≡ (concerns_after (consumes_member r) (failed_grows f) (concerns_without_order w.concerns)).rest)
  same_member = same_first t u us readable r.reads.readable (consumes_member r) (failed_grows f)
      (concerns_without_order w.concerns) w.rest w.begins

  pub next_member : AreBefore c d e (members_encoding us)
  next_member =
      let m = consumes_member r in
      let v = concerns_after m (failed_grows f) (concerns_without_order w.concerns) in
      let soft : c.end ≡ Soft = m.end ∙ w.soft in
      let left : v.left ≡ c.until_end = concerns_room soft v.concerns in
      record {
        soft = soft;
        seen = v.rest;
        concerns = subst (λ n. Concerns c d e n v.rest) left (concerns_alike c.last v.concerns);
        rest = w.rest;
        begins = sym same_member.1;
        within = omega (
          arith,
          w.within,
          ap length (members_encoding-more u us),
          length-append (der u) (members_encoding us),
          ap length same_member.0,
          m.until_end,
        );
      }

  pub next_order : AreInOrder b.last (encodings (Trees.more u us)) → AreInOrder c.last (encodings us)
  next_order h = order_after u us same_member.0 r h

pub next_up_to_end : {s : Shape} {b c d : State} {e : Asn1DerError} {t : Tree} (u : Tree) (us : Trees) → IsReadable u
    → ReadsMember s b c t → Fails c d e → AreUpToEnd b d e (members_encoding (Trees.more u us))
    → AreUpToEnd c d e (members_encoding us)
next_up_to_end u us readable r f w =
    let p = same_member u us readable r f w.are_before in
    record {
      are_before = next_member u us readable r f w.are_before;
      fills = omega (
        arith,
        w.fills,
        ap length (members_encoding-more u us),
        length-append (der u) (members_encoding us),
        ap length p.0,
        (consumes_member r).until_end,
      );
    }

-- The next member was refused. Where a value of its type is there, it was read, and refused for its order.
module _ {V : Type 0} (meaning : V → Tree) {s : Shape} {c d : State} {e : Asn1DerError} (v : V) (us : Trees)
    (implicit_tag : c.implicit_tag ≡ None) (j : IsJudged c d e) (of_shape : IsOf s (meaning v))
    (readable : IsReadable (meaning v))
    (w : AreBefore c d e (members_encoding (Trees.more (meaning v) us))) where
  unread : Refuses meaning s c d e → ⊥
  unread r =
      let parts : members_encoding (Trees.more (meaning v) us) ≡ der (meaning v) ++ members_encoding us =
      members_encoding-more (meaning v) us in
      let at_front : IsAtFront Place.whole s w.seen c.until_end (meaning v) = record {
        of_shape = of_shape;
        readable = readable;
        may_be_there = tt;
        within = omega (arith, w.within, ap length parts, length-append (der (meaning v)) (members_encoding us));
        front = record {
          rest = members_encoding us ++ w.rest;
          is = w.begins ∙ ap (λ x. x ++ w.rest) parts
              ∙ append_assoc (der (meaning v)) (members_encoding us) w.rest;
        };
      } in
      r.none j c.until_end w.seen w.concerns v
      (subst (λ x. IsAtFront (place_in x c.until_end) s w.seen c.until_end (meaning v)) (sym implicit_tag) at_front)

  untested : (t : Tree) {b : State} → Reads s c b t → RefusesTest (der t) b d e → IsRefusedLess c d e (der (meaning v))
  untested t r (without_memory n f is same) = absurd (j.memory is)
  untested t {b} r (out_of_order h) =
      let m = consumes_whole r implicit_tag in
      let same = (same_first t (meaning v) us readable r.readable m (failed_grows h.fails) w.concerns w.rest
      w.begins).0 in
      record {
        consumed = record {
          mid = record b { last = d.last };
          consumes =
              subst (Consumed (without_order c) (without_order b)) (sym same) (consumes_without_order m);
          error =
              h.error;
          same = h.same;
        };
        less = ap₂ is_out_of_order (sym m.last) same ∙ h.less;
      }

  refused_less : {rule : Rule} → RefusesNext meaning s rule c d e → IsRefusedLess c d e (der (meaning v))
  refused_less (no_value r by) = absurd (unread r)
  refused_less (after_value b u r h) = untested (meaning u) r h

pub member_refused_less : {V : Type 0} {meaning : V → Tree} {s : Shape} {rule : Rule} {c d : State} {e : Asn1DerError}
    (v : V)
    (us : Trees) → RefusesMember meaning s rule c d e → IsJudged c d e → IsOf s (meaning v) → IsReadable (meaning v)
    → AreBefore c d e (members_encoding (Trees.more (meaning v) us)) → IsRefusedLess c d e (der (meaning v))
member_refused_less {meaning = meaning} v us r j of_shape readable w =
    refused_less meaning v us (r.implicit_tag j.had_not_failed) j of_shape readable w r.refuses

-- so none is there in order
pub no_member_in_order : {V : Type 0} {meaning : V → Tree} {s : Shape} {rule : Rule} {c d : State} {e : Asn1DerError}
    (v : V)
    (us vs : Trees) → RefusesMember meaning s rule c d e → IsJudged c d e → IsOf s (meaning v) → IsReadable (meaning v)
    → AreInOrder c.last (encodings (Trees.more (meaning v) vs))
    → AreBefore c d e (members_encoding (Trees.more (meaning v) us)) → ⊥
no_member_in_order {meaning = meaning} {c = c} v us vs r j of_shape readable order w =
    true≢false (sym (member_refused_less v us r j of_shape readable w).less
    ∙ first_in_order c.last (meaning v) vs order)

pub no_member : {V : Type 0} {meaning : V → Tree} {s : Shape} {rule : Rule} {c d : State} {e : Asn1DerError} (v : V)
    (us : Trees)
    → RefusesMember meaning s rule c d e → IsJudged c d e → IsOf s (meaning v) → IsReadable (meaning v)
    → AreInOrder c.last (encodings (Trees.more (meaning v) us))
    → AreBefore c d e (members_encoding (Trees.more (meaning v) us)) → ⊥
no_member v us r j of_shape readable order w = no_member_in_order v us us r j of_shape readable order w

-- something is left, so no member is missing
pub none_left : {c d : State} {e : Asn1DerError} → 0 < c.until_end → AreUpToEnd c d e (members_encoding Trees.none) → ⊥
none_left l w = omega (arith, w.fills, ap length members_encoding-none)

-- ---- whole lists

-- the members of a list that was opened, in order from its first one on
pub opened_in_order : (kind : ListKind) {a b : State} {outer : EnclosingEnd} (ts : Trees)
    → OpensList (list_tag kind) a b outer → IsInOrder kind (encodings ts) → AreInOrder b.last (encodings ts)
opened_in_order kind ts h i = subst (λ l. AreInOrder l (encodings ts)) (sym (ap (λ (z : State). z.last) h.opened))
    (order_begins kind (encodings ts) i)

pub whole_in_order : (kind : ListKind) {a b : State} {outer : EnclosingEnd} (ts : Trees)
    → OpensList (list_tag kind) a b outer → AreInOrder b.last (encodings ts) → IsInOrder kind (encodings ts)
whole_in_order kind ts h i =
    order_whole kind (encodings ts)
    (subst (λ l. AreInOrder l (encodings ts)) (ap (λ (z : State). z.last) h.opened) i)

-- the members of a list, before the list's end
members_at_front : (kind : ListKind) (s : Shape) {a b c : State} {outer : EnclosingEnd} {e : Asn1DerError} {end : ℕ}
    {bs : List ℕ} (ts : Trees) → OpensList (list_tag kind) a b outer → Fails b c e → Concerns a c e end bs
    → IsAtFront (place_of a) s bs end (Tree.list kind ts) → AreUpToEnd b c e (members_encoding ts)
members_at_front kind s {b = b} {c = c} {e = e} ts h f w st =
    let grows : h.mid.consumed ≤ fetched_count c =
    omega (arith, failed_grows f, ap (λ (z : State). z.consumed) h.opened) in
    let o = seen_content h.begins grows refl refl w st in
    let content_is = members_encoding-content kind ts st.readable.0 in
    let opened : State = record (with_inner_end h.mid h.size Soft) { last = order_of (list_tag kind) } in
    let size : length (members_encoding ts) ≡ opened.until_end = sym (ap length content_is) ∙ o.size in
    let are_before : AreBefore opened c e (members_encoding ts) = record {
      soft = refl;
      seen = o.seen;
      concerns = concerns_alike (order_of (list_tag kind))
          (concerns_with_inner_end o.concerns);
      rest = o.rest;
      begins = o.begins ∙ ap (λ x. x ++ o.rest) content_is;
      within = omega (arith, size);
    } in
    subst (λ z. AreUpToEnd z c e (members_encoding ts)) (sym h.opened)
    (record { are_before = are_before; fills = size })

-- a list whose header was consumed, and whose members can't be there
pub list_refused : {V : Type 0} (kind : ListKind) (members : V → Trees) (s : Shape) → IsFirst s (list_tag kind)
    → {a b c : State} {outer : EnclosingEnd} {e : Asn1DerError} → OpensList (list_tag kind) a b outer → Fails b c e
    → (IsJudged b c e → (v : V) → IsOf s (Tree.list kind (members v)) → AreReadable (members v)
    → AreInOrder b.last (encodings (members v)) → AreUpToEnd b c e (members_encoding (members v)) → ⊥)
    → Refuses (λ v. Tree.list kind (members v)) s a c e
list_refused kind members s first {a} {b} {c} {outer} {e} h f none =
    let before : Fails (with_inner_end h.mid h.size Soft) c e =
    fails_alike None (subst (λ z. Fails z c e) h.opened f) in
    let fails : Fails h.mid c e = fails_without_inner_end h.begins.fits before in
    let judged : IsJudged a c e → IsJudged b c e =
    λ j. subst (λ z. IsJudged z c e) (sym h.opened)
    (judged_alike (order_of (list_tag kind))
    (judged_with_inner_end h.size Soft (judged_after h.begins.consumes j))) in
    record {
      fails = fails_after h.begins.consumes fails;
      none = λ j end bs w v st. none (judged j) v st.of_shape st.readable.1
          (opened_in_order kind (members v) h st.readable.0) (members_at_front kind s (members v) h f w st);
      first = λ j k d x left l q. first_of_header s a.implicit_tag a.input h.mid.input (list_tag kind) h.size first
          h.begins.consumes.input d left l q;
    }

-- a list whose header was refused
pub list_unopened : {V : Type 0} (kind : ListKind) (members : V → Trees) (s : Shape) → IsFirst s (list_tag kind)
    → {a c : State} {e : Asn1DerError} → RefusesList (list_tag kind) a c e
    → Refuses (λ v. Tree.list kind (members v)) s a c e
list_unopened kind members s first {a} h =
    let r = h.begin in
    record {
      fails = r.fails;
      none = λ j end bs w v st. let q = r.header j in
          no_plain a.implicit_tag (list_tag kind) a.until_end end s bs (Tree.list kind (members v)) q.0
          (end_below (r.bounded j.had_not_failed) w) refl refl (q.1.none j end bs w) st;
      first = λ j k d l b left q. subst (IsFirst s) (sym ((r.header j).1.first j k l b left q)) first;
    }

-- the members of a list that was opened and closed were read
pub list_reads : {s : Shape} {a b c d : State} {kind : ListKind} {outer closed : EnclosingEnd} (ts : Trees)
    → OpensList (list_tag kind) a b outer → AreInOrder b.last (encodings ts)
    → Consumed (without_order b) (without_order c) (members_encoding ts) → c.implicit_tag ≡ None → Closes closed c d
    → closed ≡ outer
    → IsOf s (Tree.list kind ts) → AreReadable ts → Reads s a d (Tree.list kind ts)
list_reads {s} {a} {b} {c} {d} {kind} {outer} {closed} ts h o t none k same of_shape readable =
    let order = whole_in_order kind ts h o in
    let all = content (Tree.list kind ts) in
    let consumed : Consumed (without_order b) (without_order c) all =
    subst (Consumed (without_order b) (without_order c)) (sym (members_encoding-content kind ts order)) t in
    let within : Consumed (with_inner_end h.mid h.size Soft) (without_order c) all =
    subst (λ z. Consumed (without_order z) (without_order c) all) h.opened consumed in
    let closes : Closes closed (without_order c) d =
    record { reached = k.reached; had_not_failed = k.had_not_failed; same = k.same } in
    let p = closes_after h.begins.fits (same ∙ h.outer_end) within closes in
    record {
      of_shape = of_shape;
      readable = (order, readable);
      may_be_there = may_be_there a.implicit_tag (list_tag kind) h.size a.until_end h.mid.until_end (Tree.list kind ts)
          refl h.begins.consumes.until_end h.begins.all p.1 tt;
      consumes = consumes_plain a.implicit_tag a.until_end (Tree.list kind ts) refl refl h.begins.consumes p.0 p.1;
      implicit_tag = ap (λ (z : State). z.implicit_tag) k.same ∙ none;
    }
