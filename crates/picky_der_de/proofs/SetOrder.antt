-- Members of sets: those that are shown before they are read, and those that are out of order.
use Rattle.std.proofs.Common.{◌≡◌, ◌≢◌, ℕ, ◌-◌, ◌≤◌, Bool, List, [], ◌∷◌, ◌++◌, length, take, drop, Option, Some, None}
use Rattle.std.proofs.Common.{IfNone, IfSome, sym, ◌∙◌, ap, ap₂, subst, arith, append_assoc, true, false, refl}
use Rattle.std.proofs.Common.{◌+◌, ◌^◌, ◌<◌, map, Result, Ok, Err, IfOk, OnOk, IfErr, true≢false}
use Rattle.std.specs.Io.{StartsWith}
use Rattle.std.specs.Io.KnownBytes.{Consumes, Keeps}
use Rattle.std.proofs.lemmas.List.{take-append-drop, append_cancel_left}
use Rattle.std.proofs.lemmas.Grind.{common_steps}
use Rattle.picky_der_core.specs.Element.{length_octets, tlv, IsElement}
use Rattle.picky_der_core.specs.Failure.{failure_of}
use Rattle.picky_der_core.specs.Order.{is_less}
use Rattle.picky_der_de.specs.Ahead.{IsElementInFront}
use Rattle.picky_der_de.specs.Order.{with_last, is_out_of_order, out_of_order, without_memory, RefusesTest, order_of}
use Rattle.picky_der_de.specs.Order.{AreInOrder, Follows, known_bytes}
use Rattle.picky_der_de.specs.declared.sequence.order.Next.{Next}
use Rattle.picky_der_de.specs.declared.sequence.order.Next.TheVariants.{Untested, InOrder, Kept}
use Rattle.picky_der_de.specs.SetOrder.{last_by, is_in_order, in_order, IsCompared, SeesNext}
use Rattle.picky_der_de.specs.LookAhead.{Peeks, Identifies, IdentifiesIn, RefusesIdentifier}
use Rattle.picky_der_de.proofs.Order.{judged_alike}
use Rattle.picky_der_de.proofs.InOrder.{with_members, fails_in, reads_in, refuses_in, refused_in, failed_in}
use Rattle.picky_der_core.specs.declared.error.Asn1DerError.{Asn1DerError}
use Rattle.picky_der_core.specs.declared.error.Asn1DerError.TheVariants.{InvalidData, OutOfMemory}
use Rattle.picky_der_core.specs.Tree.{Tree, ListKind, trees}
use Rattle.picky_der_core.specs.Encoding.{der}
use Rattle.picky_der_core.specs.EncodingLaws.{der-element, same_element}
use Rattle.picky_der_core.specs.Shape.{Shape}
use Rattle.picky_der_de.specs.State.{State}
use Rattle.picky_der_de.specs.Steps.{Consumed, Fails, failed_with, IsJudged, is_hard}
use Rattle.picky_der_de.specs.RefusesBy.{Rule, RefusesBy}
use Rattle.picky_der_de.specs.Reading.{Reads, Refuses, now}
use Rattle.picky_der_de.proofs.Refusals.{front_consumed}
use Rattle.picky_der_de.specs.Members.{ReadsMember, RefusesMember, members_encoding, AreBefore, BreaksOrder, RefusesAll}
use Rattle.picky_der_de.specs.Members.{RefusesUnordered}
use Rattle.picky_der_de.proofs.MemberReads.{consumes_whole, member_unread, member_untested, opened_in_order}
use Rattle.picky_der_de.proofs.MemberReads.{whole_in_order}
use Rattle.std.proofs.Math.Seq.{take-append-add}
use Rattle.picky_der_core.specs.ElementLaws.{length_octets_prefix}
use Rattle.picky_der_core.specs.Refusal.{Refusal, refusal_of, header_refusal}
use Rattle.picky_der_de.specs.declared.end.End.TheVariants.{Soft}
use Rattle.picky_der_de.specs.Headers.{header_bytes}
use Rattle.picky_der_de.specs.Ends.{EnclosingEnd, Closes, RefusesClose, OpensList, RefusesList}
use Rattle.picky_der_de.proofs.Steps.{judged_after}
use Rattle.picky_der_de.proofs.Ends.{judged_with_inner_end, first_compared}
use Rattle.picky_der_de.proofs.Headers.{header-read}

-- the first so many of these bytes are known to be next, and the others after them
pub record IsKnownNext (i : Option (List ℕ)) (all : List ℕ) (count : ℕ) : Type 0 where
  pub rest : List ℕ
  pub known : i ≡ Some (take count all ++ (drop count all ++ rest))

pub known_next : (i : Option (List ℕ)) (all : List ℕ) (count : ℕ) → IfSome i (λ bytes. StartsWith bytes all)
    → IfNone i (all ≡ []) → IsElementInFront all count → IsKnownNext i all count
known_next None all count h none e =
    let is : take count all ≡ e.tag ∷ (length_octets (length e.content) ++ e.content) = e.is in
    let nothing : take count all ≡ [] = ap (take count) none ∙ take_nothing count in
    absurd (let q : [] ≡ e.tag ∷ (length_octets (length e.content) ++ e.content) = sym nothing ∙ is in cc)
  where
    take_nothing : (n : ℕ) → take {A = ℕ} n [] ≡ []
    take_nothing n = grind (arith, common_steps)
known_next (Some bytes) all count h none e =
    let whole : bytes ≡ all ++ drop (length all) bytes = sym (take-append-drop (length all) bytes)
    ∙ ap (λ x. x ++ drop (length all) bytes) h in
    let parts : all ≡ take count all ++ drop count all = sym (take-append-drop count all) in
    record {
      rest = drop (length all) bytes;
      known = ap (λ x. Some x) (whole ∙ ap (λ x. x ++ drop (length all) bytes) parts
          ∙ append_assoc (take count all) (drop count all) (drop (length all) bytes));
    }

element_next : {all : List ℕ} {count : ℕ} → IsElementInFront all count → IsElement (take count all)
unfolding tlv
element_next e = record { tag = e.tag; content = e.content; number = e.number; is = e.is }

length-element : (member : List ℕ) → IsElement member → 0 < length member
unfolding tlv
length-element member e = rw e.is (omega arith)

take_front : (count : ℕ) (near rest : List ℕ) → count ≤ length near
    → take count (take count near ++ rest) ≡ take count near
take_front count near rest fits = grind (arith, common_steps)

length_front : (count : ℕ) (near : List ℕ) → count ≤ length near → length (take count near) ≡ count
length_front count near fits = grind (arith, common_steps)

-- a member and the one after it, as they are shown
not_before_end : (member : List ℕ) (until_end count : ℕ) → IsElement member → count ≡ until_end
    → count + length member ≤ until_end → ⊥
not_before_end member until_end count e here fits = omega (arith, here, fits, length-element member e)

pub sees_none : {near : List ℕ} {until_end count : ℕ} → IsElementInFront near count → count ≡ until_end
    → SeesNext near until_end count
sees_none {near} {until_end} {count} e here = record {
  element = e;
  next = λ member rest left m is fits. absurd (not_before_end member until_end count m here fits);
}

pub sees_next : {near : List ℕ} {until_end count size : ℕ} → IsElementInFront near count
    → IsElementInFront (drop count near) size → is_less (take size (drop count near)) (take count near) ≡ false
    → SeesNext near until_end count
sees_next {near} {until_end} {count} {size} e f h = record {
  element = e;
  next = λ member rest left m is fits.
      let after : take size (drop count near) ++ (drop size (drop count near) ++ rest) ≡ member ++ left =
      sym (append_assoc (take size (drop count near)) (drop size (drop count near)) rest)
      ∙ ap (λ x. x ++ rest) (take-append-drop size (drop count near)) ∙ is in
      let same = (same_element (take size (drop count near)) member (drop size (drop count near) ++ rest) left
      (element_next f) m after).0 in
      ap (λ x. is_less x (take count near)) (sym same) ∙ h;
}

-- ---- members, read and refused

-- no value was read, so no member was
pub member_refused : {V : Type 0} {meaning : V → Tree} {s : Shape} {rule : Rule} {a c : State} {e : Asn1DerError}
    (o : Next) → a.implicit_tag ≡ None → Refuses meaning s a c e → RefusesBy rule a c e
    → RefusesMember meaning s rule (in_order a o) c e
member_refused {rule = rule} o whole r by = member_unread (refuses_in r) (refused_in rule by) (λ w. whole)

-- a value was read, and may come next
pub member_reads : {s : Shape} {a c : State} {t : Tree} (o p : Next) (seen : List ℕ) → a.implicit_tag ≡ None
    → Reads s a c t → is_out_of_order (in_order a o).last (der t) ≡ false
    → last_by p seen c.kept ≡ with_last (in_order a o).last (der t)
    → ReadsMember s (in_order a o) (in_order (record c { seen = seen }) p) t
member_reads {a = a} {c = c} o p seen whole r h is = record {
  mid = with_members (in_order a o).last seen c.kept c;
  reads = reads_in refl r;
  implicit_tag = whole;
  follows = record { in_order = h; same = ap (λ l. with_members l seen c.kept c) is };
}

-- the same with the test afterwards
pub still_last : (a c : State) (o : Next) → c.seen ≡ a.seen → c.kept ≡ a.kept
    → (in_order c o).last ≡ (in_order a o).last
still_last a c o seen kept = ap₂ (last_by o) seen kept

-- the last member after an error, of which the next one is known to be in order, or whose order isn't tested
pub in_order_last : (a c : State) (o : Next) → o ≡ InOrder → c.seen ≡ a.seen
    → (in_order c o).last ≡ (in_order a o).last
in_order_last a c Untested is seen = refl
in_order_last a c InOrder is seen = ap (λ x. Some x) seen
in_order_last a c Kept is seen = absurd (cc)

pub untested_last : (a c : State) (o : Next) → o ≡ Untested → (in_order c o).last ≡ (in_order a o).last
untested_last a c Untested is = refl
untested_last a c InOrder is = absurd (cc)
untested_last a c Kept is = absurd (cc)

-- a look at the next byte
identified_in_last : (d : Option ℕ) (a c : State) (tag : ℕ) → IdentifiesIn d a c tag → c.last ≡ a.last
identified_in_last None a c tag p = ap (λ (z : State). z.last) p.same
identified_in_last (Some awaited) a c tag p = ap (λ (z : State). z.last) p.2

pub identified_last : {a c : State} {tag : ℕ} → Identifies a c tag → c.last ≡ a.last
identified_last {a} {c} {tag} i = identified_in_last a.implicit_tag a c tag i.is

pub identifier_last : {a c : State} {e : Asn1DerError} (o : Next) → RefusesIdentifier a c e
    → (in_order c o).last ≡ (in_order a o).last
identifier_last o r = ap (λ (z : State). (in_order z o).last) r.refuses.same

pub member_follows : {s : Shape} {a c : State} (d : State) {t : Tree} (o p : Next) → a.implicit_tag ≡ None
    → Reads s a c t → c.seen ≡ a.seen → c.kept ≡ a.kept
    → Follows (der t) (record (in_order c o) { kept = d.kept }) (in_order d p)
    → ReadsMember s (in_order a o) (in_order d p) t
member_follows {a = a} {c = c} d o p whole r seen kept follows = record {
  mid = with_members (in_order c o).last c.seen d.kept c;
  reads = reads_in (still_last a c o seen kept) r;
  implicit_tag = whole;
  follows = follows;
}

pub member_failed : {V : Type 0} {meaning : V → Tree} {s : Shape} {rule : Rule} {a c : State} (d : State)
    {e : Asn1DerError} (o : Next) (v : V) → a.implicit_tag ≡ None → Reads s a c (meaning v) → c.seen ≡ a.seen
    → c.kept ≡ a.kept → RefusesTest (der (meaning v)) (in_order c o) d e
    → RefusesMember meaning s rule (in_order a o) d e
member_failed {a = a} {c = c} d o v whole r seen kept t =
    member_untested v (reads_in (still_last a c o seen kept) r) t (λ w. whole)

-- it is less than the last one
pub order_failed : {member : List ℕ} {c d : State} {e : Asn1DerError} (o : Next) → Fails c d e → e ≡ InvalidData
    → d ≡ failed_with c e → is_out_of_order (in_order c o).last member ≡ true
    → RefusesTest member (in_order c o) d e
order_failed {c = c} {e = e} o f is same less = out_of_order (record {
  fails = fails_in f;
  less = less;
  error = is;
  same = failed_in c e o same;
})

-- an allocation failed
pub memory_failed : {member : List ℕ} {c d : State} {e : Asn1DerError} (o : Next) → (in_order c o).last ≢ None
    → Fails c d e → e ≡ OutOfMemory → d ≡ failed_with c e → RefusesTest member (in_order c o) d e
memory_failed {c = c} {e = e} o some f is same = without_memory some (fails_in f) is (failed_in c e o same)

-- a list whose order isn't tested
pub unordered_reads : {A : Type 0} (meaning : A → Tree) (s : Shape) (a c : State) (o : Next)
    (r : Result A Asn1DerError) → o ≡ Untested → a.implicit_tag ≡ None → IfOk r (λ v. Reads s a c (meaning v))
    → IfOk r (λ v. ReadsMember s (in_order a o) (in_order c o) (meaning v))
unordered_reads meaning s a c o (Ok v) none whole r =
    let before : (in_order a o).last ≡ None = ap (λ n. last_by n a.seen a.kept) none in
    let after : (in_order c o).last ≡ None = ap (λ n. last_by n c.seen c.kept) none in
    member_reads o o c.seen whole r (ap (λ l. is_out_of_order l (der (meaning v))) before)
    (after ∙ sym (ap (λ l. with_last l (der (meaning v))) before))
unordered_reads meaning s a c o (Err e) none whole r = tt

pub unordered_refused : {A V : Type 0} (meaning : V → Tree) (s : Shape) (rule : Rule) (a c : State) (o : Next)
    (r : Result A Asn1DerError) → a.implicit_tag ≡ None → IfErr r (Refuses meaning s a c)
    → IfErr r (RefusesBy rule a c) → IfErr r (RefusesMember meaning s rule (in_order a o) c)
unordered_refused meaning s rule a c o (Ok v) whole r by = tt
unordered_refused meaning s rule a c o (Err e) whole r by = member_refused o whole r by

-- ---- the last member

pub last_tested : (a : State) (o : Next) → o ≢ Untested → (in_order a o).last ≢ None
last_tested a Untested some = absurd (some refl)
last_tested a InOrder some = λ q. cc
last_tested a Kept some = λ q. cc

with_some : (l : Option (List ℕ)) (member : List ℕ) → l ≢ None → Some member ≡ with_last l member
with_some None member some = absurd (some refl)
with_some (Some x) member some = refl

pub is_last : (l n : Option (List ℕ)) (member : List ℕ) → l ≢ None → n ≡ Some member → n ≡ with_last l member
is_last l n member some is = is ∙ with_some l member some

-- after a member that is kept
pub kept_follows : {member : List ℕ} (c : State) {d : State} (o : Next) → (in_order c o).last ≢ None
    → is_out_of_order (in_order c o).last member ≡ false → d ≡ record c { kept = member }
    → Follows member (record (in_order c o) { kept = d.kept }) (in_order d Kept)
kept_follows {member} c {d} o some h is =
    subst (λ (z : State). Follows member (record (in_order c o) { kept = z.kept }) (in_order z Kept)) (sym is) (record {
      in_order = h;
      same = ap (λ l. record c { last = l; kept = member }) (with_some (in_order c o).last member some);
    })

-- what the reader shows was left before the member, and the bytes after it are left then
module _ {a c : State} {near : List ℕ} {until_end count : ℕ} {s : Shape} {t : Tree}
    (front : IfSome a.input (λ bytes. StartsWith bytes near)) (none : IfNone a.input (near ≡ []))
    (sees : SeesNext near until_end count) (whole : a.implicit_tag ≡ None) (r : Reads s a c t) where
  shown : IsKnownNext a.input near count
  shown = known_next a.input near count front none sees.element

  read : Consumed a c (der t)
  read = consumes_whole r whole

  after : (left : List ℕ) × (c.input ≡ Some left)
      × (take count near ++ (drop count near ++ shown.rest) ≡ der t ++ left)
  after = front_consumed a.input c.input (der t) (take count near ++ (drop count near ++ shown.rest)) read.input
      shown.known

  parts : (take count near ≡ der t) × (drop count near ++ shown.rest ≡ after.0)
  parts = same_element (take count near) (der t) (drop count near ++ shown.rest) after.0 (element_next sees.element)
      (der-element t r.readable) after.2

  -- what was read is what was shown
  pub shown_is_read : der t ≡ take count near
  shown_is_read = sym parts.0

  pub seen_is_read : take count (known_bytes a.input) ≡ der t
  seen_is_read =
      ap (λ i. take count (known_bytes i)) shown.known
      ∙ take_front count near (drop count near ++ shown.rest) sees.element.fits ∙ parts.0

  -- what is known of the one after it
  pub next_compared : (d : State) (p : Next) → a.until_end ≡ until_end → d ≡ record c { seen = der t }
      → IsCompared d p
  next_compared d p end is = subst (λ z. IsCompared z p) (sym is) (λ f q member left element consumed fits.
      let k = front_consumed c.input left member after.0 consumed after.1 in
      let size : length (der t) ≡ count = ap length shown_is_read ∙ length_front count near sees.element.fits in
      ap (is_less member) shown_is_read
      ∙ sees.next member shown.rest k.0 element (parts.1 ∙ k.2) (omega (arith, read.until_end, size, fits, end)))

-- what is known of a member that is shown
known_consumes : (i : Option (List ℕ)) (x rest : List ℕ) → i ≡ Some (x ++ rest) → Consumes i (Some rest) x
known_consumes None x rest e = tt
known_consumes (Some bytes) x rest e = cc

pub shown_compared : (a : State) {near : List ℕ} {count : ℕ} (o : Next) → a.failed ≡ None → IsCompared a o
    → IfSome a.input (λ bytes. StartsWith bytes near) → IfNone a.input (near ≡ []) → IsElementInFront near count
    → length near ≤ a.until_end → is_in_order o ≡ true → is_less (take count near) a.seen ≡ false
shown_compared a {near} {count} o not_failed h front none e fits is =
    let k = known_next a.input near count front none e in
    h not_failed is (take count near) (Some (drop count near ++ k.rest)) (element_next e)
    (known_consumes a.input (take count near) (drop count near ++ k.rest) k.known)
    (omega (arith, length_front count near e.fits, e.fits, fits))

-- so it may come next
pub shown_in_order : (a : State) {near : List ℕ} {count : ℕ} → a.failed ≡ None → IsCompared a InOrder
    → IfSome a.input (λ bytes. StartsWith bytes near) → IfNone a.input (near ≡ []) → IsElementInFront near count
    → length near ≤ a.until_end → (t : Tree) → der t ≡ take count near
    → is_out_of_order (in_order a InOrder).last (der t) ≡ false
shown_in_order a not_failed h front none e fits t is =
    ap (λ x. is_less x a.seen) is ∙ shown_compared a InOrder not_failed h front none e fits refl

-- what is known of a member that was read unseen
pub unseen_compared : {a c : State} {s : Shape} {t : Tree} (o : Next) → a.failed ≡ None → a.implicit_tag ≡ None
    → IsCompared a o → Reads s a c t → c.seen ≡ a.seen → is_in_order o ≡ true → is_less (der t) c.seen ≡ false
unseen_compared {a} {c} {t = t} o not_failed whole h r same is =
    let read = consumes_whole r whole in
    ap (is_less (der t)) same ∙ h not_failed is (der t) c.input (der-element t r.readable) read.input
    (omega (arith, read.until_end))

-- nothing is known, or nothing will be read
pub uncompared : (a : State) (o : Next) → is_in_order o ≡ false → IsCompared a o
uncompared a o none f is = absurd (true≢false (sym is ∙ none))

pub failed_uncompared : {a c : State} {e : Asn1DerError} (o : Next) → Fails a c e → IsCompared c o
failed_uncompared {e = e} o f not_failed =
    absurd (let q : None ≡ Some (failure_of e) = sym not_failed ∙ f.failed in cc)

pub untested_compared : (a : State) (o : Next) → o ≡ Untested → IsCompared a o
untested_compared a o is = uncompared a o (ap is_in_order is)

-- the next byte was looked at
consumes_kept : (i j left : Option (List ℕ)) (member : List ℕ) → Keeps i j → Consumes j left member
    → Consumes i left member
consumes_kept None j left member k h = tt
consumes_kept (Some x) None left member k h = absurd k
consumes_kept (Some x) (Some y) None member k h = absurd h
consumes_kept (Some x) (Some y) (Some z) member k h = sym k ∙ h

pub peeked_compared : {a c : State} {b : ℕ} (o : Next) → IsCompared a o → Peeks a c b → IsCompared c o
peeked_compared {a} {c} o h p f is member left e k fits =
    ap (is_less member) (ap (λ (s : State). s.seen) p.same)
    ∙ h (sym (ap (λ (s : State). s.failed) p.same) ∙ f) is member left e
    (consumes_kept a.input c.input left member p.input k)
    (subst (λ n. length member ≤ n) (ap (λ (s : State). s.until_end) p.same) fits)

identified_in : (d : Option ℕ) (a c : State) (tag : ℕ) (o : Next) → IsCompared a o → IdentifiesIn d a c tag
    → IsCompared c o
identified_in None a c tag o h p = peeked_compared o h p
identified_in (Some awaited) a c tag o h p = subst (λ z. IsCompared z o) (sym p.2) h

pub identified_compared : {a c : State} {tag : ℕ} (o : Next) → IsCompared a o → Identifies a c tag → IsCompared c o
identified_compared {a} {c} {tag} o h i = identified_in a.implicit_tag a c tag o h i.is

pub identifier_compared : (a c : State) (o : Next) (r : Result ℕ Asn1DerError) → IsCompared a o
    → IfOk r (Identifies a c) → IfErr r (RefusesIdentifier a c) → IsCompared c o
identifier_compared a c o (Ok tag) h i f = identified_compared o h i
identifier_compared a c o (Err e) h i f = failed_uncompared o f.refuses.fails

-- the next member of a set, which was shown whole and in order
module _ {a c d : State} {near member : List ℕ} {until_end count : ℕ} {s : Shape} {t : Tree} (o : Next)
    (front : IfSome a.input (λ bytes. StartsWith bytes near)) (none : IfNone a.input (near ≡ []))
    (sees : SeesNext near until_end count) (whole : a.implicit_tag ≡ None) (r : Reads s a c t)
    (seen : member ≡ take count (known_bytes a.input)) (is : d ≡ record c { seen = member }) where
  same_member : member ≡ der t
  same_member = seen ∙ seen_is_read front none sees whole r

  pub next_reads : o ≡ InOrder → a.failed ≡ None → IsCompared a o → length near ≤ a.until_end
      → ReadsMember s (in_order a o) (in_order d o) t
  next_reads here not_failed h fits = reads o here h
    where
      reads : (p : Next) → p ≡ InOrder → IsCompared a p → ReadsMember s (in_order a p) (in_order d p) t
      reads Untested q k = absurd (cc)
      reads InOrder q k =
          subst (λ (z : State). ReadsMember s (in_order a InOrder) (in_order z InOrder) t) (sym is)
          (member_reads InOrder InOrder member whole r
          (shown_in_order a not_failed k front none sees.element fits t (shown_is_read front none sees whole r))
          (ap (λ x. Some x) same_member))
      reads Kept q k = absurd (cc)

  pub next_still_compared : a.until_end ≡ until_end → IsCompared d o
  next_still_compared end =
      next_compared front none sees whole r d o end (is ∙ ap (λ x. record c { seen = x }) same_member)

-- no member is next after an end that was closed
pub closed_compared : {A : Type 0} (outer : EnclosingEnd) (a c : State) (o : Next) (r : Result A Asn1DerError)
    → OnOk r (Closes outer a c) → IfErr r (RefusesClose a c) → IsCompared c o
closed_compared outer a c o (Ok v) k h = first_compared c o (ap (λ (s : State). s.seen) k.same)
closed_compared outer a c o (Err e) k h = failed_uncompared o h.fails

-- ---- sets whose members are out of order, as they are refused

-- two headers at the front of the same bytes are one, and the bytes after them are the same
same_header : (d : Option ℕ) (n m until_end left : ℕ) (x y : List ℕ) → until_end ≡ length (header_bytes d 0x31 m) + left
    → IfSome d (λ number. n ≡ until_end) → IfSome d (λ number. m ≡ left)
    → header_bytes d 0x31 n ++ x ≡ header_bytes d 0x31 m ++ y → (n ≡ m) × (x ≡ y)
same_header None n m until_end left x y is a b e =
    let lengths : length_octets n ++ x ≡ length_octets m ++ y = cc in
    length_octets_prefix n m x y lengths
same_header (Some number) n m until_end left x y is a b e = (omega arith, e)

-- a header that is there isn't refused
no_header_refused : (d : Option ℕ) (n until_end : ℕ) (y : List ℕ) (hard : Bool) (r : Refusal) → d ≡ None
    → until_end < 2 ^ 64 → length (header_bytes d 0x31 n) + n ≤ until_end
    → header_refusal 0x31 hard until_end (take until_end (header_bytes d 0x31 n ++ y)) ≡ Some r → ⊥
no_header_refused None n until_end y hard r d small fits is =
    let q = until_end - length (0x31 ∷ length_octets n) in
    let whole : until_end ≡ length (0x31 ∷ length_octets n) + q = omega (arith, fits) in
    let front : take until_end ((0x31 ∷ length_octets n) ++ y) ≡ (0x31 ∷ length_octets n) ++ take q y =
    ap (λ k. take k ((0x31 ∷ length_octets n) ++ y)) whole ∙ take-append-add (0x31 ∷ length_octets n) y q in
    let read = header-read 0x31 hard until_end n q (take q y) (omega arith) (omega (arith, small, fits)) whole
    (omega (arith, whole, fits)) in
    let none : None ≡ Some r = sym (ap (header_refusal 0x31 hard until_end) front ∙ ap refusal_of read) ∙ is in
    cc
no_header_refused (Some number) n until_end y hard r d small fits is = cc

module _ {V : Type 0} {meaning : V → Tree} {s : Shape} where
  -- a member was refused
  pub set_unordered : {a b c : State} {outer : EnclosingEnd} {e : Asn1DerError} → OpensList 0x31 a b outer
      → RefusesAll meaning s b c e → RefusesUnordered meaning s a c e
  set_unordered {a} {b} {c} {outer} {e} h r j vs v out bs rest known in_set =
      let members = members_encoding (trees (map meaning (vs ++ v ∷ []))) in
      let p = front_consumed a.input h.mid.input (header_bytes a.implicit_tag 0x31 h.size) bs h.begins.consumes.input
      known in
      let q = same_header a.implicit_tag in_set.size h.size a.until_end h.mid.until_end (members ++ rest) p.0
      h.begins.consumes.until_end in_set.all h.begins.all (sym in_set.begins ∙ p.2) in
      let open_input : b.input ≡ Some p.0 = ap (λ (z : State). z.input) h.opened ∙ p.1 in
      let ahead : b.until_end ≡ h.size = ap (λ (z : State). z.until_end) h.opened in
      let are_before : AreBefore b c e members = record {
        soft = ap (λ (z : State). z.end) h.opened;
        seen = p.0;
        concerns = now open_input refl;
        rest = rest;
        begins = sym q.1;
        within = omega (arith, in_set.within, q.0, ahead);
      } in
      let judged : IsJudged b c e =
      subst (λ z. IsJudged z c e) (sym h.opened)
      (judged_alike (order_of 0x31)
      (judged_with_inner_end h.size Soft (judged_after h.begins.consumes j))) in
      let breaks : BreaksOrder meaning s (AreInOrder b.last) vs v = record {
        of_shape = out.of_shape;
        readable = out.readable;
        in_order = opened_in_order ListKind.set (trees (map meaning vs)) h out.in_order;
        broken = λ o. out.broken (whole_in_order ListKind.set (trees (map meaning (vs ++ v ∷ []))) h o);
      } in
      let t = r.lesser judged vs v breaks are_before in
      let left = front_consumed b.input t.mid.input members p.0 t.consumes.input open_input in
      let same : left.0 ≡ rest = append_cancel_left members left.0 rest (sym left.2 ∙ sym q.1) in
      record {
        error = t.error;
        input = ap (λ (z : State). z.input) t.same ∙ left.1 ∙ ap (λ x. Some x) same;
        unpeeked = ap (λ (z : State). z.peeked) t.same ∙ t.consumes.unpeeked;
      }

  -- the header was refused, so none is there
  pub set_unopened : {a c : State} {e : Asn1DerError} → RefusesList 0x31 a c e → RefusesUnordered meaning s a c e
  set_unopened {a} {c} {e} h j vs v out bs rest known in_set =
      let p = h.begin.header j in
      let k = p.1.just j bs known in
      absurd (no_header_refused a.implicit_tag in_set.size a.until_end
      (members_encoding (trees (map meaning (vs ++ v ∷ []))) ++ rest) (is_hard a.end) (e, k.left) p.0
      (h.begin.bounded j.had_not_failed) in_set.fits
      (ap (λ x. header_refusal 0x31 (is_hard a.end) a.until_end (take a.until_end x)) (sym in_set.begins) ∙ k.refused))
