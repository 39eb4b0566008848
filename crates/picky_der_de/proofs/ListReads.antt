-- Lists of values of one type, and arrays, read and refused.
use Rattle.std.proofs.Common.{◌≡◌, ℕ, List, [], ◌∷◌, ◌++◌, map, drop, None, inl, inr, refl, sym, ◌∙◌, ap, subst, arith}
use Rattle.std.proofs.Common.{append_assoc, append-nil, zero, suc, ◌+◌, ◌-◌, ◌<◌, length, length-append}
use Rattle.picky_der_core.specs.declared.error.Asn1DerError.{Asn1DerError}
use Rattle.picky_der_core.specs.declared.error.Asn1DerError.TheVariants.{OutOfMemory}
use Rattle.picky_der_core.specs.Tag.{number_of, IsTagNumber}
use Rattle.picky_der_core.specs.Tree.{ListKind, Tree, Trees, trees}
use Rattle.picky_der_core.specs.Encoding.{tree_bytes, der, encodings, list_tag}
use Rattle.picky_der_core.specs.Readable.{IsReadable, AreReadable}
use Rattle.picky_der_core.specs.Shape.{Shape, IsOf, IsFirst, EachIs, AreMembersOf}
use Rattle.picky_der_ser.specs.Sequences.{IsListTag, list_kind}
use Rattle.picky_der_de.specs.State.{State}
use Rattle.picky_der_de.specs.Steps.{Consumed, Fails, IsJudged, place_of}
use Rattle.picky_der_de.specs.Order.{AreInOrder, without_order}
use Rattle.picky_der_de.specs.RefusesBy.{Rule}
use Rattle.picky_der_de.specs.Reading.{Reads, Refuses}
use Rattle.picky_der_de.specs.Ends.{EnclosingEnd, Closes, RefusesClose, OpensList, RefusesList}
use Rattle.picky_der_de.specs.Members.{ReadsMember, RefusesMember, HasNoMore, members_encoding, AreBefore}
use Rattle.picky_der_de.specs.Members.{ConsumesMembers, BreaksOrder, RefusesConsumed, ReadsAll, RefusesAll, AreUpToEnd}
use Rattle.picky_der_de.specs.Members.{ReadsMembers, RefusesRest}
use Rattle.picky_der_de.proofs.Rests.{FirstIsUnread, nothing, unread_first, IsAhead, Follow, rest_head, rest_after}
use Rattle.picky_der_de.proofs.Rests.{rest_unopened, rest_refused}
use Rattle.picky_der_de.proofs.Steps.{consumes_none, consumes_then}
use Rattle.picky_der_de.proofs.Order.{judged_after_any_order, order_none}
use Rattle.picky_der_de.proofs.MemberReads.{members_encoding-more, members_encoding-none, consumes_member}
use Rattle.picky_der_de.proofs.MemberReads.{member_not_implicit, member_leads, next_member, same_member, order_ahead}
use Rattle.picky_der_de.proofs.MemberReads.{order_after, no_members_in_order, no_member_in_order, member_refused_less}
use Rattle.picky_der_de.proofs.MemberReads.{list_refused, list_unopened, list_reads, none_left}
use Rattle.picky_der_core.specs.Reading.{IsAtFront}
use Rattle.picky_der_ser.specs.Meaning.{list_meaning, array_meaning}
use Rattle.picky_der_de.specs.ArrayLaws.{times, array_of, array_meaning-readable}

-- ---- one member more after others

members_encoding-one : (t : Tree) → members_encoding (Trees.more t Trees.none) ≡ der t
members_encoding-one t = members_encoding-more t Trees.none ∙ ap (λ x. der t ++ x) members_encoding-none
    ∙ append-nil (der t)

pub members_encoding-push : {V : Type 0} (meaning : V → Tree) (vs : List V) (v : V)
    → members_encoding (trees (map meaning (vs ++ v ∷ []))) ≡ members_encoding (trees (map meaning vs)) ++ der
    (meaning v)
members_encoding-push meaning [] v = members_encoding-more (meaning v) Trees.none
    ∙ ap (λ x. der (meaning v) ++ x) members_encoding-none ∙ append-nil (der (meaning v))
    ∙ ap (λ x. x ++ der (meaning v)) (sym members_encoding-none)
members_encoding-push meaning (w ∷ vs) v =
    members_encoding-more (meaning w) (trees (map meaning (vs ++ v ∷ [])))
    ∙ ap (λ x. der (meaning w) ++ x) (members_encoding-push meaning vs v)
    ∙ sym (append_assoc (der (meaning w)) (members_encoding (trees (map meaning vs))) (der (meaning v)))
    ∙ ap (λ x. x ++ der (meaning v)) (sym (members_encoding-more (meaning w) (trees (map meaning vs))))

pub each-push : {V : Type 0} (meaning : V → Tree) (P : Tree → Type 0) (vs : List V) (v : V)
    → EachIs P (trees (map meaning vs)) → P (meaning v) → EachIs P (trees (map meaning (vs ++ v ∷ [])))
each-push meaning P [] v h p = (p, tt)
each-push meaning P (w ∷ vs) v h p = (h.0, each-push meaning P vs v h.1 p)

pub readable-push : {V : Type 0} (meaning : V → Tree) (vs : List V) (v : V) → AreReadable (trees (map meaning vs))
    → IsReadable (meaning v) → AreReadable (trees (map meaning (vs ++ v ∷ [])))
readable-push meaning [] v h p = (p, tt)
readable-push meaning (w ∷ vs) v h p = (h.0, readable-push meaning vs v h.1 p)

-- members that are in order after these are in order with these in front
abbrev pub LeadOn : {V : Type 0} → (V → Tree) → State → State → List V → Type 0
LeadOn meaning old new vs = (ms : List (List ℕ)) → AreInOrder new.last ms
    → AreInOrder old.last (encodings (trees (map meaning vs)) ++ ms)

pub leads-none : {V : Type 0} (meaning : V → Tree) (a : State) → LeadOn meaning a a []
unfolding tree_bytes
leads-none meaning a ms h = h

encodings-push : {V : Type 0} (meaning : V → Tree) (vs : List V) (v : V) (ms : List (List ℕ))
    → encodings (trees (map meaning (vs ++ v ∷ []))) ++ ms ≡ encodings (trees (map meaning vs)) ++ der (meaning v) ∷ ms
unfolding der tree_bytes
encodings-push meaning [] v ms = refl
encodings-push meaning (w ∷ vs) v ms = ap (λ l. der (meaning w) ∷ l) (encodings-push meaning vs v ms)

pub leads-push : {V : Type 0} (meaning : V → Tree) {s : Shape} (a : State) {b c : State} (vs : List V) (v : V)
    → LeadOn meaning a b vs → ReadsMember s b c (meaning v) → LeadOn meaning a c (vs ++ v ∷ [])
leads-push meaning a vs v h r ms o =
    subst (AreInOrder a.last) (sym (encodings-push meaning vs v ms)) (h (der (meaning v) ∷ ms) (member_leads r ms o))

pub leads-all : {V : Type 0} (meaning : V → Tree) (a b : State) (vs : List V) → LeadOn meaning a b vs
    → AreInOrder a.last (encodings (trees (map meaning vs)))
leads-all meaning a b vs h = subst (AreInOrder a.last) (append-nil (encodings (trees (map meaning vs))))
    (h [] (order_none b.last))

-- ---- refused

-- the next member was refused
pub all_refused : {V : Type 0} {meaning : V → Tree} {s : Shape} {rule : Rule} {c d : State} {e : Asn1DerError}
    → RefusesMember meaning s rule c d e → IsAhead c → RefusesAll meaning s c d e
all_refused {V} {meaning} {s} {rule} {c} {d} {e} r ahead = record { rest = rest_head unread r; lesser = lesser }
  where
    unread : (vs : List V) → EachIs (IsOf s) (trees (map meaning vs)) → AreReadable (trees (map meaning vs))
        → FirstIsUnread meaning s (IsAhead c) (trees (map meaning vs))
    unread [] p readable = nothing ahead
    unread (v ∷ vs) p readable = unread_first v p.0 readable.0

    lesser : IsJudged c d e → (vs : List V) (v : V) → BreaksOrder meaning s (AreInOrder c.last) vs v
        → AreBefore c d e (members_encoding (trees (map meaning (vs ++ v ∷ []))))
        → RefusesConsumed c d e (members_encoding (trees (map meaning (vs ++ v ∷ []))))
    lesser j [] v h w =
        subst (RefusesConsumed c d e) (sym (members_encoding-one (meaning v)))
        (member_refused_less v Trees.none r j h.of_shape.0 h.readable.0 w).consumed
    lesser j (u ∷ us) v h w =
        absurd (no_member_in_order u (trees (map meaning (us ++ v ∷ []))) (trees (map meaning us)) r j h.of_shape.0
        h.readable.0 h.in_order w)

-- a member was read, and the members after it were refused
pub all_next : {V : Type 0} {meaning : V → Tree} {s : Shape} {b c d : State} {t : Tree} {e : Asn1DerError}
    → ReadsMember s b c t → RefusesAll meaning s c d e → RefusesAll meaning s b d e
all_next {V} {meaning} {s} {b} {c} {d} {t} {e} r h =
    record { rest = rest_after (drop 1) follow r h.rest; lesser = lesser }
  where
    follow : (vs : List V) → EachIs (IsOf s) (trees (map meaning vs))
        → Follow (EachIs (IsOf s) (trees (map meaning (drop 1 vs)))) (trees (map meaning (drop 1 vs)))
        (trees (map meaning vs))
    follow [] p = tt
    follow (v ∷ vs) p = (p.1, refl)

    lesser : IsJudged b d e → (vs : List V) (v : V) → BreaksOrder meaning s (AreInOrder b.last) vs v
        → AreBefore b d e (members_encoding (trees (map meaning (vs ++ v ∷ []))))
        → RefusesConsumed b d e (members_encoding (trees (map meaning (vs ++ v ∷ []))))
    lesser j [] v k w =
        let same = (same_member (meaning v) Trees.none k.readable.0 r h.rest.fails w).0 in
        absurd (k.broken (order_ahead (meaning v) Trees.none same r (no_members_in_order c.last)))
    lesser j (u ∷ us) v k w =
        let others = trees (map meaning (us ++ v ∷ [])) in
        let same = (same_member (meaning u) others k.readable.0 r h.rest.fails w).0 in
        let rest : BreaksOrder meaning s (AreInOrder c.last) us v = record {
          of_shape = k.of_shape.1;
          readable = k.readable.1;
          in_order = order_after (meaning u) (trees (map meaning us)) same r k.in_order;
          broken = λ o. k.broken (order_ahead (meaning u) others same r o);
        } in
        let q = h.lesser (judged_after_any_order (consumes_member r) j) us v rest
        (next_member (meaning u) others k.readable.0 r h.rest.fails w) in
        let parts : members_encoding (Trees.more (meaning u) others) ≡ der t ++ members_encoding others =
        members_encoding-more (meaning u) others ∙ ap (λ x. x ++ members_encoding others) same in
        record {
          mid = q.mid;
          consumes =
              subst (Consumed (without_order b) (without_order q.mid)) (sym parts)
              (consumes_then (consumes_member r) q.consumes);
          error = q.error;
          same = q.same;
        }

-- an allocation failed
pub all_for_memory : {V : Type 0} {meaning : V → Tree} {s : Shape} {c d : State} {e : Asn1DerError} → Fails c d e
    → e ≡ OutOfMemory → RefusesAll meaning s c d e
all_for_memory f is = record {
  rest = record { fails = f; none = λ j. absurd (j.memory is) };
  lesser =
      λ j. absurd (j.memory is);
}

-- ---- members so far

pub record ReadsSome {V : Type 0} (meaning : V → Tree) (s : Shape) (old new : State) (vs : List V) : Type 0 where
  pub of_shape : EachIs (IsOf s) (trees (map meaning vs))
  pub readable : AreReadable (trees (map meaning vs))
  pub leads : LeadOn meaning old new vs
  pub consumes : ConsumesMembers old new (trees (map meaning vs))
  pub implicit_tag : new.failed ≡ None → new.implicit_tag ≡ None
  pub refuses : (d : State) (e : Asn1DerError) → RefusesAll meaning s new d e → RefusesAll meaning s old d e

-- one more member after them
members_more : {V : Type 0} (meaning : V → Tree) {s : Shape} (a : State) {b c : State} (vs : List V) (v : V)
    → ConsumesMembers a b (trees (map meaning vs)) → ReadsMember s b c (meaning v)
    → ConsumesMembers a c (trees (map meaning (vs ++ v ∷ [])))
members_more meaning {s} a {b} {c} [] v h r =
    let t : Consumed (without_order b) (without_order c) (der (meaning v)) = consumes_member r in
    subst (Consumed (without_order a) (without_order c)) (sym (members_encoding-one (meaning v)))
    (subst (λ z. Consumed (without_order z) (without_order c) (der (meaning v))) h t)
members_more meaning {s} a {b} {c} (w ∷ ws) v h r =
    subst (Consumed (without_order a) (without_order c)) (sym (members_encoding-push meaning (w ∷ ws) v))
    (consumes_then h (consumes_member r))

-- from a state in which no byte was looked at
members_consumes : (a b : State) (ts : Trees) → a.failed ≡ None → a.peeked ≡ None → ConsumesMembers a b ts
    → Consumed (without_order a) (without_order b) (members_encoding ts)
members_consumes a b Trees.none f p h =
    subst (λ z. Consumed (without_order a) (without_order z) (members_encoding Trees.none)) (sym h)
    (subst (Consumed (without_order a) (without_order a)) (sym members_encoding-none)
    (consumes_none (without_order a) f p))
members_consumes a b (Trees.more t ts) f p h = h

pub some_none : {V : Type 0} (meaning : V → Tree) (s : Shape) (a : State) → (a.failed ≡ None → a.implicit_tag ≡ None)
    → ReadsSome meaning s a a []
some_none meaning s a d = record {
  of_shape = tt;
  readable = tt;
  leads = leads-none meaning a;
  consumes = refl;
  implicit_tag = d;
  refuses = λ d e r. r;
}

pub some_more : {V : Type 0} (meaning : V → Tree) (s : Shape) {a b c : State} (vs : List V) (v : V)
    → ReadsSome meaning s a b vs → ReadsMember s b c (meaning v) → ReadsSome meaning s a c (vs ++ v ∷ [])
some_more meaning s {a} {b} {c} vs v h r = record {
  of_shape = each-push meaning (IsOf s) vs v h.of_shape r.reads.of_shape;
  readable = readable-push meaning vs v h.readable r.reads.readable;
  leads = leads-push meaning a vs v h.leads r;
  consumes = members_more meaning a vs v h.consumes r;
  implicit_tag = λ n. member_not_implicit r;
  refuses = λ d e w. h.refuses d e (all_next r w);
}

pub some_all : {V : Type 0} {meaning : V → Tree} {s : Shape} {a b c : State} {vs : List V} → ReadsSome meaning s a b vs
    → HasNoMore b c → ReadsAll meaning s a c vs
some_all {meaning = meaning} {a = a} {b = b} {vs = vs} h n = record {
  order = leads-all meaning a b vs h.leads;
  of_shape = h.of_shape;
  readable = h.readable;
  consumes = subst (λ z. ConsumesMembers a z (trees (map meaning vs))) (sym n.same) h.consumes;
  not_failed = ap (λ (z : State). z.failed) n.same ∙ n.had_not_failed;
  implicit_tag = ap (λ (z : State). z.implicit_tag) n.same ∙ h.implicit_tag n.had_not_failed;
  reached = ap (λ (z : State). z.until_end) n.same ∙ n.reached;
}

-- ---- whole lists

list_first : (kind : ListKind) (s : Shape) → IsFirst (Shape.list_of kind s) (list_tag kind)
list_first ListKind.sequence s = refl
list_first ListKind.set s = refl

pub list_tagged : {tag : ℕ} → IsListTag tag → list_tag (list_kind tag) ≡ tag
list_tagged (inl is) = rw is refl
list_tagged (inr is) = rw is refl

pub list_numbered : {tag : ℕ} → IsListTag tag → IsTagNumber (number_of tag)
list_numbered (inl is) = rw is (omega arith)
list_numbered (inr is) = rw is (omega arith)

module _ {V W : Type 0} (meaning : W → Tree) (s : Shape) {tag : ℕ} (is : IsListTag tag) (items : V → List W) {a : State}
  where
    -- there is no header
    pub list_of_unopened : {c : State} {e : Asn1DerError} → RefusesList tag a c e
        → Refuses (λ v. Tree.list (list_kind tag) (trees (map meaning (items v)))) (Shape.list_of (list_kind tag) s) a c
        e
    list_of_unopened {c} {e} h =
        list_unopened (list_kind tag) (λ v. trees (map meaning (items v))) (Shape.list_of (list_kind tag) s)
        (list_first (list_kind tag) s) (subst (λ t. RefusesList t a c e) (sym (list_tagged is)) h)

    -- a member was refused
    pub list_of_refused : {b c : State} {outer : EnclosingEnd} {e : Asn1DerError} → OpensList tag a b outer
        → RefusesAll meaning s b c e → Refuses (λ v. Tree.list (list_kind tag) (trees (map meaning (items v))))
        (Shape.list_of (list_kind tag) s) a c e
    list_of_refused {b} {outer = outer} h r =
        list_refused (list_kind tag) (λ v. trees (map meaning (items v))) (Shape.list_of (list_kind tag) s)
        (list_first (list_kind tag) s) (subst (λ t. OpensList t a b outer) (sym (list_tagged is)) h) r.rest.fails
        (λ j v of_shape readable order w. r.rest.none j (items v) of_shape.1 readable order w)

-- nothing is left after the last member
pub all_closed : {V : Type 0} {meaning : V → Tree} {s : Shape} {b c d : State} {vs : List V} {e : Asn1DerError}
    → ReadsAll meaning s b c vs → RefusesClose c d e → ⊥
all_closed r k = omega (arith, r.reached, (k.left r.not_failed).0)

-- all were read
pub list_of_reads : {V : Type 0} (meaning : V → Tree) (s : Shape) {tag : ℕ} → IsListTag tag
    → {a b c d : State} {outer closed : EnclosingEnd} (vs : List V) → OpensList tag a b outer
    → ReadsAll meaning s b c vs → Closes closed c d → closed ≡ outer
    → Reads (Shape.list_of (list_kind tag) s) a d (Tree.list (list_kind tag) (trees (map meaning vs)))
list_of_reads meaning s is {a} {b} {c} {outer = outer} vs h r k same =
    let consumes = members_consumes b c (trees (map meaning vs)) (ap (λ (z : State). z.failed) h.opened
    ∙ h.begins.consumes.not_failed) (ap (λ (z : State). z.peeked) h.opened ∙ h.begins.consumes.unpeeked)
    r.consumes in
    list_reads (trees (map meaning vs)) (subst (λ t. OpensList t a b outer) (sym (list_tagged is)) h) r.order consumes
    r.implicit_tag k same (refl, r.of_shape) r.readable

-- ---- arrays, read and refused: as many members of one shape as there are slots

-- ---- refused

-- so many values of a list, as members
abbrev pub RefusesTimes : {V : Type 0} → (V → Tree) → ℕ → Shape → State → State → Asn1DerError → Type 0
RefusesTimes meaning n s =
    RefusesRest (λ vs. AreMembersOf (times n s) (trees (map meaning vs))) (λ vs. trees (map meaning vs))

-- something is left
pub times_left : {V : Type 0} (meaning : V → Tree) (s : Shape) {c d : State} {e : Asn1DerError} → Fails c d e
    → 0 < c.until_end → RefusesTimes meaning zero s c d e
times_left {V} meaning s {c} {d} {e} f left = record { fails = f; none = none }
  where
    none : IsJudged c d e → (vs : List V) → AreMembersOf (times zero s) (trees (map meaning vs))
        → AreReadable (trees (map meaning vs)) → AreInOrder c.last (encodings (trees (map meaning vs)))
        → AreUpToEnd c d e (members_encoding (trees (map meaning vs))) → ⊥
    none j [] of_shape readable order w = none_left left w
    none j (v ∷ vs) of_shape readable order w = of_shape

-- the next member was refused
pub times_refused : {V : Type 0} {meaning : V → Tree} {s : Shape} {rule : Rule} {c d : State} {e : Asn1DerError} (n : ℕ)
    → RefusesMember meaning s rule c d e → RefusesTimes meaning (suc n) s c d e
times_refused {V} {meaning} {s} {rule} {c} n = rest_head unread
  where
    unread : (vs : List V) → AreMembersOf (times (suc n) s) (trees (map meaning vs))
        → AreReadable (trees (map meaning vs)) → FirstIsUnread meaning s (IsAhead c) (trees (map meaning vs))
    unread [] p readable = absurd p
    unread (v ∷ vs) p readable = unread_first v p.0 readable.0

-- a member was read, and the members after it were refused
pub times_next : {V : Type 0} {meaning : V → Tree} {s : Shape} {b c d : State} {t : Tree} {e : Asn1DerError} (n : ℕ)
    → ReadsMember s b c t → RefusesTimes meaning n s c d e → RefusesTimes meaning (suc n) s b d e
times_next {V} {meaning} {s} n = rest_after (drop 1) follow
  where
    follow : (vs : List V) → AreMembersOf (times (suc n) s) (trees (map meaning vs))
        → Follow (AreMembersOf (times n s) (trees (map meaning (drop 1 vs)))) (trees (map meaning (drop 1 vs)))
        (trees (map meaning vs))
    follow [] p = absurd p
    follow (v ∷ vs) p = (p.1, refl)

-- ---- members so far

pub record ReadsFirst {V : Type 0} (meaning : V → Tree) (s : Shape) (old new : State) (vs : List V) : Type 0 where
  pub of_shape : EachIs (IsOf s) (trees (map meaning vs))
  pub readable : AreReadable (trees (map meaning vs))
  pub leads : LeadOn meaning old new vs
  pub consumes : Consumed (without_order old) (without_order new) (members_encoding (trees (map meaning vs)))
  pub implicit_tag : new.implicit_tag ≡ None
  pub refuses : (n : ℕ) (d : State) (e : Asn1DerError) → RefusesTimes meaning n s new d e
      → RefusesTimes meaning (length vs + n) s old d e

pub first_none : {V : Type 0} (meaning : V → Tree) (s : Shape) (a : State) → a.failed ≡ None → a.peeked ≡ None
    → a.implicit_tag ≡ None → ReadsFirst meaning s a a []
first_none meaning s a h p d = record {
  of_shape = tt;
  readable = tt;
  leads = leads-none meaning a;
  consumes = subst (Consumed (without_order a) (without_order a)) (sym members_encoding-none)
      (consumes_none (without_order a) h p);
  implicit_tag = d;
  refuses = λ n d e r. subst (λ m. RefusesTimes meaning m s a d e) (omega arith) r;
}

pub first_more : {V : Type 0} (meaning : V → Tree) (s : Shape) {a b c : State} (vs : List V) (v : V)
    → ReadsFirst meaning s a b vs → ReadsMember s b c (meaning v) → ReadsFirst meaning s a c (vs ++ v ∷ [])
first_more meaning s {a} {b} {c} vs v h r = record {
  of_shape = each-push meaning (IsOf s) vs v h.of_shape r.reads.of_shape;
  readable = readable-push meaning vs v h.readable r.reads.readable;
  leads = leads-push meaning a vs v h.leads r;
  consumes = subst (Consumed (without_order a) (without_order c)) (sym (members_encoding-push meaning vs v))
      (consumes_then h.consumes (consumes_member r));
  implicit_tag = member_not_implicit r;
  refuses = λ n d e w. subst (λ m. RefusesTimes meaning m s a d e) (omega (arith, length-append vs (v ∷ [])))
      (h.refuses (suc n) d e (times_next n r w));
}

each_times : {V : Type 0} (meaning : V → Tree) (s : Shape) (vs : List V) → EachIs (IsOf s) (trees (map meaning vs))
    → AreMembersOf (times (length vs) s) (trees (map meaning vs))
each_times meaning s [] h = tt
each_times meaning s (v ∷ vs) h = (h.0, each_times meaning s vs h.1)

pub first_all : {V : Type 0} (meaning : V → Tree) (s : Shape) {a b : State} (n : ℕ) (vs : List V) → length vs ≡ n
    → ReadsFirst meaning s a b vs → ReadsMembers (times n s) a b (trees (map meaning vs))
first_all meaning s {a} {b} n vs same h = record {
  of_shape = subst (λ m. AreMembersOf (times m s) (trees (map meaning vs))) same (each_times meaning s vs h.of_shape);
  readable = h.readable;
  order = leads-all meaning a b vs h.leads;
  consumes = h.consumes;
  implicit_tag = h.implicit_tag;
}

-- the next member was refused
pub first_refused : {V : Type 0} {meaning : V → Tree} {s : Shape} {rule : Rule} {a b d : State} {e : Asn1DerError}
    (n : ℕ)
    (vs : List V) → ReadsFirst meaning s a b vs → length vs < n → RefusesMember meaning s rule b d e
    → RefusesTimes meaning n s a d e
first_refused {V} {meaning} {s} {rule} {a} {b} {d} {e} n vs h l r =
    subst (λ m. RefusesTimes meaning m s a d e) (omega arith)
    (h.refuses (suc (n - suc (length vs))) d e (times_refused (n - suc (length vs)) r))

-- all were read, and something is left after them
pub first_left : {V : Type 0} {meaning : V → Tree} {s : Shape} {a b d : State} {e : Asn1DerError} (n : ℕ) (vs : List V)
    → length vs ≡ n → ReadsFirst meaning s a b vs → Fails b d e → 0 < b.until_end → RefusesTimes meaning n s a d e
first_left {V} {meaning} {s} {a} {b} {d} {e} n vs same h f left =
    subst (λ m. RefusesTimes meaning m s a d e) (omega arith) (h.refuses zero d e (times_left meaning s f left))

array_first : (n : ℕ) (s : Shape) → IsFirst (array_of n s) (list_tag ListKind.sequence)
array_first n s = refl

module _ {V : Type 0} (meaning : V → Tree) (n : ℕ) (s : Shape) {a : State} where
  pub array_unopened : {c : State} {e : Asn1DerError} → RefusesList 0x30 a c e
      → Refuses (λ vs. Tree.list ListKind.sequence (trees (map meaning vs))) (array_of n s) a c e
  array_unopened h = rest_unopened {kind = ListKind.sequence} (array_first n s) h

  pub array_refused : {b c : State} {outer : EnclosingEnd} {e : Asn1DerError} → OpensList 0x30 a b outer
      → RefusesTimes meaning n s b c e
      → Refuses (λ vs. Tree.list ListKind.sequence (trees (map meaning vs))) (array_of n s) a c e
  array_refused o r = rest_refused {kind = ListKind.sequence} (array_first n s) (λ v of_shape. of_shape.1) o r

  -- by what arrays mean
  pub array_refuses : {b : State} {e : Asn1DerError} (slots : ℕ) → slots ≡ n
      → Refuses (list_meaning ListKind.sequence meaning) (array_of slots s) a b e
      → Refuses (array_meaning n meaning) (array_of n s) a b e
  array_refuses {b} {e} slots same r =
      let h = subst (λ m. Refuses (list_meaning ListKind.sequence meaning) (array_of m s) a b e) same r in
      record {
        fails = h.fails;
        none = λ j end bs k vs st. h.none j end bs k vs
            (subst (IsAtFront (place_of a) (array_of n s) bs end) (array_meaning-readable meaning n vs st.readable) st);
        first = h.first;
      }
