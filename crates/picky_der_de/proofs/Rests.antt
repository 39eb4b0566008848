-- Members from one on up to the end of their list, read and refused. They are members of lists, arrays and layouts, and
-- of types whose values don't all have as many. Each call gives one record, for one lemma.
use Rattle.std.specs.Prelude.{⊤}
use Rattle.std.proofs.Common.{◌≡◌, ◌<◌, ◌∷◌, ◌++◌, None, refl, sym, ◌∙◌, ap, subst, arith}
use Rattle.picky_der_core.specs.declared.error.Asn1DerError.{Asn1DerError}
use Rattle.picky_der_core.specs.Tree.{ListKind, Tree, Trees}
use Rattle.picky_der_core.specs.Encoding.{tree_bytes, der, encodings, list_tag}
use Rattle.picky_der_core.specs.Readable.{IsReadable, AreReadable}
use Rattle.picky_der_core.specs.Shape.{Shape, Layout, IsOf, IsFirst}
use Rattle.picky_der_core.specs.Reading.{written_at, MayBeAt}
use Rattle.picky_der_de.specs.State.{State}
use Rattle.picky_der_de.specs.Steps.{Consumed, IsJudged, place_in}
use Rattle.picky_der_de.specs.Order.{AreInOrder, Follows, without_order}
use Rattle.picky_der_de.specs.RefusesBy.{Rule}
use Rattle.picky_der_de.specs.Reading.{Reads, Refuses}
use Rattle.picky_der_de.specs.Ends.{EnclosingEnd, Closes, RefusesClose, OpensList, RefusesList}
use Rattle.picky_der_de.specs.Members.{ReadsMember, RefusesMember, HasNoMore, members_encoding, AreUpToEnd, RefusesRest}
use Rattle.picky_der_de.specs.Members.{ReadsMembers}
use Rattle.picky_der_de.proofs.Steps.{consumes_none, consumes_then}
use Rattle.picky_der_de.proofs.Order.{fails_after_any_order, judged_after_any_order}
use Rattle.picky_der_de.proofs.MemberReads.{members_encoding-more, members_encoding-none, no_members_in_order}
use Rattle.picky_der_de.proofs.MemberReads.{consumes_member, members_lead, member_not_implicit, member_ahead}
use Rattle.picky_der_de.proofs.MemberReads.{next_order, next_up_to_end, no_member, none_left, list_refused}
use Rattle.picky_der_de.proofs.MemberReads.{list_unopened, list_reads}

-- the members after the first one
abbrev pub after_first : Trees → Trees
after_first Trees.none = Trees.none
after_first (Trees.more t ts) = ts

-- ---- refused

-- Why these members aren't where the next one was refused: there are none, and something is left; or the first is
-- written as a value of the type that was refused.
pub data FirstIsUnread {W : Type 0} (meaning : W → Tree) (s : Shape) (Ahead : Type 0) : Trees → Type 0 where
  nothing : Ahead → FirstIsUnread meaning s Ahead Trees.none
  first : (w : W) (t : Tree) (ts : Trees) → IsOf s (meaning w) → IsReadable (meaning w) → der t ≡ der (meaning w)
      → FirstIsUnread meaning s Ahead (Trees.more t ts)

pub unread_first : {W : Type 0} {meaning : W → Tree} {s : Shape} {Ahead : Type 0} (w : W) {ts : Trees}
    → IsOf s (meaning w) → IsReadable (meaning w) → FirstIsUnread meaning s Ahead (Trees.more (meaning w) ts)
unread_first {meaning = meaning} w {ts} of_shape readable = first w (meaning w) ts of_shape readable refl

-- something is left, unless the deserializer had failed
abbrev pub IsAhead : State → Type 0
IsAhead c = c.failed ≡ None → 0 < c.until_end

module _ {V : Type 0} {members : V → Trees} {kind : ListKind} {s : Shape} {a : State}
    (starts : IsFirst s (list_tag kind)) where
  -- there is no header
  pub rest_unopened : {c : State} {e : Asn1DerError} → RefusesList (list_tag kind) a c e
      → Refuses (λ v. Tree.list kind (members v)) s a c e
  rest_unopened h = list_unopened kind members s starts h

  -- the members were refused
  pub rest_refused : {P : V → Type 0} {b c : State} {outer : EnclosingEnd} {e : Asn1DerError}
      → ((v : V) → IsOf s (Tree.list kind (members v)) → P v) → OpensList (list_tag kind) a b outer
      → RefusesRest P members b c e
      → Refuses (λ v. Tree.list kind (members v)) s a c e
  rest_refused holds o r =
      list_refused kind members s starts o r.fails (λ j v of_shape readable order w. r.none j v (holds v of_shape)
      readable order w)

-- the first member written as another is
encodings-as : (t u : Tree) (ts : Trees) → der t ≡ der u → encodings (Trees.more t ts) ≡ encodings (Trees.more u ts)
unfolding der tree_bytes
encodings-as t u ts same = ap (λ m. m ∷ encodings ts) same

first_refused : {W : Type 0} {meaning : W → Tree} {s : Shape} {rule : Rule} {c d : State} {e : Asn1DerError}
    (ts : Trees)
    → RefusesMember meaning s rule c d e → IsJudged c d e → FirstIsUnread meaning s (IsAhead c) ts
    → AreInOrder c.last (encodings ts) → AreUpToEnd c d e (members_encoding ts) → ⊥
first_refused ts r j (nothing ahead) order w = none_left (ahead j.had_not_failed) w
first_refused {meaning = meaning} {c = c} {d = d} {e = e} ts r j (first v t us of_shape readable same) order w =
    let as_value = members_encoding-more t us ∙ ap (λ x. x ++ members_encoding us) same
    ∙ sym (members_encoding-more (meaning v) us) in
    no_member v us r j of_shape readable (subst (AreInOrder c.last) (encodings-as t (meaning v) us same) order)
    (subst (AreUpToEnd c d e) as_value w).are_before

-- these members follow a first one, and so it holds of them, unless there are none
abbrev pub Follow : Type 0 → Trees → Trees → Type 0
Follow Holds others Trees.none = ⊤
Follow Holds others (Trees.more t ts) = Holds × (ts ≡ others)

follow_first : (Holds : Type 0) (ts : Trees) → Holds → Follow Holds (after_first ts) ts
follow_first Holds Trees.none h = tt
follow_first Holds (Trees.more t ts) h = (h, refl)

module _ {V : Type 0} {P : V → Type 0} {members : V → Trees} where
  -- the next member was refused
  pub rest_head : {W : Type 0} {meaning : W → Tree} {s : Shape} {rule : Rule} {c d : State} {e : Asn1DerError}
      → ((v : V) → P v → AreReadable (members v) → FirstIsUnread meaning s (IsAhead c) (members v))
      → RefusesMember meaning s rule c d e → RefusesRest P members c d e
  rest_head unread r =
      record {
        fails = r.fails;
        none = λ j v p readable order w. first_refused (members v) r j (unread v p readable)
            order w;
      }

  -- a member was read, and the members after it were refused
  pub rest_after : {U : Type 0} {Q : U → Type 0} {others : U → Trees} (part : V → U) {s : Shape} {b c d : State}
      {t : Tree} {e : Asn1DerError} → ((v : V) → P v → Follow (Q (part v)) (others (part v)) (members v))
      → ReadsMember s b c t → RefusesRest Q others c d e → RefusesRest P members b d e
  rest_after {U} {Q} {others} part {s} {b} {c} {d} {t} {e} follow r h = record {
    fails = fails_after_any_order (consumes_member r) h.fails;
    none = λ j v p. none j (part v) (members v) (follow v p);
  } where
    none : IsJudged b d e → (u : U) (ts : Trees) → Follow (Q u) (others u) ts → AreReadable ts
        → AreInOrder b.last (encodings ts) → AreUpToEnd b d e (members_encoding ts) → ⊥
    none j u Trees.none f readable order w = none_left (member_ahead r) w
    none j u (Trees.more x xs) f readable order w =
        h.none (judged_after_any_order (consumes_member r) j) u f.0 (subst AreReadable f.1 readable.1)
        (subst (λ ts. AreInOrder c.last (encodings ts)) f.1 (next_order x xs readable.0 r h.fails w.are_before order))
        (subst (λ ts. AreUpToEnd c d e (members_encoding ts)) f.1 (next_up_to_end x xs readable.0 r h.fails w))

  pub rest_next : {s : Shape} {b c d : State} {t : Tree} {e : Asn1DerError} → ReadsMember s b c t
      → RefusesRest P (λ v. after_first (members v)) c d e → RefusesRest P members b d e
  rest_next r h = rest_after (λ v. v) (λ v p. follow_first (P v) (members v) p) r h

  -- a member was read which is the last one of all values, and something is left after it
  pub rest_left : {s : Shape} {b c d : State} {t : Tree} {e : Asn1DerError}
      → ((v : V) → after_first (members v) ≡ Trees.none) → ReadsMember s b c t → RefusesClose c d e
      → RefusesRest P members b d e
  rest_left {c = c} {d = d} {e = e} last r k = rest_next r (record {
    fails = k.fails;
    none = λ j v p readable order w. none_left (k.left (consumes_member r).not_failed).0
        (subst (λ ts. AreUpToEnd c d e (members_encoding ts)) (last v) w);
  })

-- nothing is left where there is no more member
pub rest_closed : {b c d : State} {e : Asn1DerError} → HasNoMore b c → RefusesClose c d e → ⊥
rest_closed n k = omega (
  arith,
  n.reached,
  (k.left (ap (λ (z : State). z.failed) n.same ∙ n.had_not_failed)).0,
  ap (λ (z : State). z.until_end) n.same,
)

-- ---- read

-- a member was read as another value that is written so
pub member_as : {s as_shape : Shape} {b c : State} {t : Tree} (u : Tree) → IsOf as_shape u → IsReadable u
    → der t ≡ der u → ReadsMember s b c t → ReadsMember as_shape b c u
member_as {b = b} {c = c} {t = t} u of_shape readable same r = record {
  mid = r.mid;
  reads = record {
    of_shape = of_shape;
    readable = readable;
    may_be_there = subst (λ d. MayBeAt (place_in d b.until_end) u) (sym r.implicit_tag) tt;
    consumes = subst (λ d. Consumed b r.mid (written_at (place_in d b.until_end) u)) (sym r.implicit_tag)
        (subst (Consumed b r.mid) same (subst (λ d. Consumed b r.mid (written_at (place_in d b.until_end) t))
        r.implicit_tag r.reads.consumes));
    implicit_tag = r.reads.implicit_tag;
  };
  implicit_tag = r.implicit_tag;
  follows = subst (λ m. Follows m r.mid c) same r.follows;
}

-- no member was read
pub members_none : {c : State} → c.failed ≡ None → c.peeked ≡ None → c.implicit_tag ≡ None
    → ReadsMembers Layout.empty c c Trees.none
members_none {c = c} f p d = record {
  of_shape = tt;
  readable = tt;
  order = no_members_in_order c.last;
  consumes = subst (Consumed (without_order c) (without_order c)) (sym members_encoding-none)
      (consumes_none (without_order c) f p);
  implicit_tag = d;
}

-- a member was read, and the members after it
pub members_read : {s : Shape} {l : Layout} {b c d : State} {t : Tree} {ts : Trees} → ReadsMember s b c t
    → ReadsMembers l c d ts → ReadsMembers (Layout.required s l) b d (Trees.more t ts)
members_read {b = b} {d = d} {t = t} {ts = ts} r h = record {
  of_shape = (r.reads.of_shape, h.of_shape);
  readable = (r.reads.readable, h.readable);
  order = members_lead ts r h.order;
  consumes = subst (Consumed (without_order b) (without_order d)) (sym (members_encoding-more t ts))
      (consumes_then (consumes_member r) h.consumes);
  implicit_tag = h.implicit_tag;
}

-- the members were read, and the sequence was closed
pub reads_members : {l : Layout} {kind : ListKind} {a b c d : State} {outer closed : EnclosingEnd} {ts : Trees}
    → OpensList (list_tag kind) a b outer → ReadsMembers l b c ts → Closes closed c d → closed ≡ outer
    → Reads (Shape.fields kind l) a d (Tree.list kind ts)
reads_members {ts = ts} h r k same = list_reads ts h r.order r.consumes r.implicit_tag k same (refl, r.of_shape)
    r.readable

-- a member was read, and it may be the last one
pub members_last : {s : Shape} {b c : State} {t : Tree} → ReadsMember s b c t
    → ReadsMembers (Layout.required s Layout.empty) b c (Trees.more t Trees.none)
members_last r =
    members_read r (members_none (consumes_member r).not_failed (consumes_member r).unpeeked (member_not_implicit r))

-- a member was read, and there was no more
pub members_ended : {s : Shape} {b c d : State} {t : Tree} → ReadsMember s b c t → HasNoMore c d
    → ReadsMembers (Layout.required s Layout.empty) b d (Trees.more t Trees.none)
members_ended {s = s} {b = b} {t = t} r n =
    subst (λ z. ReadsMembers (Layout.required s Layout.empty) b z (Trees.more t Trees.none)) (sym n.same)
    (members_last r)

-- what was read is of another shape too
pub reads_as : {s as_shape : Shape} {a b : State} {t : Tree} → IsOf as_shape t → Reads s a b t → Reads as_shape a b t
reads_as of_shape h = record {
  of_shape = of_shape;
  readable = h.readable;
  may_be_there = h.may_be_there;
  consumes =
      h.consumes;
  implicit_tag = h.implicit_tag;
}
