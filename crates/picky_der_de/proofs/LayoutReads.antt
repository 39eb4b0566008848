-- Members of which some may be missing, read and refused. Each call gives one record, for one lemma.
use Rattle.std.proofs.Common.{◌≡◌, ℕ, ◌<◌, inl, inr, Bool, true, false, List, [], ◌∷◌, ◌++◌, length, Option, Some, None}
use Rattle.std.proofs.Common.{IfSome, IfNone, ◌⊎◌, refl, sym, ◌∙◌, ap, subst, arith, length-append}
use Rattle.std.specs.Io.KnownBytes.{Keeps}
use Rattle.std.specs.Prelude.{IsTrue}
use Rattle.picky_der_core.specs.declared.error.Asn1DerError.{Asn1DerError}
use Rattle.picky_der_core.specs.Tree.{ListKind, Tree, Trees}
use Rattle.picky_der_core.specs.Encoding.{der, encodings, list_tag}
use Rattle.picky_der_core.specs.EncodingLaws.{length-der}
use Rattle.picky_der_core.specs.Readable.{IsReadable, AreReadable}
use Rattle.picky_der_core.specs.Shape.{Shape, Layout, IsOf, IsSound, AreMembersOf, AreMembersDistinct, IsFirst, firsts}
use Rattle.picky_der_core.specs.Shape.{next_firsts, contains, are_disjoint}
use Rattle.picky_der_core.specs.FirstLaws.{begins_in, begins_next, disjoint_contains}
use Rattle.picky_der_core.proofs.Unique.{same_tree}
use Rattle.picky_der_de.specs.State.{State}
use Rattle.picky_der_de.specs.Steps.{Consumed, Fails, IsJudged}
use Rattle.picky_der_de.specs.Order.{AreInOrder, without_order}
use Rattle.picky_der_de.specs.RefusesBy.{Rule}
use Rattle.picky_der_de.specs.Reading.{Concerns, Reads, Refuses}
use Rattle.picky_der_de.specs.Ends.{EnclosingEnd, Closes, RefusesClose, OpensList, RefusesList}
use Rattle.picky_der_de.specs.LookAhead.{Peeks, IdentifiesIn, Identifies, RefusesIdentifier}
use Rattle.picky_der_ser.specs.Meaning.{maybe_more}
use Rattle.picky_der_ser.specs.Defaults.{IsByTree}
use Rattle.picky_der_de.specs.Firsts.{IsBegunBy}
use Rattle.picky_der_de.specs.Members.{ReadsMember, RefusesMember, members_encoding, AreUpToEnd}
use Rattle.picky_der_de.specs.Layouts.{Presence, always, perhaps, layout_with, RefusesLayoutMember, Lacks, no_more}
use Rattle.picky_der_de.specs.Layouts.{begins_otherwise, RefusesOptional, no_tag, no_member, RefusesDefault}
use Rattle.picky_der_de.specs.Layouts.{as_optional, written_out, PeeksAtMost, same, looked, Passes, ReadsLayout}
use Rattle.picky_der_de.specs.Layouts.{RefusesLayout, AreBegunBy}
use Rattle.picky_der_de.specs.LayoutLaws.{IsThere, IsLayoutMember, IsLeftOut, AreLayoutMembers, first_is_present}
use Rattle.picky_der_de.specs.LayoutLaws.{first_is_absent}
use Rattle.picky_der_de.proofs.Steps.{consumes_none, consumes_then}
use Rattle.picky_der_de.proofs.Order.{fails_after_any_order, judged_after_any_order}
use Rattle.picky_der_de.proofs.Refusals.{missing_here}
use Rattle.picky_der_de.proofs.Rests.{FirstIsUnread, IsAhead, Follow, unread_first, rest_head, rest_after}
use Rattle.picky_der_de.proofs.Peeked.{peeks_consumes, peeks_fails, peeks_judged, peeks_concerns, peeks_front}
use Rattle.picky_der_de.proofs.MemberReads.{members_encoding-more, members_encoding-none, no_members_in_order}
use Rattle.picky_der_de.proofs.MemberReads.{consumes_member, member_ahead, members_lead, next_order, next_up_to_end}
use Rattle.picky_der_de.proofs.MemberReads.{none_left, list_refused, list_unopened, list_reads}
use Rattle.picky_der_de.proofs.MemberReads.{no_member as no_value_there, same_member}

-- ---- looks

-- a look after a look
look_again : {a b c : State} {x y : ℕ} → Peeks a b x → Peeks b c y → Peeks a c x
look_again {a} {b} {c} {x} {y} p q =
    let kept : b.peeked ≡ Some x = ap (λ (s : State). s.peeked) p.same in
    let one : y ≡ x = subst (λ o. IfSome o (λ z. y ≡ z)) kept q.again in
    let now : c ≡ record b { input = c.input; peeked = Some x } =
    q.same ∙ ap (λ z. record b { input = c.input; peeked = Some z }) one in
    record {
      had_not_failed = p.had_not_failed;
      implicit_tag = p.implicit_tag;
      ahead = p.ahead;
      byte = p.byte;
      next = p.next;
      again = p.again;
      input = keeps a.input b.input c.input p.input q.input;
      same = now ∙ ap (λ (z : State). record z { input = c.input; peeked = Some x }) p.same;
    }
  where
    keeps : (i j k : Option (List ℕ)) → Keeps i j → Keeps j k → Keeps i k
    keeps None j k h g = tt
    keeps (Some xs) None k h g = absurd h
    keeps (Some xs) (Some ys) None h g = absurd g
    keeps (Some xs) (Some ys) (Some zs) h g = g ∙ h

peeks_without_order : {a b : State} {x : ℕ} → Peeks a b x → Peeks (without_order a) (without_order b) x
peeks_without_order p = record {
  had_not_failed = p.had_not_failed;
  implicit_tag = p.implicit_tag;
  ahead =
      p.ahead;
  byte = p.byte;
  next = p.next;
  again = p.again;
  input = p.input;
  same = ap without_order p.same;
}

pub as_look : {b c : State} {tag : ℕ} → b.implicit_tag ≡ None → Identifies b c tag → Peeks b c tag
as_look {b} {c} {tag} d h = subst (λ o. IdentifiesIn o b c tag) d h.is

pub peeks_at_most_here : {a : State} → a.failed ≡ None → a.peeked ≡ None → PeeksAtMost a a
peeks_at_most_here f p = same refl f p

peeks_at_most_look : {a b c : State} {x : ℕ} → PeeksAtMost a b → Peeks b c x → PeeksAtMost a c
peeks_at_most_look {c = c} {x = x} (same e f g) p = looked x g (subst (λ z. Peeks z c x) e p)
peeks_at_most_look (looked y g q) p = looked y g (look_again q p)

pub peeks_at_most_consumes : {a b : State} (c : State) {bytes : List ℕ} → PeeksAtMost a b
    → Consumed (without_order b) (without_order c) bytes → Consumed (without_order a) (without_order c) bytes
peeks_at_most_consumes c {bytes = bytes} (same e f g) t =
    subst (λ z. Consumed (without_order z) (without_order c) bytes) e t
peeks_at_most_consumes c (looked x g p) t = peeks_consumes (peeks_without_order p) t

peeks_at_most_not_failed : {a b : State} → PeeksAtMost a b → b.failed ≡ None
peeks_at_most_not_failed (same e f g) = ap (λ (s : State). s.failed) e ∙ f
peeks_at_most_not_failed (looked x g p) = ap (λ (s : State). s.failed) p.same ∙ p.had_not_failed

-- the end was reached, so no byte was peeked
no_peek_at_end : {a b : State} → PeeksAtMost a b → b.until_end ≡ 0 → b ≡ a
no_peek_at_end (same e f g) z = e
no_peek_at_end (looked x g p) z =
    absurd (let q : _ = ap (λ (s : State). s.until_end) p.same in omega (arith, q, z, p.ahead))

-- ---- bytes after a look

module _ {b c : State} {x : ℕ} (p : Peeks b c x) where
  pub at_front_looked : {d : State} {e : Asn1DerError} {bytes : List ℕ} → AreUpToEnd b d e bytes
      → AreUpToEnd c d e bytes
  at_front_looked {d} {e} {bytes} w =
      let until_end : b.until_end ≡ c.until_end = sym (ap (λ (s : State). s.until_end) p.same) in
      record {
        are_before = record {
          soft = ap (λ (s : State). s.end) p.same ∙ w.are_before.soft;
          seen = w.are_before.seen;
          concerns = subst (λ n. Concerns c d e n w.are_before.seen) until_end (peeks_concerns p w.are_before.concerns);
          rest = w.are_before.rest;
          begins = w.are_before.begins;
          within = omega (arith, w.are_before.within, until_end);
        };
        fills = w.fills ∙ until_end;
      }

  order_looked : (ms : List (List ℕ)) → AreInOrder b.last ms → AreInOrder c.last ms
  order_looked ms h = subst (λ s. AreInOrder s ms) (sym (ap (λ (z : State). z.last) p.same)) h

  -- what is there begins with the byte
  pub first_is : {d : State} {e : Asn1DerError} {bytes others : List ℕ} {y : ℕ} → Fails c d e → AreUpToEnd b d e bytes
      → bytes ≡ y ∷ others → y ≡ x
  first_is {d} {e} {bytes} {others} {y} f w is =
      let h = peeks_front p f w.are_before.concerns in
      let q : y ∷ (others ++ w.are_before.rest) ≡ x ∷ h.0 = sym (ap (λ z. z ++ w.are_before.rest) is)
      ∙ sym w.are_before.begins ∙ h.1 in
      cc

  -- no member is there whose shape begins otherwise
  not_there : (s : Shape) {d : State} {e : Asn1DerError} (u : Tree) (us : Trees) → (IsFirst s x → ⊥) → Fails c d e
      → IsOf s u → IsReadable u → AreUpToEnd b d e (members_encoding (Trees.more u us)) → ⊥
  not_there s u us other f o r w =
      let h = begins_in s u o r in
      let is : members_encoding (Trees.more u us) ≡ h.first ∷ (h.others ++ members_encoding us) =
      members_encoding-more u us ∙ ap (λ z. z ++ members_encoding us) h.is in
      other (subst (λ z. contains (firsts s) z ≡ true) (first_is f w is) h.listed)

  -- a member that may be missing isn't, where the next byte is one of its first
  not_absent : (s : Shape) (l : Layout) {d : State} {e : Asn1DerError} (us : Trees)
      → are_disjoint (firsts s) (next_firsts l) ≡ true → IsFirst s x → Fails c d e → AreMembersOf l us → AreReadable us
      → AreUpToEnd b d e (members_encoding us) → ⊥
  not_absent s l Trees.none disjoint own f are readable w = none_left p.ahead w
  not_absent s l (Trees.more u us) disjoint own f are readable w =
      let h = begins_next l u us are readable.0 in
      let is : members_encoding (Trees.more u us) ≡ h.first ∷ (h.others ++ members_encoding us) =
      members_encoding-more u us ∙ ap (λ z. z ++ members_encoding us) h.is in
      disjoint_contains x (firsts s) (next_firsts l) disjoint own
      (subst (λ z. contains (next_firsts l) z ≡ true) (first_is f w is) h.listed)

-- nor where it was read
not_absent_read : (s : Shape) (l : Layout) {b c d : State} {t : Tree} {e : Asn1DerError} (us : Trees)
    → are_disjoint (firsts s) (next_firsts l) ≡ true → ReadsMember s b c t → Fails c d e → AreMembersOf l us
    → AreReadable us → AreUpToEnd b d e (members_encoding us) → ⊥
not_absent_read s l Trees.none disjoint r f are readable w = none_left (member_ahead r) w
not_absent_read s l {t = t} (Trees.more u us) disjoint r f are readable w =
    let h = begins_next l u us are readable.0 in
    let k = begins_in s t r.reads.of_shape r.reads.readable in
    let same_first : h.first ∷ h.others ≡ k.first ∷ k.others =
    sym h.is ∙ (same_member u us readable.0 r f w.are_before).0 ∙ k.is in
    let first : h.first ≡ k.first = cc in
    disjoint_contains k.first (firsts s) (next_firsts l) disjoint k.listed
    (subst (λ z. contains (next_firsts l) z ≡ true) first h.listed)

-- no member is at the end
nothing_there : {b d : State} {e : Asn1DerError} (u : Tree) (us : Trees) → b.until_end ≡ 0 → IsReadable u
    → AreUpToEnd b d e (members_encoding (Trees.more u us)) → ⊥
nothing_there u us z r w =
    omega (
      arith,
      z,
      w.fills,
      ap length (members_encoding-more u us),
      length-append (der u) (members_encoding us),
      length-der u r,
    )

-- ---- no members

pub layout_none : {b : State} → b.implicit_tag ≡ None → ReadsLayout Layout.empty b b Trees.none
layout_none {b} d = record {
  are = tt;
  readable = tt;
  order = no_members_in_order b.last;
  passes = λ a q. record {
    mid = a;
    consumes =
        subst (Consumed (without_order a) (without_order a)) (sym members_encoding-none) (nothing q);
    peeks_at_most = q;
  };
  implicit_tag = d;
  fails = λ last e f. f;
  full = λ distinct last e f left us are r w. full us are left w;
} where
  nothing : {a : State} → PeeksAtMost a b → Consumed (without_order a) (without_order a) []
  nothing {a} (same e f g) = consumes_none (without_order a) f g
  nothing {a} (looked x g p) = consumes_none (without_order a) p.had_not_failed g

  full : {last : State} {e : Asn1DerError} (us : Trees) → AreMembersOf Layout.empty us → 0 < b.until_end
      → AreUpToEnd b last e (members_encoding us) → ⊥
  full Trees.none are left w = none_left left w
  full (Trees.more t ts) are left w = absurd are

-- ---- a member that is always there

module _ {V W : Type 0} (meaning : W → Tree) {s : Shape} {l : Layout} (item : V → Option W) (there : (v : V)
    → IfNone (item v) ⊥) where
  required_head : {rule : Rule} (others : V → Trees) {c d : State} {e : Asn1DerError}
      → RefusesMember meaning s rule c d e
      → RefusesLayout (λ v. maybe_more meaning (item v) (others v)) (Layout.required s l) c d e
  required_head others {c} r = record { rest = rest_head (λ v p. unread v (item v) (there v) p.1) r }
    where
      unread : (v : V) (o : Option W) → IfNone o ⊥
          → AreMembersOf (Layout.required s l) (maybe_more meaning o (others v))
          → AreReadable (maybe_more meaning o (others v))
          → FirstIsUnread meaning s (IsAhead c) (maybe_more meaning o (others v))
      unread v None t are readable = absurd t
      unread v (Some w) t are readable = unread_first w are.0 readable.0

  required_next : {U : Type 0} (others : U → Trees) (rest : V → U) {b c d : State} {t : Tree} {e : Asn1DerError}
      → ReadsMember s b c t → RefusesLayout others l c d e
      → RefusesLayout (λ v. maybe_more meaning (item v) (others (rest v))) (Layout.required s l) b d e
  required_next others rest r h =
      record { rest = rest_after rest (λ v p. follow v (item v) (there v) p.0 p.1) r h.rest }
    where
      follow : (v : V) (o : Option W) → IfNone o ⊥ → AreMembersDistinct l
          → AreMembersOf (Layout.required s l) (maybe_more meaning o (others (rest v)))
          → Follow (AreMembersDistinct l × AreMembersOf l (others (rest v))) (others (rest v))
          (maybe_more meaning o (others (rest v)))
      follow v None t distinct are = absurd t
      follow v (Some w) t distinct are = ((distinct, are.1), refl)

member_then : {s : Shape} {l : Layout} {a b c d : State} {t : Tree} {ts : Trees} → PeeksAtMost a b → ReadsMember s b c t
    → ReadsLayout l c d ts → Passes a d (members_encoding (Trees.more t ts))
member_then {a = a} {c = c} {d = d} {t = t} {ts = ts} q r h =
    let m = consumes_member r in
    let p = h.passes c (peeks_at_most_here m.not_failed m.unpeeked) in
    record {
      mid = p.mid;
      consumes =
          subst (Consumed (without_order a) (without_order p.mid)) (sym (members_encoding-more t ts))
          (consumes_then (peeks_at_most_consumes c q m) p.consumes);
      peeks_at_most = p.peeks_at_most;
    }

required_read : {s : Shape} {l : Layout} {b c d : State} {t : Tree} {ts : Trees} → ReadsMember s b c t
    → ReadsLayout l c d ts → ReadsLayout (Layout.required s l) b d (Trees.more t ts)
required_read {s} {l} {b} {c} {d} {t} {ts} r h = record {
  are = (r.reads.of_shape, h.are);
  readable = (r.reads.readable, h.readable);
  order = members_lead ts r h.order;
  passes = λ a q. member_then q r h;
  implicit_tag = h.implicit_tag;
  fails = λ last e f. fails_after_any_order (consumes_member r) (h.fails last e f);
  full = λ distinct last e f left us are readable w. full distinct f left us are readable w;
} where
  full : AreMembersDistinct l → {last : State} {e : Asn1DerError} → Fails d last e → 0 < d.until_end → (us : Trees)
      → AreMembersOf (Layout.required s l) us → AreReadable us → AreUpToEnd b last e (members_encoding us) → ⊥
  full distinct f left Trees.none are readable w = absurd are
  full distinct {last} {e} f left (Trees.more u us) are readable w =
      h.full distinct last e f left us are.1 readable.1 (next_up_to_end u us readable.0 r (h.fails last e f) w)

-- no members are there if no tag is, though the end isn't here
pub indistinct_refused : {V : Type 0} {members : V → Trees} {l : Layout} {b d : State} {e : Asn1DerError}
    → RefusesIdentifier b d e → (b.failed ≡ None → 0 < b.until_end) → RefusesLayout members l b d e
indistinct_refused {b = b} {d = d} {e = e} h ahead = record {
  rest = record {
    fails = h.refuses.fails;
    none = λ j v p readable order w. no_bytes (ahead j.had_not_failed) w
        (missing_here (h.missing j).1 w.are_before.concerns);
  };
} where
  no_bytes : {bytes : List ℕ} → 0 < b.until_end → (w : AreUpToEnd b d e bytes)
      → (b.until_end ≡ 0) ⊎ (w.are_before.seen ≡ []) → ⊥
  no_bytes ahead w (inl z) = omega (arith, ahead, z)
  no_bytes {bytes} ahead w (inr z) =
      omega (arith, ahead, w.fills, ap length (sym w.are_before.begins ∙ z), length-append bytes w.are_before.rest)

-- ---- a member that may be missing

-- what values of the types owe, of which the first may be missing
module _ {V W U : Type 0} (meaning : W → Tree) (others : U → Trees) (s : Shape) (l : Layout) (part : V → Option W)
    (rest : V → U) (begins : (w : W) → IsBegunBy (firsts s) (meaning w)) (begin : (u : U)
    → AreBegunBy (next_firsts l) (others u)) where
  -- the members of a value, by whether the first is there
  by_option : (P : Trees → Type 0) → AreMembersDistinct (Layout.maybe s l)
      → ((w : W) (u : U) → IsOf s (meaning w) → AreMembersOf l (others u)
      → AreReadable (Trees.more (meaning w) (others u)) → P (Trees.more (meaning w) (others u)) → ⊥)
      → ((u : U) → AreMembersOf l (others u) → AreReadable (others u) → P (others u) → ⊥)
      → (o : Option W) (u : U) → AreMembersOf (Layout.maybe s l) (maybe_more meaning o (others u))
      → AreReadable (maybe_more meaning o (others u)) → P (maybe_more meaning o (others u)) → ⊥
  by_option P distinct f g None u are readable p =
      g u (first_is_absent s l distinct.0 (others u) (begin u) readable are) readable p
  by_option P distinct f g (Some w) u are readable p =
      let q = first_is_present s l distinct.0 (meaning w) (others u) (begins w) readable.0 are in
      f w u q.0 q.1 readable p

  -- members that are in order
  abbrev AreAtFront : State → State → Asn1DerError → Trees → Type 0
  AreAtFront b d e ts = AreInOrder b.last (encodings ts) × AreUpToEnd b d e (members_encoding ts)

  refused_by : {b d : State} {e : Asn1DerError} → Fails b d e
      → (AreMembersDistinct (Layout.maybe s l) → IsJudged b d e → (w : W) (u : U) → IsOf s (meaning w)
      → AreMembersOf l (others u) → AreReadable (Trees.more (meaning w) (others u))
      → AreAtFront b d e (Trees.more (meaning w) (others u)) → ⊥)
      → (AreMembersDistinct (Layout.maybe s l) → IsJudged b d e → (u : U) → AreMembersOf l (others u)
      → AreReadable (others u) → AreAtFront b d e (others u) → ⊥)
      → RefusesLayout (λ v. maybe_more meaning (part v) (others (rest v))) (Layout.maybe s l) b d e
  refused_by {b} {d} {e} fails f g = record {
    rest = record {
      fails = fails;
      none = λ j v p readable order w. by_option (AreAtFront b d e) p.0 (f p.0 j) (g p.0 j) (part v) (rest v) p.1
          readable (order, w);
    };
  }

  -- no tag was there, or the member was refused
  maybe_head : {rule : Rule} {b d : State} {e : Asn1DerError} → b.implicit_tag ≡ None
      → RefusesOptional meaning s rule b d e
      → RefusesLayout (λ v. maybe_more meaning (part v) (others (rest v))) (Layout.maybe s l) b d e
  maybe_head whole (no_tag h ahead) = indistinct_refused h ahead
  maybe_head whole (no_member mid tag i own r) =
      let p = as_look whole i in
      refused_by (peeks_fails p r.fails)
      (λ distinct j w u o a readable st. no_value_there w (others u) r (peeks_judged p j) o readable.0
      (order_looked p (encodings (Trees.more (meaning w) (others u))) st.0) (at_front_looked p st.1).are_before)
      (λ distinct j u a readable st. not_absent p s l (others u) distinct.0 own r.fails a readable st.1)

  -- it was read, and the members after it were refused
  there_next : {b c d : State} {t : Tree} {e : Asn1DerError} → ReadsMember s b c t → RefusesLayout others l c d e
      → RefusesLayout (λ v. maybe_more meaning (part v) (others (rest v))) (Layout.maybe s l) b d e
  there_next r n = refused_by (fails_after_any_order (consumes_member r) n.rest.fails)
      (λ distinct j w u o a readable st.
      n.rest.none (judged_after_any_order (consumes_member r) j) u (distinct.1, a) readable.1
      (next_order (meaning w) (others u) readable.0 r n.rest.fails st.1.are_before st.0)
      (next_up_to_end (meaning w) (others u) readable.0 r n.rest.fails st.1))
      (λ distinct j u a readable st. not_absent_read s l (others u) distinct.0 r n.rest.fails a readable st.1)

-- it can't be there, and what is follows the look
pub record Skips (s : Shape) (b c : State) : Type 0 where
  pub fails : (d : State) (e : Asn1DerError) → Fails c d e → Fails b d e
  pub judged : (d : State) (e : Asn1DerError) → IsJudged b d e → IsJudged c d e
  pub at_front : (d : State) (e : Asn1DerError) (bytes : List ℕ) → AreUpToEnd b d e bytes → AreUpToEnd c d e bytes
  pub last : c.last ≡ b.last
  pub peeks_at_most : (a : State) → PeeksAtMost a b → PeeksAtMost a c
  pub not : (d : State) (e : Asn1DerError) (u : Tree) (us : Trees) → Fails c d e → IsOf s u → IsReadable u
      → AreUpToEnd b d e (members_encoding (Trees.more u us)) → ⊥

pub skips : {s : Shape} {b c : State} → b.implicit_tag ≡ None → Lacks s b c → Skips s b c
skips {b = b} whole (no_more h) = record {
  fails = λ d e f. subst (λ x. Fails x d e) h.same f;
  judged = λ d e j. subst (λ x. IsJudged x d e) (sym h.same) j;
  at_front = λ d e bytes w. subst (λ x. AreUpToEnd x d e bytes) (sym h.same) w;
  last = ap (λ (z : State). z.last) h.same;
  peeks_at_most = λ a q. subst (PeeksAtMost a) (sym h.same) q;
  not = λ d e u us f o r w. nothing_there u us h.reached r w;
}
skips {s = s} whole (begins_otherwise tag i other) =
    let p = as_look whole i in
    record {
      fails = λ d e f. peeks_fails p f;
      judged = λ d e j. peeks_judged p j;
      at_front = λ d e bytes w. at_front_looked p w;
      last = ap (λ (z : State). z.last) p.same;
      peeks_at_most = λ a q. peeks_at_most_look q p;
      not = λ d e u us f o r w. not_there p s u us other f o r w;
    }

-- it is missing, and the members after it were refused
absent_next : {V W U : Type 0} (meaning : W → Tree) (others : U → Trees) (s : Shape) (l : Layout) (part : V → Option W)
    (rest : V → U) → ((w : W) → IsBegunBy (firsts s) (meaning w)) → ((u : U) → AreBegunBy (next_firsts l) (others u))
    → {b c d : State} {e : Asn1DerError} → b.implicit_tag ≡ None → Lacks s b c → RefusesLayout others l c d e
    → RefusesLayout (λ v. maybe_more meaning (part v) (others (rest v))) (Layout.maybe s l) b d e
absent_next meaning others s l part rest begins begin {b} {c} {d} {e} whole h n =
    let k : Skips s b c = skips whole h in
    refused_by meaning others s l part rest begins begin (k.fails d e n.rest.fails)
    (λ distinct j w u o a readable st. k.not d e (meaning w) (others u) n.rest.fails o readable.0 st.1)
    (λ distinct j u a readable st. n.rest.none (k.judged d e j) u (distinct.1, a) readable
    (subst (λ x. AreInOrder x (encodings (others u))) (sym k.last) st.0)
    (k.at_front d e (members_encoding (others u)) st.1))

-- it was read, and the members after it
there_read : {s : Shape} {l : Layout} {b c d : State} {t : Tree} {ts : Trees} → ReadsMember s b c t
    → ReadsLayout l c d ts → ReadsLayout (Layout.maybe s l) b d (Trees.more t ts)
there_read {s} {l} {b} {c} {d} {t} {ts} r h = record {
  are = inl (r.reads.of_shape, h.are);
  readable = (r.reads.readable, h.readable);
  order = members_lead ts r h.order;
  passes = λ a q. member_then q r h;
  implicit_tag = h.implicit_tag;
  fails = λ last e f. fails_after_any_order (consumes_member r) (h.fails last e f);
  full = λ distinct last e f left us are readable w. full distinct f left us are readable w;
} where
  full : AreMembersDistinct (Layout.maybe s l) → {last : State} {e : Asn1DerError} → Fails d last e → 0 < d.until_end
      → (us : Trees) → AreMembersOf (Layout.maybe s l) us → AreReadable us → AreUpToEnd b last e (members_encoding us)
      → ⊥
  full distinct {last} {e} f left us (inr are) readable w =
      not_absent_read s l us distinct.0 r (h.fails last e f) are readable w
  full distinct f left Trees.none (inl are) readable w = absurd are
  full distinct {last} {e} f left (Trees.more u us) (inl are) readable w =
      h.full distinct.1 last e f left us are.1 readable.1 (next_up_to_end u us readable.0 r (h.fails last e f) w)

-- it is missing, and the members after it were read
absent_read : {s : Shape} {l : Layout} {b c d : State} {ts : Trees} → b.implicit_tag ≡ None → Lacks s b c
    → ReadsLayout l c d ts → ReadsLayout (Layout.maybe s l) b d ts
absent_read {s} {l} {b} {c} {d} {ts} whole h n =
    let k : Skips s b c = skips whole h in
    record {
      are = inr n.are;
      readable = n.readable;
      order = subst (λ x. AreInOrder x (encodings ts)) k.last n.order;
      passes = λ a q. n.passes a (k.peeks_at_most a q);
      implicit_tag = n.implicit_tag;
      fails = λ last e f. k.fails last e (n.fails last e f);
      full = λ distinct last e f left us are readable w. full k distinct f left us are readable w;
    }
  where
    full : Skips s b c → AreMembersDistinct (Layout.maybe s l) → {last : State} {e : Asn1DerError} → Fails d last e
        → 0 < d.until_end → (us : Trees) → AreMembersOf (Layout.maybe s l) us → AreReadable us
        → AreUpToEnd b last e (members_encoding us) → ⊥
    full k distinct {last} {e} f left us (inr are) readable w =
        n.full distinct.1 last e f left us are readable (k.at_front last e (members_encoding us) w)
    full k distinct f left Trees.none (inl are) readable w = absurd are
    full k distinct {last} {e} f left (Trees.more u us) (inl are) readable w =
        k.not last e u us (n.fails last e f) are.0 readable.0 w

-- by whether it was read
maybe_read : {W : Type 0} (meaning : W → Tree) {s : Shape} {l : Layout} {b c d : State} {ts : Trees} (o : Option W)
    → b.implicit_tag ≡ None → IfSome o (λ w. ReadsMember s b c (meaning w)) → IfNone o (Lacks s b c)
    → ReadsLayout l c d ts
    → ReadsLayout (Layout.maybe s l) b d (maybe_more meaning o ts)
maybe_read meaning None whole r h n = absent_read whole h n
maybe_read meaning (Some w) whole r h n = there_read r n

maybe_next : {V W U : Type 0} (meaning : W → Tree) (others : U → Trees) (s : Shape) (l : Layout) (part : V → Option W)
    (rest : V → U) → ((w : W) → IsBegunBy (firsts s) (meaning w)) → ((u : U) → AreBegunBy (next_firsts l) (others u))
    → {b c d : State} {e : Asn1DerError} (o : Option W) → b.implicit_tag ≡ None
    → IfSome o (λ w. ReadsMember s b c (meaning w)) → IfNone o (Lacks s b c) → RefusesLayout others l c d e
    → RefusesLayout (λ v. maybe_more meaning (part v) (others (rest v))) (Layout.maybe s l) b d e
maybe_next meaning others s l part rest begins begin None whole r h n =
    absent_next meaning others s l part rest begins begin whole h n
maybe_next meaning others s l part rest begins begin (Some w) whole r h n =
    there_next meaning others s l part rest begins begin r n

-- ---- a member with a default

module _ {V W U : Type 0} (meaning : W → Tree) (left_out : W → Bool) (others : U → Trees) (s : Shape) (l : Layout)
    (item : V → Option W) (rest : V → U) (written : (v : V) → IfSome (item v) (λ w. left_out w ≡ false))
    (by_tree : IsByTree meaning left_out) (sound : IsSound s)
    (begins : (w : W) → IsBegunBy (firsts s) (meaning w)) (begin : (u : U) → AreBegunBy (next_firsts l) (others u))
  where
    -- the default is there, and isn't written
    left_out_found : {b c d : State} {e : Asn1DerError} (x : W) → IsTrue (left_out x) → ReadsMember s b c (meaning x)
        → Fails c d e → AreMembersDistinct (Layout.maybe s l) → (o : Option W) (u : U)
        → IfSome o (λ w. left_out w ≡ false)
        → AreMembersOf (Layout.maybe s l) (maybe_more meaning o (others u))
        → AreReadable (maybe_more meaning o (others u))
        → AreUpToEnd b d e (members_encoding (maybe_more meaning o (others u))) → ⊥
    left_out_found x is r f distinct None u q are readable w =
        not_absent_read s l (others u) distinct.0 r f (first_is_absent s l distinct.0 (others u) (begin u) readable are)
        readable w
    left_out_found x is r f distinct (Some y) u q are readable w =
        let there = first_is_present s l distinct.0 (meaning y) (others u) (begins y) readable.0 are in
        let bytes : der (meaning y) ≡ der (meaning x) =
        (same_member (meaning y) (others u) readable.0 r f w.are_before).0 in
        let same : meaning x ≡ meaning y =
        (same_tree s sound (meaning x) (meaning y) r.reads.of_shape there.0 r.reads.readable readable.0 [] []
        (ap (λ z. z ++ []) (sym bytes))).0 in
        let out : left_out y ≡ true = (by_tree x y is).1 same in
        let never : false ≡ true = sym q ∙ out in
        cc

    default_head : {rule : Rule} {b d : State} {last : Option (List ℕ)} {e : Asn1DerError} → b.implicit_tag ≡ None
        → RefusesDefault meaning left_out s rule b d last e
        → RefusesLayout (λ v. maybe_more meaning (item v) (others (rest v))) (Layout.maybe s l) b d e
    default_head whole (as_optional h still) = maybe_head meaning others s l item rest begins begin whole h
    default_head whole (written_out c x is r _ f) = record {
      rest = record {
        fails = fails_after_any_order (consumes_member r) f;
        none = λ j v p readable order w. left_out_found x is r f p.0 (item v) (rest v) (written v) p.1 readable w;
      };
    }

-- ---- a member, always there or not

refuses_alike : {V : Type 0} {members others : V → Trees} {l : Layout} {b d : State} {e : Asn1DerError}
    → ((v : V) → members v ≡ others v) → RefusesLayout others l b d e → RefusesLayout members l b d e
refuses_alike {l = l} {b = b} {d = d} {e = e} is h = record {
  rest = record {
    fails = h.rest.fails;
    none = λ j v p readable order w.
        h.rest.none j v (p.0, subst (AreMembersOf l) (is v) p.1) (subst AreReadable (is v) readable)
        (subst (λ ts. AreInOrder b.last (encodings ts)) (is v) order)
        (subst (λ ts. AreUpToEnd b d e (members_encoding ts)) (is v) w);
  };
}

module _ {W X : Type 0} {presence : Presence} {prepend : X → Trees → Trees} {eq : X → X → Bool} {meaning : W
    → Tree} {s : Shape} {eq_item : W → W → Bool} {item : X → Option W}
    (c : IsLayoutMember presence prepend eq meaning s eq_item item) where
  pub layout_member_read : {l : Layout} {b m d : State} {ts : Trees} (x : X) → b.implicit_tag ≡ None
      → IfSome (item x) (λ w. ReadsMember s b m (meaning w)) → IfNone (item x) (Lacks s b m) → ReadsLayout l m d ts
      → ReadsLayout (layout_with presence s l) b d (prepend x ts)
  layout_member_read {l} {b} {m} {d} {ts} x whole r h n =
      subst (ReadsLayout (layout_with presence s l) b d) (sym (c.prepends x ts))
      (by_presence presence (item x) (c.there x) r h)
    where
      by_presence : (p : Presence) (o : Option W) → IsThere p o → IfSome o (λ w. ReadsMember s b m (meaning w))
          → IfNone o (Lacks s b m) → ReadsLayout (layout_with p s l) b d (maybe_more meaning o ts)
      by_presence always None t r h = absurd t
      by_presence always (Some w) t r h = required_read r n
      by_presence perhaps o t r h = maybe_read meaning o whole r h n

  pub layout_member_head : (rule : Rule) {left_out : W → Bool} → IsLeftOut meaning item left_out
      → {V : Type 0} {others : V → Trees} {l : Layout} {AreEqual : V → V → Type 0} (first : V → X)
      → AreLayoutMembers others l AreEqual → {b d : State} {e : Asn1DerError}
      (last : Option (List ℕ)) → b.implicit_tag ≡ None → RefusesLayoutMember presence meaning left_out s rule b d last e
      → RefusesLayout (λ v. prepend (first v) (others v)) (layout_with presence s l) b d e
  layout_member_head rule {left_out} left {V} {others} {l} first cs {b} {d} {e} last whole h =
      refuses_alike (λ v. c.prepends (first v) (others v)) (by_presence presence c.there h)
    where
      by_presence : (p : Presence) → ((x : X) → IsThere p (item x))
          → RefusesLayoutMember p meaning left_out s rule b d last e
          → RefusesLayout (λ v. maybe_more meaning (item (first v)) (others v)) (layout_with p s l) b d e
      by_presence always there h = required_head meaning (λ v. item (first v)) (λ v. there (first v)) others h.0
      by_presence perhaps there h =
          default_head meaning left_out others s l (λ v. item (first v)) (λ v. v) (λ v. left.written (first v))
          left.by_tree c.is.sound c.is.begun cs.begins whole h

  pub layout_member_next : {V U : Type 0} {others : U → Trees} {l : Layout} {AreEqual : U → U → Type 0} (first : V
      → X) (rest : V → U) → AreLayoutMembers others l AreEqual → {b m d : State} {e : Asn1DerError} (x : X)
      → b.implicit_tag ≡ None → IfSome (item x) (λ w. ReadsMember s b m (meaning w)) → IfNone (item x) (Lacks s b m)
      → RefusesLayout others l m d e
      → RefusesLayout (λ v. prepend (first v) (others (rest v))) (layout_with presence s l) b d e
  layout_member_next {V} {U} {others} {l} first rest cs {b} {m} {d} {e} x whole r h n =
      refuses_alike (λ v. c.prepends (first v) (others (rest v)))
      (by_presence presence (item x) (c.there x) c.there r h)
    where
      by_presence : (p : Presence) (o : Option W) → IsThere p o → ((y : X) → IsThere p (item y))
          → IfSome o (λ w. ReadsMember s b m (meaning w)) → IfNone o (Lacks s b m)
          → RefusesLayout (λ v. maybe_more meaning (item (first v)) (others (rest v))) (layout_with p s l) b d e
      by_presence always None t there r h = absurd t
      by_presence always (Some w) t there r h =
          required_next meaning (λ v. item (first v)) (λ v. there (first v)) others rest r n
      by_presence perhaps o t there r h = maybe_next meaning others s l (λ v. item (first v)) rest c.is.begun cs.begins
          o whole r h n

-- ---- the whole list

layout_first : (kind : ListKind) (l : Layout) → IsFirst (Shape.fields kind l) (list_tag kind)
layout_first ListKind.sequence l = refl
layout_first ListKind.set l = refl

opened_peeks_at_most : (kind : ListKind) {a b : State} {outer : EnclosingEnd} → OpensList (list_tag kind) a b outer
    → PeeksAtMost b b
opened_peeks_at_most kind o = peeks_at_most_here (ap (λ (s : State). s.failed) o.opened ∙ o.begins.consumes.not_failed)
    (ap (λ (s : State). s.peeked) o.opened ∙ o.begins.consumes.unpeeked)

-- there is no header
pub layout_unopened : {V : Type 0} {members : V → Trees} {l : Layout} {kind : ListKind} {a c : State} {e : Asn1DerError}
    → RefusesList (list_tag kind) a c e → Refuses (λ v. Tree.list kind (members v)) (Shape.fields kind l) a c e
layout_unopened {members = members} {l = l} {kind = kind} h =
    list_unopened kind members (Shape.fields kind l) (layout_first kind l) h

-- the members were refused
pub layout_refused : {V U : Type 0} {members : U → Trees} {l : Layout} {kind : ListKind} {a b c : State}
    {outer : EnclosingEnd} {e : Asn1DerError} (part : V → U) → AreMembersDistinct l
    → OpensList (list_tag kind) a b outer → RefusesLayout members l b c e
    → Refuses (λ v. Tree.list kind (members (part v))) (Shape.fields kind l) a c e
layout_refused {members = members} {l = l} {kind = kind} part distinct o r =
    list_refused kind (λ v. members (part v)) (Shape.fields kind l) (layout_first kind l) o r.rest.fails
    (λ j v of_shape readable order w. r.rest.none j (part v) (distinct, of_shape.1) readable order w)

-- something is left after the members
pub layout_left : {V : Type 0} {members : V → Trees} {l : Layout} {kind : ListKind} {a b c d : State}
    {outer : EnclosingEnd} {ts : Trees} {e : Asn1DerError} → AreMembersDistinct l → OpensList (list_tag kind) a b outer
    → ReadsLayout l b c ts → RefusesClose c d e
    → Refuses (λ v. Tree.list kind (members v)) (Shape.fields kind l) a d e
layout_left {members = members} {l = l} {kind = kind} {b = b} {d = d} {e = e} distinct o r h =
    let left = h.left (peeks_at_most_not_failed (r.passes b (opened_peeks_at_most kind o)).peeks_at_most) in
    list_refused kind members (Shape.fields kind l) (layout_first kind l) o (r.fails d e h.fails)
    (λ j v of_shape readable order w. r.full distinct d e h.fails left.0 (members v) of_shape.1 readable w)

-- the members were read, and the list was closed
pub layout_reads : {l : Layout} {kind : ListKind} {a b c d : State} {outer closed : EnclosingEnd} {ts : Trees}
    → OpensList (list_tag kind) a b outer → ReadsLayout l b c ts → Closes closed c d → closed ≡ outer
    → Reads (Shape.fields kind l) a d (Tree.list kind ts)
layout_reads {kind = kind} {b = b} {ts = ts} o r k back =
    let q = r.passes b (opened_peeks_at_most kind o) in
    let consumes = subst (λ z. Consumed (without_order b) (without_order z) (members_encoding ts))
    (sym (no_peek_at_end q.peeks_at_most k.reached)) q.consumes in
    list_reads ts o r.order consumes r.implicit_tag k back (refl, r.are) r.readable
