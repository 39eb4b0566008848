-- The DER of lists and choices is its own BER, where that of the values in them is.
use Rattle.std.proofs.Common.{◌≡◌, ◌≢◌, ℕ, zero, suc, ◌<◌, List, [], ◌∷◌, ◌++◌, Some, slice_get, ◌⊎◌, inl, inr}
use Rattle.std.proofs.Common.{refl, sym, ap, ◌∙◌, subst, append-nil, arith}
use Rattle.std.proofs.lemmas.Bool.{cases_lt}
use Rattle.std.specs.List.{AllByRecursion, concat}
use Rattle.picky_der_core.specs.Element.{tlv, IsElement}
use Rattle.picky_der_core.specs.Encoding.{der, implicit_content, encodings, tree_bytes}
use Rattle.picky_der_core.specs.EncodingLaws.{der-element}
use Rattle.picky_der_core.specs.Readable.{IsReadable, AreReadable}
use Rattle.picky_der_core.specs.Shape.{EachIs, FirstAndRest}
use Rattle.picky_der_core.specs.Tree.{Tree, Trees}
use Rattle.der_types.specs.Denotes.{Denotes, DenoteFirst, DenoteMembers, DenoteOneOf}
use Rattle.der_types.specs.Notation.{Notation, Alternatives}
use Rattle.der_types.specs.NotationForms.{Value, default-of}
use Rattle.der_path.proofs.Elements.{none_of_empty}
use Rattle.der_schema.proofs.Nodes.{before, earlier, not_earlier}
use Rattle.der_schema.specs.NotationOf.{type_at, member_with, members_from, alternatives_from, notation_of, value_in}
use Rattle.der_schema.specs.declared.node.Alternative.{Alternative}
use Rattle.der_schema.specs.declared.node.Member.{Member}
use Rattle.der_schema.specs.declared.node.Node.{Node}
use Rattle.der_schema.specs.declared.node.Presence.{Presence}
use Rattle.der_schema.specs.declared.node.Presence.TheVariants as presence
use Rattle.der_ber_types.specs.declared.inside.Inside.{Inside}
use Rattle.der_ber_types.specs.Content.{IsContent, IsOne, AreEach, AreMembers}
use Rattle.der_ber_types.specs.Inside.{HasInside, HasTag}
use Rattle.der_ber_types.specs.Kinds.{tag_in_der}
use Rattle.der_ber_types.specs.Reordered.{AreOthers, AreReordered}
use Rattle.der_ber_types.specs.Tables.{AreApart, AreAllApart, AreMembersApart, CanBeNext, DenotesPresent}
use Rattle.der_ber_types.specs.Tables.{HasOtherValues, IsApartFromNext, IsInTag}
use Rattle.der_ber_types.proofs.InsideLemmas.{tag_of}
use Rattle.der_ber_types.proofs.Unique.{empty-some, tlv-fronts}

-- what is directly under a tag in place of the type's own is its own BER
pub record HasOwnContent (nodes : List Node) (i : ℕ) (t : Tree) : Type 0 where
  pub it : Inside
  pub has : HasInside nodes i it
  pub tag_stays : (tag : ℕ) → tag_in_der it tag ≡ tag
  pub is : IsContent nodes it (implicit_content t) (implicit_content t)

-- the DER of the tree is its own BER by the node's type
pub record IsOwn (nodes : List Node) (i : ℕ) (t : Tree) : Type 0 where
  pub one : IsOne nodes i (der t) (der t)
  pub content : (IsInTag nodes i → ⊥) → HasOwnContent nodes i t

pub no_values : (t : Tree) → Denotes (Notation.choice Alternatives.none) t → ⊥
no_values t d = d.2

-- the encodings of readable trees are elements
pub elements : (ts : Trees) → AreReadable ts → AllByRecursion IsElement (encodings ts)
unfolding der tree_bytes
elements Trees.none r = tt
elements (Trees.more t ts) r = (der-element t r.0, elements ts r.1)

-- ---- members of any bytes

-- the element at the front has a tag of its type
front_tag : (nodes : List Node) (i : ℕ) (bytes element d rest : List ℕ) (tag : ℕ) (content after : List ℕ)
    → IsOne nodes i element d → bytes ≡ element ++ rest → bytes ≡ tlv tag content ++ after → HasTag nodes i tag
front_tag nodes i bytes element d rest tag content after (IsOne.element _ t x c _ _ _ n it is p f) e g =
    let same = tlv-fronts bytes t tag c content rest after (e ∙ ap (λ l. l ++ rest) p) g in
    subst (HasTag nodes i) same.0 (tag_of nodes i t x it)

next_tag : (nodes : List Node) (ms : List Member) (bytes d : List ℕ) (tag : ℕ) (content after : List ℕ)
    → AreMembers nodes ms bytes d → bytes ≡ tlv tag content ++ after → CanBeNext nodes ms tag
next_tag nodes ms bytes d tag content after (AreMembers.end _ _ e f) is =
    absurd (empty-some bytes tag content after e is)
next_tag nodes ms bytes d tag content after (AreMembers.present m ns x k r others _ _ one un are e f) is =
    inl (front_tag nodes m.node bytes x k r tag content after one e is)
next_tag nodes ms bytes d tag content after (AreMembers.written m ns x k r _ _ one given are e) is =
    inl (front_tag nodes m.node bytes x k r tag content after one e is)
next_tag nodes ms bytes d tag content after (AreMembers.absent m ns _ _ free none are) is =
    inr (free, next_tag nodes ns bytes d tag content after are is)

absent : (nodes : List Node) (m : Member) (ms : List Member) (bytes d : List ℕ) → m.presence ≢ presence.Required
    → IsApartFromNext nodes m ms → AreMembers nodes ms bytes d → AreMembers nodes (m ∷ ms) bytes d
absent nodes m ms bytes d free apart are =
    AreMembers.absent m ms bytes d free
    (λ after ahead. apart free ahead.tag ahead.has_tag
    (next_tag nodes ms bytes d ahead.tag ahead.content after are ahead.begins.is)) are

-- none of the elements has a tag of another member
without : (nodes : List Node) (m : Member) (ms : List Member) (bytes d : List ℕ)
    → AllByRecursion (λ n. AreApart nodes m.node n.node) ms → AreMembers nodes ms bytes d
    → AreOthers nodes m.node bytes
without nodes m ms bytes d apart (AreMembers.end _ _ e f) = AreOthers.none bytes e
without nodes m ms bytes d apart (AreMembers.present n ns x k r others _ _ (IsOne.element _ t y c _ _ _ o it is p q) un
    are e f) =
    AreOthers.more t c r bytes o (λ has. apart.0 t has (tag_of nodes n.node t y it))
    (without nodes m ns r others apart.1 are) (e ∙ ap (λ l. l ++ r) p)
without nodes m ms bytes d apart (AreMembers.written n ns x k r _ _ (IsOne.element _ t y c _ _ _ o it is p q) given are
    e) =
    AreOthers.more t c r bytes o (λ has. apart.0 t has (tag_of nodes n.node t y it))
    (without nodes m ns r d apart.1 are) (e ∙ ap (λ l. l ++ r) p)
without nodes m ms bytes d apart (AreMembers.absent n ns _ _ free none are) =
    without nodes m ns bytes d apart.1 are

first_here : (nodes : List Node) (m : Member) (ms : List Member) (bytes element d rest : List ℕ)
    → IsOne nodes m.node element d → bytes ≡ element ++ rest → AreReordered nodes ms rest rest
    → AreReordered nodes (m ∷ ms) bytes bytes
first_here nodes m ms bytes element d rest (IsOne.element _ t y c _ _ _ o it is p q) e are =
    AreReordered.present m ms [] element rest rest bytes bytes
    (record {
      others = AreOthers.none [] refl;
      tagged = record { tag = t; content = c; number = o; has_tag = tag_of nodes m.node t y it; is = p };
      is = e;
    }) are e

-- members in their order stay in it
pub reordered-same : (nodes : List Node) (ms : List Member) (bytes d : List ℕ) → AreAllApart nodes ms
    → AreMembers nodes ms bytes d → AreReordered nodes ms bytes bytes
reordered-same nodes ms bytes d apart (AreMembers.end _ _ e f) = AreReordered.end bytes bytes refl
reordered-same nodes ms bytes d apart (AreMembers.present m ns x k r others _ _ one un are e f) =
    first_here nodes m ns bytes x k r one e (reordered-same nodes ns r others apart.1 are)
reordered-same nodes ms bytes d apart (AreMembers.written m ns x k r _ _ one given are e) =
    first_here nodes m ns bytes x k r one e (reordered-same nodes ns r d apart.1 are)
reordered-same nodes ms bytes d apart (AreMembers.absent m ns _ _ free none are) =
    AreReordered.absent m ns bytes bytes
    (record {
      before = bytes;
      after = [];
      others = without nodes m ns bytes d apart.0 are;
      is = sym (append-nil bytes);
      ends = none_of_empty [] (omega arith);
    }) (reordered-same nodes ns bytes d apart.1 are)

-- ---- which members are there

-- one is there before the others, or it may be absent
first_cases : (p : Presence) (n : Notation) (P : Trees → Type 0) (ts : Trees) → DenoteFirst (member_with p n) P ts
    → FirstAndRest (DenotesPresent (member_with p n)) P ts ⊎ ((p ≢ presence.Required) × P ts)
first_cases presence.Required n P ts d = inl d
first_cases presence.Optional n P ts (inl d) = inl d
first_cases presence.Optional n P ts (inr d) = inr ((λ e. cc), d)
first_cases (presence.Default v) n P ts (inl d) = inl d
first_cases (presence.Default v) n P ts (inr d) = inr ((λ e. cc), d)
first_cases (presence.DefaultOf v) n P ts (inl d) = inl d
first_cases (presence.DefaultOf v) n P ts (inr d) = inr ((λ e. cc), d)

other_than : (v : Value) (n : Notation) (t : Tree) → DenotesPresent (default-of v n) t → Denotes n t
other_than v (Notation.wrapped w n) t d = (d.0, d.1, other_than v n d.0 d.2)
other_than v n t d = d.0

pub present-denotes : (p : Presence) (n : Notation) (t : Tree) → DenotesPresent (member_with p n) t → Denotes n t
present-denotes presence.Required n t d = d
present-denotes presence.Optional n t d = d
present-denotes (presence.Default v) n t d = d.0
present-denotes (presence.DefaultOf v) n t d = other_than (value_in v) n t d

-- one of the alternatives
pub record IsAlternative (nodes : List Node) (i : ℕ) (cs : List Alternative) (t : Tree) : Type 0 where
  pub index : ℕ
  pub alternative : Alternative
  pub is : slice_get cs index ≡ Some alternative
  pub less : alternative.node < i
  pub own : IsOwn nodes alternative.node t

-- ---- in a node, where the values of the nodes before it are their own BER

module _ (nodes : List Node) (i : ℕ) (node : Node) (h : slice_get nodes i ≡ Some node)
    (own : (j : ℕ) → j < i → (t : Tree) → Denotes (notation_of nodes j) t → IsReadable t → IsOwn nodes j t) where
  pub inner : (j : ℕ) (t : Tree) → Denotes (type_at (before nodes i) j) t → IsReadable t
      → (j < i) × IsOwn nodes j t
  inner j t d r = elim (cases_lt j i) [
    | inl less ↦ (less, own j less t (subst (λ n. Denotes n t) (earlier nodes i node h j less) d) r)
    | inr past ↦ absurd (no_values t (subst (λ n. Denotes n t) (not_earlier nodes i node h j past) d))
  ]

  pub each : (j : ℕ) (ts : Trees) → EachIs (Denotes (type_at (before nodes i) j)) ts → AreReadable ts
      → AreEach nodes j (concat (encodings ts)) (concat (encodings ts))
  unfolding der tree_bytes
  each j Trees.none d r = AreEach.no_more j [] [] refl refl
  each j (Trees.more t ts) d r =
      let others = concat (encodings ts) in
      AreEach.more j (der t) (der t) others others (der t ++ others) (der t ++ others) (inner j t d.0 r.0).1.one
      (each j ts d.1 r.1) refl refl

  present : (m : Member) (ms : List Member) (P : Trees → Type 0) (ts : Trees)
      → FirstAndRest (DenotesPresent (member_with m.presence (type_at (before nodes i) m.node))) P ts → AreReadable ts
      → HasOtherValues nodes m
      → ((us : Trees) → P us → AreReadable us → AreMembers nodes ms (concat (encodings us)) (concat (encodings us)))
      → AreMembers nodes (m ∷ ms) (concat (encodings ts)) (concat (encodings ts))
  unfolding der tree_bytes
  present m ms P Trees.none d r known rest = absurd d
  present m ms P (Trees.more t ts) d r known rest =
      let others = concat (encodings ts) in
      let it = inner m.node t (present-denotes m.presence (type_at (before nodes i) m.node) t d.0) r.0 in
      let there : DenotesPresent (member_with m.presence (notation_of nodes m.node)) t =
      subst (λ n. DenotesPresent (member_with m.presence n) t) (earlier nodes i node h m.node it.0) d.0 in
      AreMembers.present m ms (der t) (der t) others others (der t ++ others) (der t ++ others) it.1.one
      (known t there r.0) (rest ts d.1 r.1) refl refl

  pub members : (ms : List Member) (ts : Trees) → DenoteMembers (members_from (before nodes i) ms) ts → AreReadable ts
      → AreMembersApart nodes ms → AllByRecursion (HasOtherValues nodes) ms
      → AreMembers nodes ms (concat (encodings ts)) (concat (encodings ts))
  unfolding der tree_bytes
  members [] Trees.none d r apart known = AreMembers.end [] [] refl refl
  members [] (Trees.more t ts) d r apart known = absurd d
  members (m ∷ ms) ts d r apart known =
      let P = DenoteMembers (members_from (before nodes i) ms) in
      let rest = λ (us : Trees) (e : P us) (s : AreReadable us). members ms us e s apart.1 known.1 in
      elim (first_cases m.presence (type_at (before nodes i) m.node) P ts d) [
        | inl there ↦ present m ms P ts there r known.0 rest
        | inr none ↦
            absent nodes m ms (concat (encodings ts)) (concat (encodings ts)) none.0 apart.0 (rest ts none.1 r)
      ]

  pub one_of : (cs : List Alternative) (t : Tree) → DenoteOneOf (alternatives_from (before nodes i) cs) t
      → IsReadable t → IsAlternative nodes i cs t
  one_of [] t d r = absurd d
  one_of (c ∷ cs) t (inl d) r =
      let it = inner c.node t d r in
      record { index = zero; alternative = c; is = refl; less = it.0; own = it.1 }
  one_of (c ∷ cs) t (inr d) r =
      let it = one_of cs t d r in
      record { index = suc it.index; alternative = it.alternative; is = it.is; less = it.less; own = it.own }
