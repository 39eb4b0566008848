-- A table that passes the test keeps the rules of tags.
use Rattle.std.proofs.Common.{◌≡◌, ◌≢◌, ℕ, zero, suc, ◌+◌, ◌<◌, true, false, not, ◌||◌, List, [], ◌∷◌}
use Rattle.std.proofs.Common.{Some, None, slice_get, is_some, map, inl, inr, refl, sym, ap, ◌∙◌, subst, arith}
use Rattle.std.proofs.lemmas.Bool.{false≢true, eq-eqb}
use Rattle.std.specs.Borrow.{Bor}
use Rattle.std.specs.List.{AllByRecursion, list_all}
use Rattle.std.specs.Prelude.{◌==◌, if◌then◌else◌}
use Rattle.picky_der_core.specs.declared.asn1.wrapper.Wrapper.TheVariants as wrapper
use Rattle.picky_der_core.specs.Shape.{contains}
use Rattle.picky_der_core.specs.Tag.{is_constructed}
use Rattle.der_types.specs.CharacterStringLaws.{both}
use Rattle.der_schema.specs.declared.node.Alternative.{Alternative}
use Rattle.der_schema.specs.declared.node.Kind.{Kind}
use Rattle.der_schema.specs.declared.node.Kind.TheVariants as kind
use Rattle.der_schema.specs.declared.node.Member.{Member}
use Rattle.der_schema.specs.declared.node.Node.{Node}
use Rattle.der_schema.specs.declared.node.Presence.{Presence}
use Rattle.der_schema.specs.declared.node.Presence.TheVariants as presence
use Rattle.der_schema.specs.Rules.{are_all_apart, are_members_apart, index_holds, in_set, is_in_tag, is_required}
use Rattle.der_schema.specs.Rules.{is_sequence, is_set, is_wrapped, keeps_set, keeps_tag, members_of, next_tags}
use Rattle.der_schema.specs.Rules.{node_holds}
use Rattle.der_schema.specs.Tags.{alternatives_of, are_apart, has_tag, same_content, same_type, tags_at, tags_of_any}
use Rattle.der_schema.specs.Tags.{tags_of_own}
use Rattle.der_schema.proofs.TagSets.{has-left, has-right, kind-alternatives, kind-any, kind-own, kind-same_type}
use Rattle.der_schema.proofs.TagSets.{node-has, none-both, of_alternative, or-first, or-second}
use Rattle.der_ber_types.specs.declared.inside.Inside.{Inside}
use Rattle.der_ber_types.specs.declared.inside.Inside.TheVariants as inside
use Rattle.der_ber_types.specs.Inside.{HasInside, HasTag, IsInsideOwn}
use Rattle.der_ber_types.specs.Kinds.{inside_here}
use Rattle.der_ber_types.specs.Tables.{AreAllApart, AreApart, AreMembersApart, CanBeNext, IsInTag}

own-has : (nodes : List Node) (i own tag : ℕ) (x : Inside) → IsInsideOwn nodes i own tag x
    → has_tag (tags_of_own (Some own)) tag ≡ true
own-has nodes i own tag x (IsInsideOwn.whole same has) =
    or-first (tag == own) (contains (if is_constructed (own + 0x20) then (own + 0x20) ∷ [] else []) tag)
    (eq-eqb tag own same)
own-has nodes i own tag x (IsInsideOwn.parts y constructed more has in_parts) =
    let form : is_constructed (own + 0x20) ≡ true = ap is_constructed more ∙ constructed in
    let there : contains ((own + 0x20) ∷ []) tag ≡ true =
    or-first (tag == (own + 0x20)) false (eq-eqb tag (own + 0x20) (sym more)) in
    or-second (tag == own) (contains (if is_constructed (own + 0x20) then (own + 0x20) ∷ [] else []) tag)
    (subst (λ b. contains (if b then (own + 0x20) ∷ [] else []) tag ≡ true) (sym form) there)

-- ---- a table

module _ (nodes : List Node) where
  has-at : (n i tag : ℕ) → HasTag nodes i tag → has_tag (tags_at nodes n i) tag ≡ true
  has-at zero i tag h = refl
  has-at (suc n) i tag (HasTag.other _ j _ node is same less p) =
      node-has nodes n i tag node is (kind-same_type (tags_at nodes n) tag node.kind j same (has-at n j tag p))
  has-at (suc n) i tag (HasTag.choice _ k _ node cs a is e at less p) =
      let here : alternatives_of node.kind ≡ cs.now = ap alternatives_of e in
      node-has nodes n i tag node is
      (kind-alternatives (tags_at nodes n) tag node.kind
      (of_alternative (tags_at nodes n) tag (alternatives_of node.kind) k a (ap (λ l. slice_get l k) here ∙ at)
      (has-at n a.node tag p)))
  has-at (suc n) i tag (HasTag.any _ _ node is any) =
      let each : tags_of_any node.kind ≡ None = elim any [ inl e ↦ ap tags_of_any e | inr e ↦ ap tags_of_any e ] in
      node-has nodes n i tag node is (kind-any (tags_at nodes n) tag node.kind each)
  has-at (suc n) i tag (HasTag.own _ own _ node x is same e p) =
      node-has nodes n i tag node is (kind-own (tags_at nodes n) tag node.kind own e (own-has nodes i own tag x p))

  module _ (n : ℕ) where
    two-apart : (i j : ℕ) → are_apart (tags_at nodes n i) (tags_at nodes n j) ≡ true → AreApart nodes i j
    two-apart i j e tag p q =
        none-both (tags_at nodes n i) (tags_at nodes n j) tag e (has-at n i tag p) (has-at n j tag q)

    -- what the test says of the first of several nodes, and of all
    first : (i j : ℕ) (js : List ℕ) → list_all (λ j. are_apart (tags_at nodes n i) (tags_at nodes n j)) (j ∷ js) ≡ true
        → (are_apart (tags_at nodes n i) (tags_at nodes n j) ≡ true)
        × (list_all (λ j. are_apart (tags_at nodes n i) (tags_at nodes n j)) js ≡ true)
    first i j js e =
        both (are_apart (tags_at nodes n i) (tags_at nodes n j))
        (list_all (λ j. are_apart (tags_at nodes n i) (tags_at nodes n j)) js) e

    all : (i : ℕ) (js : List ℕ) → are_all_apart (tags_at nodes n) (i ∷ js) ≡ true
        → (list_all (λ j. are_apart (tags_at nodes n i) (tags_at nodes n j)) js ≡ true)
        × (are_all_apart (tags_at nodes n) js ≡ true)
    all i js e =
        both (list_all (λ j. are_apart (tags_at nodes n i) (tags_at nodes n j)) js)
        (are_all_apart (tags_at nodes n) js) e

    -- ---- alternatives

    other-apart : (i : ℕ) (cs : List Alternative) (k : ℕ) (b : Alternative)
        → list_all (λ j. are_apart (tags_at nodes n i) (tags_at nodes n j)) (map (λ a. a.node) cs) ≡ true
        → slice_get cs k ≡ Some b → AreApart nodes i b.node
    other-apart i [] k b e is = absurd (cc)
    other-apart i (c ∷ cs) zero b e is =
        let same : c ≡ b = cc in
        two-apart i b.node
        (subst (λ (d : Alternative). are_apart (tags_at nodes n i) (tags_at nodes n d.node) ≡ true) same
        (first i c.node (map (λ a. a.node) cs) e).0)
    other-apart i (c ∷ cs) (suc k) b e is =
        other-apart i cs k b (first i c.node (map (λ a. a.node) cs) e).1 is

    pub alternatives-apart : (cs : List Alternative)
        → are_all_apart (tags_at nodes n) (map (λ a. a.node) cs) ≡ true → (j k : ℕ) (a b : Alternative) → j < k
        → slice_get cs j ≡ Some a → slice_get cs k ≡ Some b → AreApart nodes a.node b.node
    alternatives-apart [] e j k a b less p q = absurd (cc)
    alternatives-apart (c ∷ cs) e j zero a b less p q = absurd (omega (arith, less))
    alternatives-apart (c ∷ cs) e zero (suc k) a b less p q =
        let same : c ≡ a = cc in
        subst (λ (d : Alternative). AreApart nodes d.node b.node) same
        (other-apart c.node cs k b (all c.node (map (λ a. a.node) cs) e).0 q)
    alternatives-apart (c ∷ cs) e (suc j) (suc k) a b less p q =
        alternatives-apart cs (all c.node (map (λ a. a.node) cs) e).1 j k a b (omega (arith, less)) p q

    -- ---- members

    not_required : (p : Presence) → p ≢ presence.Required → is_required p ≡ false
    not_required presence.Required free = absurd (free refl)
    not_required p free = refl

    next-has : (ms : List Member) (tag : ℕ) → CanBeNext nodes ms tag
        → has_tag (next_tags (tags_at nodes n) ms) tag ≡ true
    next-has [] tag h = absurd h
    next-has (m ∷ ms) tag (inl p) = has-left (tags_at nodes n m.node) _ tag (has-at n m.node tag p)
    next-has (m ∷ ms) tag (inr h) =
        has-right (tags_at nodes n m.node) _ tag
        (subst (λ b. has_tag (if b then Some [] else next_tags (tags_at nodes n) ms) tag ≡ true)
        (sym (not_required m.presence h.0)) (next-has ms tag h.1))

    pub members-apart : (ms : List Member) → are_members_apart (tags_at nodes n) ms ≡ true → AreMembersApart nodes ms
    members-apart [] e = tt
    members-apart (m ∷ ms) e =
        let parts = both (is_required m.presence || are_apart (tags_at nodes n m.node) (next_tags (tags_at nodes n) ms))
        (are_members_apart (tags_at nodes n) ms) e in (
          (λ free tag p q. none-both (tags_at nodes n m.node) (next_tags (tags_at nodes n) ms) tag
              (subst (λ b. (b || are_apart (tags_at nodes n m.node) (next_tags (tags_at nodes n) ms)) ≡ true)
              (not_required m.presence free) parts.0)
              (has-at n m.node tag p) (next-has ms tag q)),
          members-apart ms parts.1,
        )

    each-apart : (i : ℕ) (ms : List Member)
        → list_all (λ j. are_apart (tags_at nodes n i) (tags_at nodes n j)) (map (λ m. m.node) ms) ≡ true
        → AllByRecursion (λ m. AreApart nodes i m.node) ms
    each-apart i [] e = tt
    each-apart i (m ∷ ms) e =
        let parts = first i m.node (map (λ m. m.node) ms) e in
        (two-apart i m.node parts.0, each-apart i ms parts.1)

    all-apart : (ms : List Member) → are_all_apart (tags_at nodes n) (map (λ m. m.node) ms) ≡ true
        → AreAllApart nodes ms
    all-apart [] e = tt
    all-apart (m ∷ ms) e =
        let parts = all m.node (map (λ m. m.node) ms) e in
        (each-apart m.node ms parts.0, all-apart ms parts.1)

    -- ---- SET

    sequence-content : (k : Kind) → is_sequence k ≡ true → same_content k ≡ None
    sequence-content (kind.Sequence ms) e = refl
    sequence-content k e = absurd (false≢true e)

    sequence-members : (k : Kind) (ms : Bor (List Member)) → is_sequence k ≡ true → inside.Members ms ≡ inside_here k
        → members_of k ≡ ms.now
    sequence-members (kind.Sequence ns) ms e h = let same : ns ≡ ms = cc in ap (λ l. l.now) same
    sequence-members k ms e h = absurd (false≢true e)

    is_set-parts : (k : Kind) → is_set (tags_at nodes n) k ≡ true
        → (is_sequence k ≡ true) × (are_all_apart (tags_at nodes n) (map (λ m. m.node) (members_of k)) ≡ true)
    is_set-parts k e =
        both (is_sequence k) (are_all_apart (tags_at nodes n) (map (λ m. m.node) (members_of k))) e

    set-apart : (k : Kind) (ms : Bor (List Member)) → is_set (tags_at nodes n) k ≡ true → members_of k ≡ ms.now
        → AreAllApart nodes ms.now
    set-apart k ms e same =
        subst (AreAllApart nodes) same (all-apart (members_of k) (is_set-parts k e).1)

    pub set_members-apart : (i j : ℕ) (k : Kind) (ms : Bor (List Member))
        → k ≡ kind.Wrapped (wrapper.ImplicitList 0x31) j
        → keeps_set (tags_at nodes n) nodes (in_set k) ≡ true → HasInside nodes j (inside.Members ms)
        → AreAllApart nodes ms.now
    set_members-apart i j k ms e keeps has = by_inside has
      where
        there : node_holds (λ node. is_set (tags_at nodes n) node.kind) (slice_get nodes j) ≡ true
        there = subst (λ l. keeps_set (tags_at nodes n) nodes (in_set l) ≡ true) e keeps

        of_node : (node : Node) → slice_get nodes j ≡ Some node → is_set (tags_at nodes n) node.kind ≡ true
        of_node node is = subst (λ o. node_holds (λ l. is_set (tags_at nodes n) l.kind) o ≡ true) is there

        by_inside : HasInside nodes j (inside.Members ms) → AreAllApart nodes ms.now
        by_inside (HasInside.other _ l node _ y is same less p eq) =
            let none = sequence-content node.kind (is_set-parts node.kind (of_node node is)).0 in
            let wrong : Some l ≡ None = sym same ∙ none in
            absurd (cc)
        by_inside (HasInside.here _ node _ is none eq) =
            set-apart node.kind ms (of_node node is)
            (sequence-members node.kind ms (is_set-parts node.kind (of_node node is)).0 eq)

  -- ---- tags in place of others

  in_tag-at : (n i : ℕ) → IsInTag nodes i → is_in_tag nodes n i ≡ true
  in_tag-at zero i h = refl
  in_tag-at (suc n) i (IsInTag.other _ j node is same p) =
      subst
      (λ o. node_holds (λ l. is_wrapped l.kind || index_holds (is_in_tag nodes n) (same_type l.kind)) o ≡ true)
      (sym is)
      (or-second (is_wrapped node.kind) _
      (subst (λ o. index_holds (is_in_tag nodes n) o ≡ true) (sym same) (in_tag-at n j p)))
  in_tag-at (suc n) i (IsInTag.wrapped _ j node w is e) =
      subst
      (λ o. node_holds (λ l. is_wrapped l.kind || index_holds (is_in_tag nodes n) (same_type l.kind)) o ≡ true)
      (sym is) (or-first (is_wrapped node.kind) _ (ap is_wrapped e))

  pub tag-kept : (n j : ℕ) (k : Kind) → keeps_tag (is_in_tag nodes n) k ≡ true → same_type k ≡ None
      → same_content k ≡ Some j → IsInTag nodes j → ⊥
  tag-kept n j k e none other h =
      let here : not (index_holds (is_in_tag nodes n) (same_content k)) ≡ true =
      subst (λ o. (is_some o || not (index_holds (is_in_tag nodes n) (same_content k))) ≡ true) none e in
      let there : not (is_in_tag nodes n j) ≡ true =
      subst (λ o. not (index_holds (is_in_tag nodes n) o) ≡ true) other here in
      false≢true (subst (λ b. not b ≡ true) (in_tag-at n j h) there)
