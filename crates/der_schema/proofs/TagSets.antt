-- What is in the set of tags of a type, and that no tag is in two sets that are apart.
use Rattle.std.proofs.Common.{◌≡◌, ℕ, zero, suc, Bool, true, false, not, ◌||◌, List, [], ◌∷◌, ◌++◌}
use Rattle.std.proofs.Common.{Option, Some, None, slice_get, inl, inr, refl, sym, subst}
use Rattle.std.proofs.lemmas.Bool.{false≢true}
use Rattle.std.proofs.lemmas.Bool.Decides.{eqb_tells}
use Rattle.std.specs.Prelude.{◌==◌}
use Rattle.picky_der_core.specs.Shape.{are_disjoint, contains}
use Rattle.der_types.specs.CharacterStringLaws.{both}
use Rattle.der_schema.specs.declared.node.Alternative.{Alternative}
use Rattle.der_schema.specs.declared.node.Kind.{Kind}
use Rattle.der_schema.specs.declared.node.Node.{Node}
use Rattle.der_schema.specs.Tags.{alternatives_of, are_apart, has_tag, joined, own_tag, same_type, tags_at}
use Rattle.der_schema.specs.Tags.{tags_of_alternatives, tags_of_any, tags_of_kind, tags_of_node, tags_of_own}
use Rattle.der_schema.specs.Tags.{tags_of_same}

-- ---- sets of tags

pub or-first : (a b : Bool) → a ≡ true → (a || b) ≡ true
or-first a b h = subst (λ c. (c || b) ≡ true) (sym h) refl

pub or-second : (a b : Bool) → b ≡ true → (a || b) ≡ true
or-second true b h = refl
or-second false b h = h

or-later : (a b c : Bool) → (b ≡ true → c ≡ true) → (a || b) ≡ true → (a || c) ≡ true
or-later true b c f h = refl
or-later false b c f h = f h

contains-left : (xs ys : List ℕ) (tag : ℕ) → contains xs tag ≡ true → contains (xs ++ ys) tag ≡ true
contains-left [] ys tag h = absurd (false≢true h)
contains-left (x ∷ xs) ys tag h =
    or-later (tag == x) (contains xs tag) (contains (xs ++ ys) tag) (contains-left xs ys tag) h

contains-right : (xs ys : List ℕ) (tag : ℕ) → contains ys tag ≡ true → contains (xs ++ ys) tag ≡ true
contains-right [] ys tag h = h
contains-right (x ∷ xs) ys tag h = or-second (tag == x) (contains (xs ++ ys) tag) (contains-right xs ys tag h)

pub has-left : (a b : Option (List ℕ)) (tag : ℕ) → has_tag a tag ≡ true → has_tag (joined a b) tag ≡ true
has-left (Some xs) (Some ys) tag h = contains-left xs ys tag h
has-left (Some xs) None tag h = refl
has-left None b tag h = refl

pub has-right : (a b : Option (List ℕ)) (tag : ℕ) → has_tag b tag ≡ true → has_tag (joined a b) tag ≡ true
has-right (Some xs) (Some ys) tag h = contains-right xs ys tag h
has-right (Some xs) None tag h = refl
has-right None b tag h = refl

disjoint : (xs ys : List ℕ) (tag : ℕ) → are_disjoint xs ys ≡ true → contains xs tag ≡ true → contains ys tag ≡ true → ⊥
disjoint [] ys tag e h k = false≢true h
disjoint (x ∷ xs) ys tag e h k =
    let parts = both (not (contains ys x)) (are_disjoint xs ys) e in
    elim (eqb_tells tag x) [
      | inl same ↦
          let there : contains ys x ≡ true = subst (λ n. contains ys n ≡ true) same.1 k in
          false≢true (subst (λ b. not b ≡ true) there parts.0)
      | inr other ↦
          disjoint xs ys tag parts.1 (subst (λ b. (b || contains xs tag) ≡ true) other.0 h) k
    ]

pub none-both : (a b : Option (List ℕ)) (tag : ℕ) → are_apart a b ≡ true → has_tag a tag ≡ true → has_tag b tag ≡ true
    → ⊥
none-both (Some xs) (Some ys) tag e h k = disjoint xs ys tag e h k
none-both (Some []) None tag e h k = false≢true h
none-both (Some (x ∷ xs)) None tag e h k = false≢true e
none-both None (Some []) tag e h k = false≢true k
none-both None (Some (y ∷ ys)) tag e h k = false≢true e
none-both None None tag e h k = false≢true e

-- ---- the tags of a kind, where those of the nodes that it names are known

module _ (tags : ℕ → Option (List ℕ)) (tag : ℕ) where
  pub of_alternative : (cs : List Alternative) (k : ℕ) (a : Alternative) → slice_get cs k ≡ Some a
      → has_tag (tags a.node) tag ≡ true → has_tag (tags_of_alternatives tags cs) tag ≡ true
  of_alternative [] k a is h = absurd (cc)
  of_alternative (c ∷ cs) zero a is h =
      let same : a ≡ c = cc in
      has-left (tags c.node) (tags_of_alternatives tags cs) tag
      (subst (λ (d : Alternative). has_tag (tags d.node) tag ≡ true) same h)
  of_alternative (c ∷ cs) (suc k) a is h =
      has-right (tags c.node) (tags_of_alternatives tags cs) tag (of_alternative cs k a is h)

  module _ (k : Kind) where
    abbrev others : Option (List ℕ)
    others = joined (tags_of_any k) (tags_of_own (own_tag k))

    pub kind-alternatives : has_tag (tags_of_alternatives tags (alternatives_of k)) tag ≡ true
        → has_tag (tags_of_kind tags k) tag ≡ true
    kind-alternatives h =
        has-left (tags_of_alternatives tags (alternatives_of k)) (joined (tags_of_same tags (same_type k)) others) tag h

    after_alternatives : has_tag (joined (tags_of_same tags (same_type k)) others) tag ≡ true
        → has_tag (tags_of_kind tags k) tag ≡ true
    after_alternatives h =
        has-right (tags_of_alternatives tags (alternatives_of k))
        (joined (tags_of_same tags (same_type k)) others) tag h

    pub kind-same_type : (j : ℕ) → same_type k ≡ Some j → has_tag (tags j) tag ≡ true
        → has_tag (tags_of_kind tags k) tag ≡ true
    kind-same_type j e h =
        after_alternatives (has-left (tags_of_same tags (same_type k)) others tag
        (subst (λ o. has_tag (tags_of_same tags o) tag ≡ true) (sym e) h))

    after_same : has_tag others tag ≡ true → has_tag (tags_of_kind tags k) tag ≡ true
    after_same h = after_alternatives (has-right (tags_of_same tags (same_type k)) others tag h)

    pub kind-any : tags_of_any k ≡ None → has_tag (tags_of_kind tags k) tag ≡ true
    kind-any each =
        after_same (has-left (tags_of_any k) (tags_of_own (own_tag k)) tag
        (subst (λ o. has_tag o tag ≡ true) (sym each) refl))

    pub kind-own : (own : ℕ) → own_tag k ≡ Some own → has_tag (tags_of_own (Some own)) tag ≡ true
        → has_tag (tags_of_kind tags k) tag ≡ true
    kind-own own e h =
        after_same (has-right (tags_of_any k) (tags_of_own (own_tag k)) tag
        (subst (λ o. has_tag (tags_of_own o) tag ≡ true) (sym e) h))

pub node-has : (nodes : List Node) (n i tag : ℕ) (node : Node) → slice_get nodes i ≡ Some node
    → has_tag (tags_of_kind (tags_at nodes n) node.kind) tag ≡ true → has_tag (tags_at nodes (suc n) i) tag ≡ true
node-has nodes n i tag node is h = subst (λ o. has_tag (tags_of_node (tags_at nodes n) o) tag ≡ true) (sym is) h
