-- A table that passes the test keeps the rules by which elements are distinguished.
use Rattle.std.proofs.Common.{◌≡◌, ℕ, zero, suc, Bool, true, ◌&&◌, List, [], ◌∷◌, Some, slice_get, length, map, subst}
use Rattle.std.specs.List.{AllByRecursion, list_all}
use Rattle.der_types.specs.CharacterStringLaws.{both}
use Rattle.der_schema.specs.declared.node.Kind.{Kind}
use Rattle.der_schema.specs.declared.node.Kind.TheVariants as kind
use Rattle.der_schema.specs.declared.node.Member.{Member}
use Rattle.der_schema.specs.declared.node.Node.{Node}
use Rattle.der_schema.specs.Rules.{are_all_apart, are_members_apart, in_set, is_in_tag, keeps_default}
use Rattle.der_schema.specs.Rules.{keeps_rules_at, keeps_set, keeps_tag, members_of}
use Rattle.der_schema.specs.Tags.{alternatives_of, tags_at}
use Rattle.der_ber_types.specs.Laws.{RulesAreKept}
use Rattle.der_ber_types.specs.Tables.{HasOtherValues}
use Rattle.der_ber_types.proofs.TableDefaults.{other-values}
use Rattle.der_ber_types.proofs.TableTags.{alternatives-apart, members-apart, set_members-apart, tag-kept}

-- what the test says of one of the nodes
test-at : (test : Node → Bool) (nodes : List Node) (i : ℕ) (node : Node) → list_all test nodes ≡ true
    → slice_get nodes i ≡ Some node → test node ≡ true
test-at test [] i node e is = absurd (cc)
test-at test (n ∷ ns) zero node e is =
    let same : n ≡ node = cc in
    subst (λ m. test m ≡ true) same (both (test n) (list_all test ns) e).0
test-at test (n ∷ ns) (suc i) node e is = test-at test ns i node (both (test n) (list_all test ns) e).1 is

-- its parts, of a kind
record AreKept (nodes : List Node) (n : ℕ) (k : Kind) : Type 0 where
  pub alternatives : are_all_apart (tags_at nodes n) (map (λ a. a.node) (alternatives_of k)) ≡ true
  pub members : are_members_apart (tags_at nodes n) (members_of k) ≡ true
  pub defaults : list_all (λ m. keeps_default nodes n m.node m.presence) (members_of k) ≡ true
  pub tag : keeps_tag (is_in_tag nodes n) k ≡ true
  pub set : keeps_set (tags_at nodes n) nodes (in_set k) ≡ true

are-kept : (nodes : List Node) (n : ℕ) (k : Kind) → keeps_rules_at nodes n k ≡ true → AreKept nodes n k
are-kept nodes n k e =
    let defaults = list_all (λ (m : Member). keeps_default nodes n m.node m.presence) (members_of k) in
    let tag = keeps_tag (is_in_tag nodes n) k in
    let set = keeps_set (tags_at nodes n) nodes (in_set k) in
    let members = are_members_apart (tags_at nodes n) (members_of k) in
    let first = both (are_all_apart (tags_at nodes n) (map (λ a. a.node) (alternatives_of k)))
    (members && (defaults && (tag && set))) e in
    let second = both members (defaults && (tag && set)) first.1 in
    let third = both defaults (tag && set) second.1 in
    let fourth = both tag set third.1 in
    record { alternatives = first.0; members = second.0; defaults = third.0; tag = fourth.0; set = fourth.1 }

each-other : (nodes : List Node) (n : ℕ) (ms : List Member)
    → list_all (λ m. keeps_default nodes n m.node m.presence) ms ≡ true → AllByRecursion (HasOtherValues nodes) ms
each-other nodes n [] e = tt
each-other nodes n (m ∷ ms) e =
    let parts = both (keeps_default nodes n m.node m.presence)
    (list_all (λ m. keeps_default nodes n m.node m.presence) ms) e in (
      (λ t d r default. other-values nodes n m.node m.presence t default.value parts.0 d r default.given default.is),
      each-other nodes n ms parts.1,
    )

pub sound_table : RulesAreKept
sound_table nodes e =
    let n : ℕ = length nodes in
    let at : (i : ℕ) (node : Node) → slice_get nodes i ≡ Some node → AreKept nodes n node.kind =
    λ i node is. are-kept nodes n node.kind (test-at (λ node. keeps_rules_at nodes n node.kind) nodes i node e is) in
    let of_kind : (i : ℕ) (node : Node) (k : Kind) → slice_get nodes i ≡ Some node → node.kind ≡ k
    → AreKept nodes n k =
    λ i node k is same. subst (AreKept nodes n) same (at i node is) in
    record {
      alternatives = λ i node cs is same j k a b less p q l m.
          alternatives-apart nodes n cs.now (of_kind i node (kind.Choice cs) is same).alternatives j k a b less p q;
      members = λ i node ms is same.
          members-apart nodes n ms.now (of_kind i node (kind.Sequence ms) is same).members;
      set_members = λ i j node ms is same has.
          set_members-apart nodes n i j node.kind ms same (at i node is).set has;
      implicit = λ i j node is none other in_tag.
          tag-kept nodes n j node.kind (at i node is).tag none other in_tag;
      defaults = λ i node ms is same.
          each-other nodes n ms.now (of_kind i node (kind.Sequence ms) is same).defaults;
    }
