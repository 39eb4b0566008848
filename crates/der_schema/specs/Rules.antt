-- Whether a table keeps the rules by which elements are distinguished: those of tags, and of defaults. The clauses are
-- those of X.680.
use Rattle.std.specs.Prelude.{ℕ, zero, suc, pos, Bool, true, false, not, ◌&&◌, ◌||◌, List, [], ◌∷◌, length, map}
use Rattle.std.specs.Prelude.{is_some, Option, Some, None, slice_get, nat_lt, ◌==◌, if◌then◌else◌}
use Rattle.std.specs.List.{list_all}
use Rattle.picky_der_core.specs.declared.asn1.wrapper.Wrapper.TheVariants as wrapper
use Rattle.der_schema.specs.declared.node.DefaultValue.{DefaultValue}
use Rattle.der_schema.specs.declared.node.DefaultValue.TheVariants as value
use Rattle.der_schema.specs.declared.node.Kind.{Kind}
use Rattle.der_schema.specs.declared.node.Kind.TheVariants as kind
use Rattle.der_schema.specs.declared.node.Member.{Member}
use Rattle.der_schema.specs.declared.node.Node.{Node}
use Rattle.der_schema.specs.declared.node.Presence.{Presence}
use Rattle.der_schema.specs.declared.node.Presence.TheVariants as presence
use Rattle.der_schema.specs.Tags.{alternatives_of, are_apart, joined, same_content, same_type, tags_at}

-- ---- different tags

-- no two of the nodes have a tag in common, as alternatives (29.3) and the members of a SET (27.3)
abbrev pub are_all_apart : (ℕ → Option (List ℕ)) → List ℕ → Bool
are_all_apart tags [] = true
are_all_apart tags (i ∷ others) = list_all (λ j. are_apart (tags i) (tags j)) others && are_all_apart tags others

abbrev pub members_of : Kind → List Member
members_of (kind.Sequence members) = members.now
members_of _ = []

abbrev pub is_required : Presence → Bool
is_required presence.Required = true
is_required _ = false

-- the tags of the next element
abbrev pub next_tags : (ℕ → Option (List ℕ)) → List Member → Option (List ℕ)
next_tags tags [] = Some []
next_tags tags (m ∷ ms) = joined (tags m.node) (if is_required m.presence then Some [] else next_tags tags ms)

-- a member that may be absent has other tags than what may be next then (25.6)
abbrev pub are_members_apart : (ℕ → Option (List ℕ)) → List Member → Bool
are_members_apart tags [] = true
are_members_apart tags (m ∷ ms) =
    (is_required m.presence || are_apart (tags m.node) (next_tags tags ms)) && are_members_apart tags ms

-- ---- tags in place of others (31.2.7)

abbrev pub is_wrapped : Kind → Bool
is_wrapped (kind.Wrapped w i) = true
is_wrapped _ = false

abbrev pub node_holds : (Node → Bool) → Option Node → Bool
node_holds test None = false
node_holds test (Some node) = test node

abbrev pub index_holds : (ℕ → Bool) → Option ℕ → Bool
index_holds test None = false
index_holds test (Some i) = test i

-- elements of the node's type are others in a tag or a string, or more nodes than so many are named one by another
abbrev pub is_in_tag : List Node → ℕ → ℕ → Bool
is_in_tag nodes zero i = true
is_in_tag nodes (suc n) i =
    node_holds (λ node. is_wrapped node.kind || index_holds (is_in_tag nodes n) (same_type node.kind))
    (slice_get nodes i)

-- the type under a tag in place of its own isn't in a tag or a string
abbrev pub keeps_tag : (ℕ → Bool) → Kind → Bool
keeps_tag in_tag k = is_some (same_type k) || not (index_holds in_tag (same_content k))

-- ---- SET

abbrev pub in_set : Kind → Option ℕ
in_set (kind.Wrapped (wrapper.ImplicitList tag) i) = if tag == 0x31 then Some i else None
in_set _ = None

abbrev pub is_sequence : Kind → Bool
is_sequence (kind.Sequence members) = true
is_sequence _ = false

-- what is under its tag is a list of members with different tags (27.3)
abbrev pub is_set : (ℕ → Option (List ℕ)) → Kind → Bool
is_set tags k = is_sequence k && are_all_apart tags (map (λ m. m.node) (members_of k))

abbrev pub keeps_set : (ℕ → Option (List ℕ)) → List Node → Option ℕ → Bool
keeps_set tags nodes None = true
keeps_set tags nodes (Some i) = node_holds (λ node. is_set tags node.kind) (slice_get nodes i)

-- ---- defaults (25.1)

-- a type whose values are written by their content alone and that has this one: a BOOLEAN, or an INTEGER with names
abbrev pub has_value : DefaultValue → Kind → Bool
has_value value.True kind.Boolean = true
has_value value.False kind.Boolean = true
has_value (value.Number (pos n)) (kind.NamedInteger items) = nat_lt n 0x80
has_value _ _ = false

-- one of numbers
abbrev pub is_integer : Kind → Bool
is_integer kind.Integer = true
is_integer (kind.Unsigned bits) = true
is_integer (kind.Signed bits) = true
is_integer _ = false

-- the type that a name is of
abbrev pub named_type : Kind → Option ℕ
named_type (kind.Reference i) = Some i
named_type _ = None

-- the type in an explicit tag
abbrev pub in_explicit : Kind → Option ℕ
in_explicit (kind.Wrapped (wrapper.Explicit number) i) = Some i
in_explicit (kind.Wrapped (wrapper.Application number) i) = Some i
in_explicit _ = None

-- the type with a tag in place of its own
abbrev pub in_implicit : Kind → Option ℕ
in_implicit (kind.Wrapped (wrapper.Implicit number) i) = Some i
in_implicit _ = None

-- The type of the node at an index is one of these types, or another one of theirs by `same`. In these three, more
-- nodes than so many aren't looked at one by another.
abbrev pub is_simple : (Kind → Bool) → (Kind → Option ℕ) → List Node → ℕ → ℕ → Bool
is_simple leaf same nodes zero i = false
is_simple leaf same nodes (suc n) i =
    node_holds (λ node. leaf node.kind || index_holds (is_simple leaf same nodes n) (same node.kind))
    (slice_get nodes i)

-- or is one in tags
abbrev pub is_tagged : (Kind → Bool) → (Kind → Option ℕ) → List Node → ℕ → ℕ → Bool
is_tagged leaf same nodes zero i = false
is_tagged leaf same nodes (suc n) i =
    is_simple leaf same nodes (suc n) i
    || node_holds
    (λ node. index_holds (is_tagged leaf same nodes n) (same node.kind)
    || (index_holds (is_tagged leaf same nodes n) (in_explicit node.kind)
    || index_holds (is_simple leaf same nodes n) (in_implicit node.kind)))
    (slice_get nodes i)

-- a default is one of a type whose values are known by their content
abbrev pub keeps_default : List Node → ℕ → ℕ → Presence → Bool
keeps_default nodes n i (presence.Default v) = is_tagged (has_value v) named_type nodes n i
keeps_default nodes n i (presence.DefaultOf (value.Number (pos least))) = is_tagged is_integer same_type nodes n i
keeps_default nodes n i (presence.DefaultOf _) = false
keeps_default nodes n i _ = true

-- ---- a table

abbrev pub keeps_rules_at : List Node → ℕ → Kind → Bool
keeps_rules_at nodes n k =
    are_all_apart (tags_at nodes n) (map (λ a. a.node) (alternatives_of k))
    && (are_members_apart (tags_at nodes n) (members_of k)
    && (list_all (λ m. keeps_default nodes n m.node m.presence) (members_of k)
    && (keeps_tag (is_in_tag nodes n) k && keeps_set (tags_at nodes n) nodes (in_set k))))

-- each node names nodes before it, so that no more than all are named one by another
abbrev pub keeps_rules : List Node → Bool
keeps_rules nodes = let n : ℕ = length nodes in list_all (λ node. keeps_rules_at nodes n node.kind) nodes
