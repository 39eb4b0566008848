-- Tables of types that keep the rules by which elements are distinguished.
use Rattle.std.specs.Prelude.{◌≡◌, ◌≢◌, ℕ, ◌<◌, ◌⊎◌, List, [], ◌∷◌, Some, None, slice_get, ⊤}
use Rattle.std.specs.Borrow.{Bor}
use Rattle.std.specs.List.{AllByRecursion}
use Rattle.picky_der_core.specs.declared.asn1.wrapper.Wrapper.{Wrapper}
use Rattle.picky_der_core.specs.declared.asn1.wrapper.Wrapper.TheVariants as wrapper
use Rattle.picky_der_core.specs.Encoding.{der}
use Rattle.picky_der_core.specs.Readable.{IsReadable}
use Rattle.picky_der_core.specs.Tree.{Tree}
use Rattle.der_types.specs.Denotes.{Denotes}
use Rattle.der_types.specs.Notation as asn1
use Rattle.der_schema.specs.NotationOf.{member_with, notation_of}
use Rattle.der_schema.specs.declared.node.Alternative.{Alternative}
use Rattle.der_schema.specs.declared.node.Kind.TheVariants as kind
use Rattle.der_schema.specs.declared.node.Member.{Member}
use Rattle.der_schema.specs.declared.node.Node.{Node}
use Rattle.der_schema.specs.declared.node.Presence.TheVariants.{Required}
use Rattle.der_ber_types.specs.declared.inside.Inside.TheVariants as inside
use Rattle.der_schema.specs.Tags.{same_type, same_content}
use Rattle.der_ber_types.specs.Inside.{HasInside, HasTag}
use Rattle.der_ber_types.specs.Values.{IsDefault}

-- ---- tags

-- no tag is one of both types
abbrev pub AreApart : List Node → ℕ → ℕ → Type 0
AreApart nodes i j = (tag : ℕ) → HasTag nodes i tag → HasTag nodes j tag → ⊥

-- different alternatives have different tags (X.680, 29.3)
abbrev pub AreAlternativesApart : List Node → ℕ → List Alternative → Type 0
AreAlternativesApart nodes i alternatives =
    (j k : ℕ) (a b : Alternative) → j < k → slice_get alternatives j ≡ Some a → slice_get alternatives k ≡ Some b
    → a.node < i → b.node < i → AreApart nodes a.node b.node

-- the next element can be of one of the members by its tag
abbrev pub CanBeNext : List Node → List Member → ℕ → Type 0
CanBeNext nodes [] tag = ⊥
CanBeNext nodes (m ∷ ms) tag = HasTag nodes m.node tag ⊎ ((m.presence ≢ Required) × CanBeNext nodes ms tag)

-- a member that may be absent has other tags than what may be next then (25.6)
abbrev pub IsApartFromNext : List Node → Member → List Member → Type 0
IsApartFromNext nodes m ms =
    m.presence ≢ Required → (tag : ℕ) → HasTag nodes m.node tag → CanBeNext nodes ms tag → ⊥

abbrev pub AreMembersApart : List Node → List Member → Type 0
AreMembersApart nodes [] = ⊤
AreMembersApart nodes (m ∷ ms) = IsApartFromNext nodes m ms × AreMembersApart nodes ms

-- different members have different tags, as those of a SET (27.3)
abbrev pub AreAllApart : List Node → List Member → Type 0
AreAllApart nodes [] = ⊤
AreAllApart nodes (m ∷ ms) = AllByRecursion (λ n. AreApart nodes m.node n.node) ms × AreAllApart nodes ms

-- ---- tags in place of others, and defaults

-- the elements of the node's type are others in a tag or a string
pub data IsInTag (nodes : List Node) : ℕ → Type 0 where
  other : (i j : ℕ) (node : Node) → slice_get nodes i ≡ Some node → same_type node.kind ≡ Some j → IsInTag nodes j
      → IsInTag nodes i
  wrapped : (i j : ℕ) (node : Node) (w : Wrapper) → slice_get nodes i ≡ Some node → node.kind ≡ kind.Wrapped w j
      → IsInTag nodes i

-- a tree is of a member that is there
abbrev pub DenotesPresent : asn1.Member → Tree → Type 0
DenotesPresent (asn1.Member.required n) t = Denotes n t
DenotesPresent (asn1.Member.optional n) t = Denotes n t
DenotesPresent (asn1.Member.defaulted value n) t = Denotes n t × (t ≢ value)

-- none of these has the DER of the value that the member has where it is absent
abbrev pub HasOtherValues : List Node → Member → Type 0
HasOtherValues nodes m =
    (t : Tree) → DenotesPresent (member_with m.presence (notation_of nodes m.node)) t → IsReadable t
    → IsDefault nodes m (der t) → ⊥

-- ---- a table

pub record IsSoundTable (nodes : List Node) : Type 0 where
  pub alternatives : (i : ℕ) (node : Node) (cs : Bor (List Alternative)) → slice_get nodes i ≡ Some node
      → node.kind ≡ kind.Choice cs → AreAlternativesApart nodes i cs.now
  pub members : (i : ℕ) (node : Node) (ms : Bor (List Member)) → slice_get nodes i ≡ Some node
      → node.kind ≡ kind.Sequence ms → AreMembersApart nodes ms.now
  pub set_members : (i j : ℕ) (node : Node) (ms : Bor (List Member)) → slice_get nodes i ≡ Some node
      → node.kind ≡ kind.Wrapped (wrapper.ImplicitList 0x31) j → HasInside nodes j (inside.Members ms)
      → AreAllApart nodes ms.now
  -- a tag in place of another is that of a type that isn't in a tag or a string
  pub implicit : (i j : ℕ) (node : Node) → slice_get nodes i ≡ Some node → same_type node.kind ≡ None
      → same_content node.kind ≡ Some j → IsInTag nodes j → ⊥
  pub defaults : (i : ℕ) (node : Node) (ms : Bor (List Member)) → slice_get nodes i ≡ Some node
      → node.kind ≡ kind.Sequence ms → AllByRecursion (HasOtherValues nodes) ms.now
