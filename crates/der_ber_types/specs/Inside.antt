-- What is in an element of a type of a table.
use Rattle.std.specs.Prelude.{◌≡◌, ℕ, ◌+◌, ◌<◌, true, ◌⊎◌, List, Some, None, slice_get}
use Rattle.std.specs.Borrow.{Bor}
use Rattle.picky_der_core.specs.Tag.{is_constructed}
use Rattle.der_schema.specs.declared.node.Alternative.{Alternative}
use Rattle.der_schema.specs.declared.node.Kind.{Kind}
use Rattle.der_schema.specs.declared.node.Kind.TheVariants as kind
use Rattle.der_schema.specs.declared.node.Node.{Node}
use Rattle.der_ber_types.specs.declared.inside.Inside.{Inside}
use Rattle.der_ber_types.specs.declared.inside.Inside.TheVariants as inside
use Rattle.der_schema.specs.Tags.{same_type, same_content, own_tag}
use Rattle.der_ber_types.specs.Kinds.{inside_same, inside_here, in_parts}

-- an element of the node's type has this in it, whatever tag it has
pub data HasInside (nodes : List Node) : ℕ → Inside → Type 0 where
  other : (i j : ℕ) (node : Node) (x y : Inside) → slice_get nodes i ≡ Some node → same_content node.kind ≡ Some j
      → j < i → HasInside nodes j y → x ≡ inside_same node.kind y → HasInside nodes i x
  here : (i : ℕ) (node : Node) (x : Inside) → slice_get nodes i ≡ Some node → same_content node.kind ≡ None
      → x ≡ inside_here node.kind → HasInside nodes i x

-- no element of it has anything in it, since its node isn't in the table, or names one that isn't before it
abbrev pub IsNoInside : List Node → ℕ → Type 0
IsNoInside nodes i = (x : Inside) → HasInside nodes i x → ⊥

-- an element of any type, whose content no rule of the type changes
abbrev pub IsAny : Kind → Type 0
IsAny k = (k ≡ kind.AnyElement) ⊎ (k ≡ kind.WellFormedElement)

-- The same of a type whose elements have a tag of their own. A string in parts has the constructed one of the same
-- number, as its type is known (X.690, 8.6.4, 8.7.3.2, 8.14.4 and 8.23.3).
pub data IsInsideOwn (nodes : List Node) (i own tag : ℕ) (x : Inside) : Type 0 where
  whole : tag ≡ own → HasInside nodes i x → IsInsideOwn nodes i own tag x
  parts : (y : Inside) → is_constructed tag ≡ true → own + 0x20 ≡ tag → HasInside nodes i y → in_parts y ≡ Some x
      → IsInsideOwn nodes i own tag x

-- none has this tag
abbrev pub IsNoInsideOwn : List Node → ℕ → ℕ → ℕ → Type 0
IsNoInsideOwn nodes i own tag = (x : Inside) → IsInsideOwn nodes i own tag x → ⊥

-- an element of the node's type can have this tag; the nodes of its alternatives come before it
pub data HasTag (nodes : List Node) : ℕ → ℕ → Type 0 where
  other : (i j tag : ℕ) (node : Node) → slice_get nodes i ≡ Some node → same_type node.kind ≡ Some j → j < i
      → HasTag nodes j tag → HasTag nodes i tag
  choice : (i k tag : ℕ) (node : Node) (alternatives : Bor (List Alternative)) (a : Alternative)
      → slice_get nodes i ≡ Some node → node.kind ≡ kind.Choice alternatives
      → slice_get alternatives.now k ≡ Some a → a.node < i → HasTag nodes a.node tag → HasTag nodes i tag
  any : (i tag : ℕ) (node : Node) → slice_get nodes i ≡ Some node → IsAny node.kind → HasTag nodes i tag
  own : (i own tag : ℕ) (node : Node) (x : Inside) → slice_get nodes i ≡ Some node → same_type node.kind ≡ None
      → own_tag node.kind ≡ Some own → IsInsideOwn nodes i own tag x → HasTag nodes i tag

-- none of the alternatives has the tag
abbrev pub HasNoneTag : List Node → ℕ → List Alternative → ℕ → Type 0
HasNoneTag nodes i alternatives tag =
    (k : ℕ) (a : Alternative) → slice_get alternatives k ≡ Some a → a.node < i → HasTag nodes a.node tag → ⊥

-- none of the first k
abbrev pub NoneBefore : List Node → ℕ → List Alternative → ℕ → ℕ → Type 0
NoneBefore nodes i alternatives k tag =
    (j : ℕ) (a : Alternative) → j < k → slice_get alternatives j ≡ Some a → a.node < i → HasTag nodes a.node tag → ⊥

mutual
  -- an element of the node's type that has this tag has this in it
  pub data IsInside (nodes : List Node) : ℕ → ℕ → Inside → Type 0 where
    other : (i j tag : ℕ) (node : Node) (x : Inside) → slice_get nodes i ≡ Some node → same_type node.kind ≡ Some j
        → j < i → IsInside nodes j tag x → IsInside nodes i tag x
    choice : (i tag : ℕ) (node : Node) (alternatives : Bor (List Alternative)) (x : Inside)
        → slice_get nodes i ≡ Some node → node.kind ≡ kind.Choice alternatives
        → IsInsideOne nodes i alternatives.now tag x → IsInside nodes i tag x
    any : (i tag : ℕ) (node : Node) (x : Inside) → slice_get nodes i ≡ Some node → IsAny node.kind
        → x ≡ inside.Same → IsInside nodes i tag x
    own : (i own tag : ℕ) (node : Node) (x : Inside) → slice_get nodes i ≡ Some node → same_type node.kind ≡ None
        → own_tag node.kind ≡ Some own → IsInsideOwn nodes i own tag x → IsInside nodes i tag x

  -- one of the first alternative that has the tag: different alternatives have different tags (X.680, 29.3)
  pub data IsInsideOne (nodes : List Node) : ℕ → List Alternative → ℕ → Inside → Type 0 where
    first : (i k tag : ℕ) (alternatives : List Alternative) (a : Alternative) (x : Inside)
        → slice_get alternatives k ≡ Some a → a.node < i → NoneBefore nodes i alternatives k tag
        → IsInside nodes a.node tag x → IsInsideOne nodes i alternatives tag x
