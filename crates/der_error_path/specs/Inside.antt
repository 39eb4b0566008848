-- What may come in the content of an element, by the node of its type.
use Rattle.std.specs.Prelude.{◌≡◌, ℕ, ◌<◌, true, false, List, [], ◌∷◌, Option, None, Some}
use Rattle.std.specs.Prelude.{slice_get, if◌then◌else◌}
use Rattle.picky_der_core.specs.Wrapper.{keeps_header}
use Rattle.der_schema.specs.Kinds.{inner_of}
use Rattle.der_schema.specs.declared.node.Alternative.{Alternative}
use Rattle.der_schema.specs.declared.node.Kind.{Kind}
use Rattle.der_schema.specs.declared.node.Kind.TheVariants as kind
use Rattle.der_schema.specs.declared.node.Node.{Node}
use Rattle.der_error_path.specs.Awaited.{Awaited}
use Rattle.der_schema.specs.Begins.{can_begin}

-- in a value of this kind, if the kind itself says it
abbrev pub content_of : Kind → Option Awaited
content_of (kind.Sequence ms) = Some (Awaited.members ms.now)
content_of (kind.SequenceOf node) = Some (Awaited.items node false)
content_of (kind.SetOf node) = Some (Awaited.items node true)
content_of (kind.Wrapped wrapper node) = if keeps_header wrapper then Some (Awaited.value node) else None
content_of _ = None

-- the node of the first alternative that can begin with this tag
abbrev pub first_beginning : List Node → ℕ → List Alternative → Option ℕ
first_beginning nodes tag [] = None
first_beginning nodes tag (a ∷ others) =
    if can_begin nodes a.node tag then Some a.node else first_beginning nodes tag others

-- the node of the type inside, of an element with this tag
abbrev pub inner_with : List Node → ℕ → Kind → Option ℕ
inner_with nodes tag (kind.Choice alternatives) = first_beginning nodes tag alternatives.now
inner_with nodes tag kind = inner_of kind

-- In the content of an element with this tag, whose type is that of the node at the index, this may come. It is said by
-- the type's kind, or by that of the type inside, whose node is before; and it isn't known if neither says it.
pub data Awaits (nodes : List Node) (tag : ℕ) : ℕ → Awaited → Type 0 where
  said : (index : ℕ) (node : Node) (a : Awaited) → slice_get nodes index ≡ Some node → content_of node.kind ≡ Some a
      → Awaits nodes tag index a
  inner : (index : ℕ) (node : Node) (within : ℕ) (a : Awaited) → slice_get nodes index ≡ Some node
      → content_of node.kind ≡ None → inner_with nodes tag node.kind ≡ Some within → within < index
      → Awaits nodes tag within a → Awaits nodes tag index a
  end : (index : ℕ) (node : Node) → slice_get nodes index ≡ Some node → content_of node.kind ≡ None
      → ((within : ℕ) → inner_with nodes tag node.kind ≡ Some within → within < index → ⊥)
      → Awaits nodes tag index Awaited.unknown
  no_node : (index : ℕ) → slice_get nodes index ≡ None → Awaits nodes tag index Awaited.unknown

-- in an element that has a node or none
abbrev pub AwaitsInNode : List Node → ℕ → Option ℕ → Awaited → Type 0
AwaitsInNode nodes tag (Some index) a = Awaits nodes tag index a
AwaitsInNode nodes tag None a = a ≡ Awaited.unknown
