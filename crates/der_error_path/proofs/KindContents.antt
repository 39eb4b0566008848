-- Which contents values of a node's type can have, by the kind of the node.
use Rattle.std.proofs.Common.{◌≡◌, ℕ, ◌<◌, ◌≤◌, Bool, true, false, List, inl, inr, refl, sym, ap, ◌∙◌, rules, tests}
use Rattle.std.proofs.lemmas.Option.{slice_get_cases, none-some}
use Rattle.std.specs.Prelude.{None, Some, slice_get, nat_lt, if◌then◌else◌}
use Rattle.der_schema.specs.NotationOf.{type_at, type_from, notation_of}
use Rattle.der_schema.specs.declared.node.Kind.{Kind}
use Rattle.der_schema.specs.declared.node.Kind.TheVariants as kind
use Rattle.der_schema.specs.declared.node.Node.{Node}
use Rattle.der_error_path.specs.Contents.{can_have, content_node, kind_or_inner, type_can_have}
use Rattle.der_schema.proofs.Nodes.{before, one_node, earlier, not_earlier, past_end}

pub no_node : (nodes : List Node) (i : ℕ) (s : List ℕ) → slice_get nodes i ≡ None → can_have nodes i s ≡ true
unfolding can_have
no_node nodes i s e =
    elim (slice_get_cases nodes i).1 [
      | inl w ↦ absurd (none-some w.0 (sym e ∙ w.2))
      | inr w ↦ ap (type_can_have s) (past_end nodes i w.0)
    ]

module _ (nodes : List Node) (i : ℕ) (node : Node) (h : slice_get nodes i ≡ Some node) (s : List ℕ) where
  inner : (j : ℕ) → type_can_have s (type_at (before nodes i) j) ≡ (if nat_lt j i then can_have nodes j s else true)
  unfolding can_have
  inner j = by_order (nat_lt j i) refl
    where
      by_order : (b : Bool) → nat_lt j i ≡ b → type_can_have s (type_at (before nodes i) j)
          ≡ (if b then type_can_have s (notation_of nodes j) else true)
      by_order true e =
          let l : j < i = search (rules, tests) in
          ap (type_can_have s) (earlier nodes i node h j l)
      by_order false e =
          let l : i ≤ j = search (rules, tests) in
          ap (type_can_have s) (not_earlier nodes i node h j l)

  by_kind : (k : Kind) → type_can_have s (type_from (before nodes i) k) ≡ kind_or_inner nodes i s k (content_node k)
  by_kind (kind.Reference j) = inner j
  by_kind kind.Boolean = refl
  by_kind kind.Integer = refl
  by_kind (kind.NamedInteger items) = refl
  by_kind (kind.Unsigned bits) = refl
  by_kind (kind.Signed bits) = refl
  by_kind (kind.Enumerated items) = refl
  by_kind (kind.ExtensibleEnumerated items) = refl
  by_kind kind.BitString = refl
  by_kind (kind.NamedBits items) = refl
  by_kind kind.OctetString = refl
  by_kind kind.Null = refl
  by_kind kind.ObjectIdentifier = refl
  by_kind kind.RelativeOid = refl
  by_kind kind.Utf8String = refl
  by_kind kind.Character = refl
  by_kind (kind.RestrictedString own) = refl
  by_kind kind.GeneralizedTime = refl
  by_kind kind.UtcTime = refl
  by_kind kind.LaterTime = refl
  by_kind (kind.AnyContent own) = refl
  by_kind kind.AnyElement = refl
  by_kind kind.WellFormedElement = refl
  by_kind (kind.Sequence members) = refl
  by_kind (kind.Choice ts) = refl
  by_kind (kind.SequenceOf j) = refl
  by_kind (kind.SetOf j) = refl
  by_kind (kind.Wrapped wrapper j) = refl
  by_kind (kind.ContentUnder own j) = inner j
  by_kind (kind.InRange least most j) = inner j
  by_kind (kind.AtLeast least j) = inner j
  by_kind (kind.AtMost most j) = inner j
  by_kind (kind.Outside least most j) = inner j
  by_kind (kind.Sized least most j) = inner j
  by_kind (kind.Permitted ranges j) = inner j

  pub node_has : can_have nodes i s ≡ kind_or_inner nodes i s node.kind (content_node node.kind)
  unfolding can_have
  node_has = ap (type_can_have s) (one_node nodes i node h) ∙ by_kind node.kind
