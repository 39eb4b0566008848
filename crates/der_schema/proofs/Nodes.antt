-- The types of the nodes of a table, each from those of the nodes before it.
use Rattle.std.proofs.Common.{◌≡◌, ℕ, suc, ◌+◌, ◌<◌, ◌≤◌, List, [], ◌∷◌, ◌++◌, length, take, drop}
use Rattle.std.proofs.Common.{refl, sym, ap, ◌∙◌, arith, length-append, take-append-drop, length-take-le}
use Rattle.std.proofs.Common.{drop-cons}
use Rattle.std.proofs.Math.ListN.{get_or-eq_default}
use Rattle.std.proofs.Math.Seq.{get_or-append_seam}
use Rattle.std.proofs.lemmas.List.{get_or_append_left}
use Rattle.std.proofs.lemmas.Option.{get_or_from_slice_get, slice_get_within}
use Rattle.std.specs.Prelude.{Some, slice_get}
use Rattle.der_types.specs.Notation.{Notation, Alternatives}
use Rattle.der_schema.specs.NotationOf.{type_at, type_from, types_after, notation_of}
use Rattle.der_schema.specs.declared.node.Node.{Node}

abbrev nothing : Notation
nothing = Notation.choice Alternatives.none

abbrev then : List Notation → Node → List Notation
then types node = types ++ (type_from types node.kind ∷ [])

pub length_types : (types : List Notation) (nodes : List Node)
    → length (types_after types nodes) ≡ length types + length nodes
length_types types [] = omega arith
length_types types (n ∷ ns) =
    omega (arith, length_types (then types n) ns, length-append types (type_from types n.kind ∷ []))

-- those that are there stay
kept : (types : List Notation) (nodes : List Node) (i : ℕ) → i < length types
    → type_at (types_after types nodes) i ≡ type_at types i
kept types [] i h = refl
kept types (n ∷ ns) i h =
    kept (then types n) ns i (omega (arith, length-append types (type_from types n.kind ∷ [])))
    ∙ get_or_append_left types (type_from types n.kind ∷ []) nothing i h

after_both : (types : List Notation) (xs ys : List Node)
    → types_after types (xs ++ ys) ≡ types_after (types_after types xs) ys
after_both types [] ys = refl
after_both types (x ∷ xs) ys = after_both (then types x) xs ys

abbrev pub before : List Node → ℕ → List Notation
before nodes i = types_after [] (take i nodes)

module _ (nodes : List Node) (i : ℕ) (node : Node) (h : slice_get nodes i ≡ Some node) where
  split : nodes ≡ take i nodes ++ (node ∷ drop (suc i) nodes)
  split = sym (take-append-drop i nodes)
      ∙ ap (λ l. take i nodes ++ l) (drop-cons nodes i node (slice_get_within nodes i node h))
      ∙ ap (λ n. take i nodes ++ (n ∷ drop (suc i) nodes)) (get_or_from_slice_get nodes i node node h)

  length_before : length (before nodes i) ≡ i
  length_before =
      let within : i < length nodes = slice_get_within nodes i node h in
      omega (arith, length_types [] (take i nodes), length-take-le i nodes (omega arith))

  all : types_after [] nodes ≡ types_after (before nodes i) (node ∷ drop (suc i) nodes)
  all = ap (types_after []) split ∙ after_both [] (take i nodes) (node ∷ drop (suc i) nodes)

  -- the type of the node
  pub one_node : notation_of nodes i ≡ type_from (before nodes i) node.kind
  one_node =
      let t : Notation = type_from (before nodes i) node.kind in
      ap (λ types. type_at types i) all
      ∙ kept (then (before nodes i) node) (drop (suc i) nodes) i
      (omega (arith, length_before, length-append (before nodes i) (t ∷ [])))
      ∙ ap (λ k. type_at (then (before nodes i) node) k) (sym length_before)
      ∙ get_or-append_seam (before nodes i) t [] nothing

  -- those of the nodes that it may name
  pub earlier : (j : ℕ) → j < i → type_at (before nodes i) j ≡ notation_of nodes j
  earlier j l = sym (ap (λ types. type_at types j) all
      ∙ kept (before nodes i) (node ∷ drop (suc i) nodes) j (omega (arith, length_before)))

  pub not_earlier : (j : ℕ) → i ≤ j → type_at (before nodes i) j ≡ nothing
  not_earlier j l = get_or-eq_default (before nodes i) nothing (omega (arith, length_before))

pub past_end : (nodes : List Node) (i : ℕ) → length nodes ≤ i → notation_of nodes i ≡ nothing
past_end nodes i l = get_or-eq_default (types_after [] nodes) nothing (omega (arith, length_types [] nodes))
