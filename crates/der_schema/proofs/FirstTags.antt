-- With which tags values of a node's type begin, by the kind of the node.
use Rattle.std.proofs.Common.{◌≡◌, ℕ, ◌<◌, ◌≤◌, Bool, true, false, not, ◌&&◌, ◌||◌, List, [], ◌∷◌}
use Rattle.std.proofs.Common.{inl, inr, refl, sym, ap, ◌∙◌, rules, tests}
use Rattle.std.proofs.Math.Bool.{or-false, and-false}
use Rattle.std.proofs.lemmas.List.Folds.{list_any-append}
use Rattle.std.proofs.lemmas.Option.{slice_get_cases, none-some}
use Rattle.std.specs.Prelude.{None, Some, slice_get, ◌==◌, nat_lt, if◌then◌else◌}
use Rattle.picky_der_core.specs.FirstLaws.{contains-tags_below}
use Rattle.picky_der_core.specs.Shape.{contains, firsts, firsts_of, tag_with_number}
use Rattle.picky_der_core.specs.Tag.{number_of, IsTagNumber, is_tag_number, is_constructed}
use Rattle.der_types.specs.Notation.{Notation, shape_of, shapes_of}
use Rattle.der_types.specs.PrimitiveForm.{primitive_form}
use Rattle.der_schema.specs.NotationOf.{type_at, type_from, alternatives_from, notation_of}
use Rattle.der_schema.specs.declared.node.Alternative.{Alternative}
use Rattle.der_schema.specs.declared.node.Kind.{Kind}
use Rattle.der_schema.specs.declared.node.Kind.TheVariants as kind
use Rattle.der_schema.specs.declared.node.Node.{Node}
use Rattle.der_schema.specs.Begins.{type_begins, can_begin, one_begins, kind_begins}
use Rattle.der_schema.proofs.Nodes.{before, one_node, earlier, not_earlier, past_end}

pub long_tag : (nodes : List Node) (i tag : ℕ) → is_tag_number (number_of tag) ≡ false → can_begin nodes i tag ≡ false
unfolding can_begin
long_tag nodes i tag e = ap (λ b. b && contains (firsts (shape_of (notation_of nodes i))) tag) e

pub no_node : (nodes : List Node) (i tag : ℕ) → slice_get nodes i ≡ None → can_begin nodes i tag ≡ false
unfolding can_begin
no_node nodes i tag e =
    elim (slice_get_cases nodes i).1 [
      | inl w ↦ absurd (none-some w.0 (sym e ∙ w.2))
      | inr w ↦ ap (λ t. type_begins t tag) (past_end nodes i w.0) ∙ and-false (is_tag_number (number_of tag))
    ]

module _ (tag : ℕ) (ok : is_tag_number (number_of tag) ≡ true) where
  other_tag : (own : ℕ) → is_tag_number (number_of own) ≡ false → (b : Bool) → (tag == own) ≡ b → b ≡ false
  other_tag own e false same = refl
  other_tag own e true same =
      let is : tag ≡ own = search (rules, tests) in
      let no : is_tag_number (number_of tag) ≡ false = ap (λ t. is_tag_number (number_of t)) is ∙ e in
      cc

  one_tag : (own : ℕ) → contains (tag_with_number (number_of own) own) tag ≡ (tag == own)
  one_tag own = by_number (is_tag_number (number_of own)) refl
    where
      by_number : (b : Bool) → is_tag_number (number_of own) ≡ b
          → contains (if b then own ∷ [] else []) tag ≡ (tag == own)
      by_number true e = or-false (tag == own)
      by_number false e = sym (other_tag own e (tag == own) refl)

  own_primitive : (own : ℕ) (b : Bool) → (tag == own) ≡ b → is_constructed own ≡ false
      → b ≡ (b && not (is_constructed tag))
  own_primitive own false same e = refl
  own_primitive own true same e =
      let is : tag ≡ own = search (rules, tests) in
      sym (ap not (ap is_constructed is ∙ e))

  own_constructed : (own : ℕ) (b : Bool) → (tag == own) ≡ b → is_constructed own ≡ true
      → false ≡ (b && not (is_constructed tag))
  own_constructed own false same e = refl
  own_constructed own true same e =
      let is : tag ≡ own = search (rules, tests) in
      sym (ap not (ap is_constructed is ∙ e))

  content_under : (own : ℕ) → contains (tag_with_number (number_of (primitive_form own)) (primitive_form own)) tag
      ≡ ((tag == own) && not (is_constructed tag))
  content_under own = by_form (is_constructed own) refl
    where
      by_form : (b : Bool) → is_constructed own ≡ b
          → contains (tag_with_number (number_of (if b then 0x1F else own)) (if b then 0x1F else own)) tag
          ≡ ((tag == own) && not (is_constructed tag))
      by_form true e = own_constructed own (tag == own) refl e
      by_form false e = one_tag own ∙ own_primitive own (tag == own) refl e

  module _ (nodes : List Node) (i : ℕ) (node : Node) (h : slice_get nodes i ≡ Some node) where
    inner : (j : ℕ) → contains (firsts (shape_of (type_at (before nodes i) j))) tag
        ≡ (nat_lt j i && can_begin nodes j tag)
    unfolding can_begin
    inner j = by_order (nat_lt j i) refl
      where
        by_order : (b : Bool) → nat_lt j i ≡ b → contains (firsts (shape_of (type_at (before nodes i) j))) tag
            ≡ (b && type_begins (notation_of nodes j) tag)
        by_order true e =
            let l : j < i = search (rules, tests) in
            ap (λ t. contains (firsts (shape_of t)) tag) (earlier nodes i node h j l)
            ∙ sym (ap (λ b. b && contains (firsts (shape_of (notation_of nodes j))) tag) ok)
        by_order false e =
            let l : i ≤ j = search (rules, tests) in
            ap (λ t. contains (firsts (shape_of t)) tag) (not_earlier nodes i node h j l)

    alternatives : (others : List Alternative)
        → contains (firsts_of (shapes_of (alternatives_from (before nodes i) others))) tag
        ≡ one_begins nodes i tag others
    alternatives [] = refl
    alternatives (a ∷ more) =
        let one : List ℕ = firsts (shape_of (type_at (before nodes i) a.node)) in
        let others : List ℕ = firsts_of (shapes_of (alternatives_from (before nodes i) more)) in
        list_any-append (λ y. tag == y) one others ∙ ap (λ b. b || contains others tag) (inner a.node)
        ∙ ap (λ b. (nat_lt a.node i && can_begin nodes a.node tag) || b) (alternatives more)

    module _ (small : tag < 256) where
      any : contains (firsts (shape_of Notation.any-element)) tag ≡ true
      any = let number : IsTagNumber (number_of tag) = search (rules, tests) in contains-tags_below tag 256 small number

      by_kind : (k : Kind) → contains (firsts (shape_of (type_from (before nodes i) k))) tag
          ≡ kind_begins nodes i tag k
      by_kind (kind.Reference j) = inner j
      by_kind kind.Boolean = one_tag 0x01
      by_kind kind.Integer = one_tag 0x02
      by_kind (kind.NamedInteger items) = one_tag 0x02
      by_kind (kind.Unsigned bits) = one_tag 0x02
      by_kind (kind.Signed bits) = one_tag 0x02
      by_kind (kind.Enumerated items) = one_tag 0x0A
      by_kind (kind.ExtensibleEnumerated items) = one_tag 0x0A
      by_kind kind.BitString = one_tag 0x03
      by_kind (kind.NamedBits items) = one_tag 0x03
      by_kind kind.OctetString = one_tag 0x04
      by_kind kind.Null = one_tag 0x05
      by_kind kind.ObjectIdentifier = one_tag 0x06
      by_kind kind.RelativeOid = one_tag 0x0D
      by_kind kind.Utf8String = one_tag 0x0C
      by_kind kind.Character = one_tag 0x0C
      by_kind (kind.RestrictedString own) = one_tag own
      by_kind kind.GeneralizedTime = one_tag 0x18
      by_kind kind.UtcTime = one_tag 0x17
      by_kind kind.LaterTime = one_tag 0x18
      by_kind (kind.AnyContent own) = one_tag own
      by_kind kind.AnyElement = any
      by_kind kind.WellFormedElement = any
      by_kind (kind.Sequence members) = one_tag 0x30
      by_kind (kind.Choice ts) = alternatives ts.now
      by_kind (kind.SequenceOf j) = one_tag 0x30
      by_kind (kind.SetOf j) = one_tag 0x31
      by_kind (kind.Wrapped wrapper j) = refl
      by_kind (kind.ContentUnder own j) = content_under own
      by_kind (kind.InRange least most j) = inner j
      by_kind (kind.AtLeast least j) = inner j
      by_kind (kind.AtMost most j) = inner j
      by_kind (kind.Outside least most j) = inner j
      by_kind (kind.Sized least most j) = inner j
      by_kind (kind.Permitted ranges j) = inner j

      pub node_begins : can_begin nodes i tag ≡ kind_begins nodes i tag node.kind
      unfolding can_begin
      node_begins = ap (λ t. type_begins t tag) (one_node nodes i node h)
          ∙ ap (λ b. b && contains (firsts (shape_of (type_from (before nodes i) node.kind))) tag) ok
          ∙ by_kind node.kind
