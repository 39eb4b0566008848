-- A table that passes the test keeps the rule of defaults.
use Rattle.std.proofs.Common.{◌≡◌, ℕ, zero, suc, ◌<◌, Bool, true, false, ◌||◌, List, [], ◌∷◌, Option, Some}
use Rattle.std.proofs.Common.{None, slice_get, pos, inl, inr, ◌⊎◌, refl, sym, ap, ◌∙◌, subst, arith}
use Rattle.std.proofs.lemmas.Bool.{false≢true, true≢false, cases_lt, le-leb, lt-ltb, ltb-true}
use Rattle.std.specs.Int.{complement_if}
use Rattle.std.specs.Int.Digits.{number_from_digits}
use Rattle.std.specs.Prelude.{if◌then◌else◌}
use Rattle.picky_der_core.specs.declared.asn1.wrapper.Wrapper.{Wrapper}
use Rattle.picky_der_core.specs.declared.asn1.wrapper.Wrapper.TheVariants as wrapper
use Rattle.picky_der_core.specs.Element.{tlv}
use Rattle.picky_der_core.specs.Encoding.{der, implicit_content}
use Rattle.picky_der_core.specs.EncodingLaws.{der-primitive, der-wrapped_present, implicit_content-plain}
use Rattle.picky_der_core.specs.EncodingLaws.{is_absent-readable}
use Rattle.picky_der_core.specs.Integer.{integer_content, integer_value, is_negative, turned_if}
use Rattle.picky_der_core.specs.IntegerLaws.{content-value, same_integer, value-content}
use Rattle.picky_der_core.specs.OpenWrappers.{wrapped_content}
use Rattle.picky_der_core.specs.Primitive.{Primitive, boolean_content, primitive_content, primitive_tag}
use Rattle.picky_der_core.specs.PrimitiveLaws.{primitive_tag_number}
use Rattle.picky_der_core.specs.Readable.{IsReadable}
use Rattle.picky_der_core.specs.Tag.{number_of, IsTagNumber}
use Rattle.picky_der_core.specs.Tree.{Tree}
use Rattle.picky_der_core.specs.Wrapper.{HasTagNumber, wrapper_tag}
use Rattle.picky_der_core.specs.WrapperLaws.{wrapper_tag_number, has_tag_number-true}
use Rattle.der_types.specs.Constraints.{is_between}
use Rattle.der_types.specs.Denotes.{Denotes, tree_number}
use Rattle.der_types.specs.Notation as asn1
use Rattle.der_types.specs.Notation.{Notation}
use Rattle.der_types.specs.NotationForms.{Value, default, default-of}
use Rattle.der_schema.proofs.Nodes.{before, earlier, not_earlier, one_node}
use Rattle.der_schema.specs.NotationOf.{member_with, notation_of, type_at, type_from, value_in}
use Rattle.der_schema.specs.Rules.{has_value, in_explicit, in_implicit, index_holds, is_integer, is_simple, is_tagged}
use Rattle.der_schema.specs.Rules.{keeps_default, named_type, node_holds}
use Rattle.der_schema.specs.Tags.{own_tag, own_wrapper_tag, same_content, same_type}
use Rattle.der_schema.specs.declared.node.DefaultValue.{DefaultValue}
use Rattle.der_schema.specs.declared.node.DefaultValue.TheVariants as value
use Rattle.der_schema.specs.declared.node.Kind.{Kind}
use Rattle.der_schema.specs.declared.node.Kind.TheVariants as kind
use Rattle.der_schema.specs.declared.node.Node.{Node}
use Rattle.der_schema.specs.declared.node.Presence.{Presence}
use Rattle.der_schema.specs.declared.node.Presence.TheVariants as presence
use Rattle.der_ber_types.specs.declared.inside.Inside.{Inside}
use Rattle.der_ber_types.specs.declared.inside.Inside.TheVariants as inside
use Rattle.der_ber_types.specs.Inside.{HasInside, IsInside, IsInsideOwn}
use Rattle.der_ber_types.specs.Kinds.{inside_here, inside_same}
use Rattle.der_ber_types.specs.Tables.{DenotesPresent}
use Rattle.der_ber_types.specs.Values.{HasDefault, IsContentOf, IsValue}
use Rattle.der_ber_types.proofs.ListDer.{no_values, present-denotes}
use Rattle.der_ber_types.proofs.ValueLemmas.{begins-alone, explicit-value, own-value}

-- ---- what a test found

either : (a b : Bool) → (a || b) ≡ true → (a ≡ true) ⊎ (b ≡ true)
either true b e = inl refl
either false b e = inr e

-- the node, of which the test holds
record IsNode (test : Node → Bool) (o : Option Node) : Type 0 where
  pub node : Node
  pub is : o ≡ Some node
  pub holds : test node ≡ true

found-node : (test : Node → Bool) (o : Option Node) → node_holds test o ≡ true → IsNode test o
found-node test None e = absurd (false≢true e)
found-node test (Some node) e = record { node = node; is = refl; holds = e }

record IsIndex (test : ℕ → Bool) (o : Option ℕ) : Type 0 where
  pub index : ℕ
  pub is : o ≡ Some index
  pub holds : test index ≡ true

found-index : (test : ℕ → Bool) (o : Option ℕ) → index_holds test o ≡ true → IsIndex test o
found-index test None e = absurd (false≢true e)
found-index test (Some i) e = record { index = i; is = refl; holds = e }

-- ---- kinds

own_wrapper : (w : Wrapper) → HasTagNumber w → own_wrapper_tag w ≡ Some (wrapper_tag w)
own_wrapper w n = ap (λ b. if b then Some (wrapper_tag w) else None) (has_tag_number-true w n)

same-content : (k : Kind) (j : ℕ) → same_type k ≡ Some j → same_content k ≡ Some j
same-content (kind.Wrapped w i) j e = absurd (cc)
same-content (kind.ContentUnder tag i) j e = absurd (cc)
same-content k j e = e

same-inside : (k : Kind) (j : ℕ) (x : Inside) → same_type k ≡ Some j → inside_same k x ≡ x
same-inside (kind.Wrapped w i) j x e = absurd (cc)
same-inside k j x e = refl

-- an explicit tag
record IsExplicit (k : Kind) (j : ℕ) : Type 0 where
  pub around : Wrapper
  pub is : k ≡ kind.Wrapped around j
  pub one : inside_here (kind.Wrapped around j) ≡ inside.One j
  pub alone : same_content (kind.Wrapped around j) ≡ None
  pub content : (t : Tree) → wrapped_content around t ≡ der t

explicit-is : (k : Kind) (j : ℕ) → in_explicit k ≡ Some j → IsExplicit k j
explicit-is (kind.Wrapped (wrapper.Explicit n) i) j e =
    let here : i ≡ j = cc in
    record {
      around = wrapper.Explicit n;
      is = ap (kind.Wrapped (wrapper.Explicit n)) here;
      one = refl;
      alone = refl;
      content = λ t. refl;
    }
explicit-is (kind.Wrapped (wrapper.Application n) i) j e =
    let here : i ≡ j = cc in
    record {
      around = wrapper.Application n;
      is = ap (kind.Wrapped (wrapper.Application n)) here;
      one = refl;
      alone = refl;
      content = λ t. refl;
    }
explicit-is k j e = absurd (cc)

record IsImplicit (k : Kind) (j : ℕ) : Type 0 where
  pub number : ℕ
  pub is : k ≡ kind.Wrapped (wrapper.Implicit number) j

implicit-is : (k : Kind) (j : ℕ) → in_implicit k ≡ Some j → IsImplicit k j
implicit-is (kind.Wrapped (wrapper.Implicit n) i) j e =
    let here : i ≡ j = cc in
    record { number = n; is = ap (kind.Wrapped (wrapper.Implicit n)) here }
implicit-is k j e = absurd (cc)

-- ---- an element of a type, and what its value says

-- the tree is a value without parts of the kind, and this holds if its content is that of the default
record IsLeaf (v : DefaultValue) (k : Kind) (t : Tree) (P : Type 0) : Type 0 where
  pub primitive : Primitive
  pub is : t ≡ Tree.primitive primitive
  pub has_tag : own_tag k ≡ Some (primitive_tag primitive)
  pub no_type : same_type k ≡ None
  pub no_content : same_content k ≡ None
  pub no_element : (j : ℕ) → inside_here k ≡ inside.One j → ⊥
  pub says : IsContentOf (inside_here k) v (primitive_content primitive) → P

-- the same of an element of the node's type
record IsPlain (nodes : List Node) (v : DefaultValue) (i : ℕ) (t : Tree) (P : Type 0) : Type 0 where
  pub tag : ℕ
  pub it : Inside
  pub number : IsTagNumber (number_of tag)
  pub whole : der t ≡ tlv tag (implicit_content t)
  pub has : HasInside nodes i it
  pub is_inside : IsInside nodes i tag it
  pub no_element : (j : ℕ) → it ≡ inside.One j → ⊥
  pub says : IsContentOf it v (implicit_content t) → P

-- The same of one that may have tags.
data Says (nodes : List Node) (v : DefaultValue) (i : ℕ) (t : Tree) (P : Type 0) : Type 0 where
  own : (tag : ℕ) (x : Inside) (c : List ℕ) → IsTagNumber (number_of tag) → der t ≡ tlv tag c → IsInside nodes i tag x
      → ((j : ℕ) → x ≡ inside.One j → ⊥) → (IsContentOf x v c → P) → Says nodes v i t P
  explicit : (tag j : ℕ) (c : List ℕ) → IsTagNumber (number_of tag) → der t ≡ tlv tag c
      → IsInside nodes i tag (inside.One j) → (IsValue nodes v j c → P) → Says nodes v i t P

module _ (nodes : List Node) (v : DefaultValue) where
  said : (i : ℕ) (t : Tree) (P : Type 0) → Says nodes v i t P → IsValue nodes v i (der t) → P
  said i t P (Says.own tag x c n whole is none f) p =
      f (own-value nodes v i (der t) tag x c [] (begins-alone tag c (der t) n whole) is none p)
  said i t P (Says.explicit tag j c n whole is f) p =
      f (explicit-value nodes v i (der t) tag j c [] (begins-alone tag c (der t) n whole) is p)

  lifted : (i j : ℕ) (t : Tree) (P R : Type 0)
      → ((tag : ℕ) (x : Inside) → IsInside nodes j tag x → IsInside nodes i tag x)
      → (P → R) → Says nodes v j t P → Says nodes v i t R
  lifted i j t P R f g (Says.own tag x c n whole is none h) =
      Says.own tag x c n whole (f tag x is) none (λ p. g (h p))
  lifted i j t P R f g (Says.explicit tag k c n whole is h) =
      Says.explicit tag k c n whole (f tag (inside.One k) is) (λ p. g (h p))

  plain-says : (i : ℕ) (t : Tree) (P : Type 0) → IsPlain nodes v i t P → Says nodes v i t P
  plain-says i t P it =
      Says.own it.tag it.it (implicit_content t) it.number it.whole it.is_inside it.no_element it.says

-- a node that names another before it
earlier-node : (nodes : List Node) (i j : ℕ) (node : Node) (t : Tree) → slice_get nodes i ≡ Some node
    → Denotes (type_at (before nodes i) j) t → (j < i) × (type_at (before nodes i) j ≡ notation_of nodes j)
earlier-node nodes i j node t h d = elim (cases_lt j i) [
  | inl less ↦ (less, earlier nodes i node h j less)
  | inr past ↦ absurd (no_values t (subst (λ n. Denotes n t) (not_earlier nodes i node h j past) d))
]

-- ---- by the test

module _ (nodes : List Node) (v : DefaultValue) (leaf : Kind → Bool) (same : Kind → Option ℕ)
    (Q : Notation → Tree → Type 0)
    (leaf_is : (types : List Notation) (k : Kind) (t : Tree) → leaf k ≡ true → Denotes (type_from types k) t
    → IsLeaf v k t (Q (type_from types k) t))
    (same_is : (k : Kind) (j : ℕ) → same k ≡ Some j → same_type k ≡ Some j)
    (same_denotes : (types : List Notation) (k : Kind) (j : ℕ) (t : Tree) → same k ≡ Some j
    → Denotes (type_from types k) t → Denotes (type_at types j) t)
    (same_says : (types : List Notation) (k : Kind) (j : ℕ) (t : Tree) → same k ≡ Some j → Q (type_at types j) t
    → Q (type_from types k) t)
    (wrapped_says : (w : Wrapper) (n : Notation) (t : Tree) → Q n t → Q (Notation.wrapped w n) (Tree.wrapped w t)) where
  plain-leaf : (i : ℕ) (node : Node) (t : Tree) → slice_get nodes i ≡ Some node → leaf node.kind ≡ true
      → Denotes (type_from (before nodes i) node.kind) t → IsReadable t
      → IsPlain nodes v i t (Q (type_from (before nodes i) node.kind) t)
  plain-leaf i node t h e d r =
      let it = leaf_is (before nodes i) node.kind t e d in
      let tag : ℕ = primitive_tag it.primitive in
      let here : HasInside nodes i (inside_here node.kind) =
      HasInside.here i node (inside_here node.kind) h it.no_content refl in
      let under : implicit_content t ≡ primitive_content it.primitive =
      ap implicit_content it.is ∙ implicit_content-plain (Tree.primitive it.primitive) refl in
      record {
        tag = tag;
        it = inside_here node.kind;
        number = primitive_tag_number it.primitive (subst IsReadable it.is r);
        whole = ap der it.is ∙ der-primitive it.primitive ∙ ap (tlv tag) (sym under);
        has = here;
        is_inside = IsInside.own i tag tag node (inside_here node.kind) h it.no_type it.has_tag
            (IsInsideOwn.whole refl here);
        no_element = it.no_element;
        says = λ p. it.says (subst (IsContentOf (inside_here node.kind) v) under p);
      }

  plain-same : (i j : ℕ) (node : Node) (t : Tree) (P R : Type 0) → slice_get nodes i ≡ Some node
      → same_type node.kind ≡ Some j → j < i → (P → R) → IsPlain nodes v j t P → IsPlain nodes v i t R
  plain-same i j node t P R h e less f it = record {
    tag = it.tag;
    it = it.it;
    number = it.number;
    whole = it.whole;
    has = HasInside.other i j node it.it it.it h (same-content node.kind j e) less it.has
        (sym (same-inside node.kind j it.it e));
    is_inside = IsInside.other i j it.tag node it.it h e less it.is_inside;
    no_element = it.no_element;
    says = λ p. f (it.says p);
  }

  simple : (n i : ℕ) (t : Tree) → is_simple leaf same nodes n i ≡ true → Denotes (notation_of nodes i) t → IsReadable t
      → IsPlain nodes v i t (Q (notation_of nodes i) t)
  simple zero i t e d r = absurd (false≢true e)
  simple (suc n) i t e d r =
      let it = found-node (λ node. leaf node.kind || index_holds (is_simple leaf same nodes n) (same node.kind))
      (slice_get nodes i) e in
      let types = before nodes i in
      let type : notation_of nodes i ≡ type_from types it.node.kind = one_node nodes i it.node it.is in
      let here : Denotes (type_from types it.node.kind) t = subst (λ m. Denotes m t) type d in
      subst (λ m. IsPlain nodes v i t (Q m t)) (sym type)
      (elim (either (leaf it.node.kind) (index_holds (is_simple leaf same nodes n) (same it.node.kind)) it.holds) [
        | inl l ↦ plain-leaf i it.node t it.is l here r
        | inr s ↦
            let other = found-index (is_simple leaf same nodes n) (same it.node.kind) s in
            let j : ℕ = other.index in
            let there : Denotes (type_at types j) t = same_denotes types it.node.kind j t other.is here in
            let at = earlier-node nodes i j it.node t it.is there in
            plain-same i j it.node t (Q (notation_of nodes j) t) (Q (type_from types it.node.kind) t) it.is
            (same_is it.node.kind j other.is) at.0
            (λ p. same_says types it.node.kind j t other.is (subst (λ m. Q m t) (sym at.1) p))
            (simple n j t other.holds (subst (λ m. Denotes m t) at.1 there) r)
      ])

  -- in an explicit tag
  explicit-says : (i j : ℕ) (node : Node) (t : Tree) → slice_get nodes i ≡ Some node → in_explicit node.kind ≡ Some j
      → Denotes (type_from (before nodes i) node.kind) t → IsReadable t
      → ((a : Tree) → Denotes (notation_of nodes j) a → IsReadable a
      → Says nodes v j a (Q (notation_of nodes j) a))
      → Says nodes v i t (Q (type_from (before nodes i) node.kind) t)
  explicit-says i j node t h e d r rest =
      let it = explicit-is node.kind j e in
      let w : Wrapper = it.around in
      let types = before nodes i in
      let made : Denotes (Notation.wrapped w (type_at types j)) t =
      subst (λ k. Denotes (type_from types k) t) it.is d in
      let a : Tree = made.0 in
      let readable : IsReadable (Tree.wrapped w a) = subst IsReadable made.1 r in
      let at = earlier-node nodes i j node a h made.2 in
      let inner = rest a (subst (λ m. Denotes m a) at.1 made.2) readable.2 in
      let here : HasInside nodes i (inside.One j) =
      HasInside.here i node (inside.One j) h (ap same_content it.is ∙ it.alone)
      (sym (ap inside_here it.is ∙ it.one)) in
      let under : IsInside nodes i (wrapper_tag w) (inside.One j) =
      IsInside.own i (wrapper_tag w) (wrapper_tag w) node (inside.One j) h (ap same_type it.is)
      (ap own_tag it.is ∙ own_wrapper w readable.0) (IsInsideOwn.whole refl here) in
      let whole : der t ≡ tlv (wrapper_tag w) (der a) =
      ap der made.1 ∙ der-wrapped_present w a (is_absent-readable a readable.2)
      ∙ ap (tlv (wrapper_tag w)) (it.content a) in
      let gives : Q (notation_of nodes j) a → Q (type_from types node.kind) t =
      λ p. subst (λ k. Q (type_from types k) t) (sym it.is)
      (subst (Q (Notation.wrapped w (type_at types j))) (sym made.1)
      (wrapped_says w (type_at types j) a (subst (λ m. Q m a) (sym at.1) p))) in
      Says.explicit (wrapper_tag w) j (der a) (wrapper_tag_number w readable.0) whole under
      (λ p. gives (said nodes v j a (Q (notation_of nodes j) a) inner p))

  -- with a tag in place of its own
  implicit-says : (i j : ℕ) (node : Node) (t : Tree) → slice_get nodes i ≡ Some node → in_implicit node.kind ≡ Some j
      → Denotes (type_from (before nodes i) node.kind) t → IsReadable t
      → ((a : Tree) → Denotes (notation_of nodes j) a → IsReadable a
      → IsPlain nodes v j a (Q (notation_of nodes j) a))
      → Says nodes v i t (Q (type_from (before nodes i) node.kind) t)
  implicit-says i j node t h e d r rest =
      let it = implicit-is node.kind j e in
      let w : Wrapper = wrapper.Implicit it.number in
      let types = before nodes i in
      let made : Denotes (Notation.wrapped w (type_at types j)) t =
      subst (λ k. Denotes (type_from types k) t) it.is d in
      let a : Tree = made.0 in
      let readable : IsReadable (Tree.wrapped w a) = subst IsReadable made.1 r in
      let at = earlier-node nodes i j node a h made.2 in
      let inner = rest a (subst (λ m. Denotes m a) at.1 made.2) readable.2 in
      let here : HasInside nodes i inner.it =
      HasInside.other i j node inner.it inner.it h (ap same_content it.is) at.0 inner.has
      (sym (ap (λ k. inside_same k inner.it) it.is)) in
      let under : IsInside nodes i (wrapper_tag w) inner.it =
      IsInside.own i (wrapper_tag w) (wrapper_tag w) node inner.it h (ap same_type it.is)
      (ap own_tag it.is ∙ own_wrapper w readable.0) (IsInsideOwn.whole refl here) in
      let whole : der t ≡ tlv (wrapper_tag w) (implicit_content a) =
      ap der made.1 ∙ der-wrapped_present w a (is_absent-readable a readable.2) in
      let gives : Q (notation_of nodes j) a → Q (type_from types node.kind) t =
      λ p. subst (λ k. Q (type_from types k) t) (sym it.is)
      (subst (Q (Notation.wrapped w (type_at types j))) (sym made.1)
      (wrapped_says w (type_at types j) a (subst (λ m. Q m a) (sym at.1) p))) in
      Says.own (wrapper_tag w) inner.it (implicit_content a) (wrapper_tag_number w readable.0) whole under
      inner.no_element (λ p. gives (inner.says p))

  tagged : (n i : ℕ) (t : Tree) → is_tagged leaf same nodes n i ≡ true → Denotes (notation_of nodes i) t → IsReadable t
      → Says nodes v i t (Q (notation_of nodes i) t)
  tagged zero i t e d r = absurd (false≢true e)
  tagged (suc n) i t e d r = elim (either (is_simple leaf same nodes (suc n) i) _ e) [
    | inl l ↦ plain-says nodes v i t (Q (notation_of nodes i) t) (simple (suc n) i t l d r)
    | inr g ↦
        let it = found-node
        (λ node. index_holds (is_tagged leaf same nodes n) (same node.kind)
        || (index_holds (is_tagged leaf same nodes n) (in_explicit node.kind)
        || index_holds (is_simple leaf same nodes n) (in_implicit node.kind)))
        (slice_get nodes i) g in
        let k = it.node.kind in
        let types = before nodes i in
        let type : notation_of nodes i ≡ type_from types k = one_node nodes i it.node it.is in
        let here : Denotes (type_from types k) t = subst (λ m. Denotes m t) type d in
        subst (λ m. Says nodes v i t (Q m t)) (sym type)
        (elim (either (index_holds (is_tagged leaf same nodes n) (same k)) _ it.holds) [
          | inl s ↦
              let other = found-index (is_tagged leaf same nodes n) (same k) s in
              let j : ℕ = other.index in
              let there : Denotes (type_at types j) t = same_denotes types k j t other.is here in
              let at = earlier-node nodes i j it.node t it.is there in
              lifted nodes v i j t (Q (notation_of nodes j) t) (Q (type_from types k) t)
              (λ tag x p. IsInside.other i j tag it.node x it.is (same_is k j other.is) at.0 p)
              (λ p. same_says types k j t other.is (subst (λ m. Q m t) (sym at.1) p))
              (tagged n j t other.holds (subst (λ m. Denotes m t) at.1 there) r)
          | inr f ↦ elim (either (index_holds (is_tagged leaf same nodes n) (in_explicit k)) _ f) [
            | inl s ↦
                let other = found-index (is_tagged leaf same nodes n) (in_explicit k) s in
                explicit-says i other.index it.node t it.is other.is here r
                (λ a p q. tagged n other.index a other.holds p q)
            | inr s ↦
                let other = found-index (is_simple leaf same nodes n) (in_implicit k) s in
                implicit-says i other.index it.node t it.is other.is here r
                (λ a p q. simple n other.index a other.holds p q)
          ]
        ])
  ]

-- ---- defaults that a type has

-- the value of the default
abbrev default_in : asn1.Member → Tree
default_in (asn1.Member.defaulted t n) = t
default_in _ = Tree.absent

abbrev is_default : DefaultValue → Notation → Tree → Type 0
is_default v n t = t ≡ default_in (default (value_in v) n)

abbrev first_byte : List ℕ → ℕ
first_byte [] = 0
first_byte (b ∷ bs) = b

truth_of : (a b : Bool) → boolean_content a ≡ boolean_content b → a ≡ b
truth_of true true e = refl
truth_of false false e = refl
truth_of true false e = let wrong : 0xFF ≡ 0x00 = ap first_byte e in absurd (omega (arith, wrong))
truth_of false true e = let wrong : 0x00 ≡ 0xFF = ap first_byte e in absurd (omega (arith, wrong))

small_content : (n : ℕ) → n < 0x80 → integer_content (pos n) ≡ n ∷ []
small_content n low =
    let sign : is_negative (n ∷ []) ≡ false = rw (lt-ltb n 0x80 low) refl in
    let value : integer_value (n ∷ []) ≡ pos (number_from_digits 256 (turned_if false (n ∷ []))) =
    ap (λ b. complement_if b (number_from_digits 256 (turned_if b (n ∷ [])))) sign in
    let digits : number_from_digits 256 (turned_if false (n ∷ [])) ≡ n = omega arith in
    sym (ap integer_content (value ∙ ap pos digits)) ∙ content-value (n ∷ []) (omega (arith, low), tt) refl

value-leaf : (v : DefaultValue) (types : List Notation) (k : Kind) (t : Tree) → has_value v k ≡ true
    → Denotes (type_from types k) t → IsLeaf v k t (is_default v (type_from types k) t)
value-leaf value.True types kind.Boolean t e d = record {
  primitive = Primitive.boolean d.0;
  is = d.1;
  has_tag = refl;
  no_type = refl;
  no_content = refl;
  no_element = λ j same. cc;
  says = λ c. d.1 ∙ ap (λ b. Tree.primitive (Primitive.boolean b)) (truth_of d.0 true c);
}
value-leaf value.False types kind.Boolean t e d = record {
  primitive = Primitive.boolean d.0;
  is = d.1;
  has_tag = refl;
  no_type = refl;
  no_content = refl;
  no_element = λ j same. cc;
  says = λ c. d.1 ∙ ap (λ b. Tree.primitive (Primitive.boolean b)) (truth_of d.0 false c);
}
value-leaf (value.Number (pos n)) types (kind.NamedInteger items) t e d =
    let low : n < 0x80 = ltb-true n 0x80 e in
    record {
      primitive = Primitive.bytes 0x02 (integer_content (pos d.0));
      is = d.1;
      has_tag = refl;
      no_type = refl;
      no_content = refl;
      no_element = λ j same. cc;
      says = λ c. subst
          (λ b. t ≡ Tree.primitive (Primitive.bytes 0x02 (if b then n ∷ [] else integer_content (pos n)))) (sym e)
          (d.1 ∙ ap (λ s. Tree.primitive (Primitive.bytes 0x02 s)) (c ∙ small_content n low));
    }
value-leaf v types k t e d = absurd (false≢true e)

named-is : (k : Kind) (j : ℕ) → named_type k ≡ Some j → same_type k ≡ Some j
named-is (kind.Reference i) j e = e
named-is k j e = absurd (cc)

named-same : (types : List Notation) (k : Kind) (j : ℕ) → named_type k ≡ Some j → type_from types k ≡ type_at types j
named-same types (kind.Reference i) j e = let here : i ≡ j = cc in ap (type_at types) here
named-same types k j e = absurd (cc)

value-tagged : (nodes : List Node) (v : DefaultValue) (n i : ℕ) (t : Tree)
    → is_tagged (has_value v) named_type nodes n i ≡ true → Denotes (notation_of nodes i) t → IsReadable t
    → IsValue nodes v i (der t) → is_default v (notation_of nodes i) t
value-tagged nodes v n i t e d r p =
    said nodes v i t (is_default v (notation_of nodes i) t)
    (tagged nodes v (has_value v) named_type (is_default v) (value-leaf v) named-is
    (λ types k j u same h. subst (λ m. Denotes m u) (named-same types k j same) h)
    (λ types k j u same h. subst (λ m. is_default v m u) (sym (named-same types k j same)) h)
    (λ w m u h. ap (Tree.wrapped w) h) n i t e d r) p

-- ---- defaults that a type hasn't

abbrev has_number : ℕ → Notation → Tree → Type 0
has_number n type t = tree_number t ≡ pos n

number-leaf : (n : ℕ) (types : List Notation) (k : Kind) (t : Tree) → is_integer k ≡ true
    → Denotes (type_from types k) t → IsLeaf (value.Number (pos n)) k t (has_number n (type_from types k) t)
number-leaf n types kind.Integer t e d = record {
  primitive = Primitive.bytes 0x02 d.0;
  is = d.1;
  has_tag = refl;
  no_type = refl;
  no_content = refl;
  no_element = λ j same. cc;
  says = λ c. ap tree_number d.1 ∙ ap integer_value c ∙ value-content (pos n);
}
number-leaf n types (kind.Unsigned bits) t e d = record {
  primitive = Primitive.unsigned d.0;
  is = d.1;
  has_tag = refl;
  no_type = refl;
  no_content = refl;
  no_element = λ j same. cc;
  says = λ c. ap tree_number d.1 ∙ same_integer (pos d.0) (pos n) c;
}
number-leaf n types (kind.Signed bits) t e d = record {
  primitive = Primitive.bytes 0x02 (integer_content d.0);
  is = d.1;
  has_tag = refl;
  no_type = refl;
  no_content = refl;
  no_element = λ j same. cc;
  says = λ c. ap tree_number d.1 ∙ ap integer_value c ∙ value-content (pos n);
}
number-leaf n types k t e d = absurd (false≢true e)

same-denotes : (types : List Notation) (k : Kind) (j : ℕ) (t : Tree) → same_type k ≡ Some j
    → Denotes (type_from types k) t → Denotes (type_at types j) t
same-denotes types (kind.Reference i) j t e d = let here : i ≡ j = cc in subst (λ l. Denotes (type_at types l) t) here d
same-denotes types (kind.InRange least most i) j t e d =
    let here : i ≡ j = cc in subst (λ l. Denotes (type_at types l) t) here d.0
same-denotes types (kind.AtLeast least i) j t e d =
    let here : i ≡ j = cc in subst (λ l. Denotes (type_at types l) t) here d.0
same-denotes types (kind.AtMost most i) j t e d =
    let here : i ≡ j = cc in subst (λ l. Denotes (type_at types l) t) here d.0
same-denotes types (kind.Outside least most i) j t e d =
    let here : i ≡ j = cc in subst (λ l. Denotes (type_at types l) t) here d.0
same-denotes types (kind.Sized least most i) j t e d =
    let here : i ≡ j = cc in subst (λ l. Denotes (type_at types l) t) here d.0
same-denotes types (kind.Permitted ranges i) j t e d =
    let here : i ≡ j = cc in subst (λ l. Denotes (type_at types l) t) here d.0
same-denotes types k j t e d = absurd (cc)

number-tagged : (nodes : List Node) (m n i : ℕ) (t : Tree) → is_tagged is_integer same_type nodes n i ≡ true
    → Denotes (notation_of nodes i) t → IsReadable t → IsValue nodes (value.Number (pos m)) i (der t)
    → tree_number t ≡ pos m
number-tagged nodes m n i t e d r p =
    said nodes (value.Number (pos m)) i t (has_number m (notation_of nodes i) t)
    (tagged nodes (value.Number (pos m)) is_integer same_type (has_number m) (number-leaf m) (λ k j same. same)
    same-denotes (λ types k j u same h. h) (λ w l u h. h) n i t e d r) p

-- its type in the library hasn't that number
other-number : (m : ℕ) (n : Notation) (t : Tree) → DenotesPresent (default-of (Value.number m) n) t
    → tree_number t ≡ pos m → ⊥
other-number m (Notation.wrapped w n) t d e = other-number m n d.0 d.2 (sym (ap tree_number d.1) ∙ e)
other-number m n t d e =
    let within : is_between (pos m) (pos m) (pos m) ≡ true = rw (le-leb m m (omega arith)) refl in
    let out : is_between (pos m) (pos m) (pos m) ≡ false =
    subst (λ z. is_between (pos m) (pos m) z ≡ false) e d.1 in
    true≢false (sym within ∙ out)

-- ---- a member

pub other-values : (nodes : List Node) (n i : ℕ) (p : Presence) (t : Tree) (v : DefaultValue)
    → keeps_default nodes n i p ≡ true → DenotesPresent (member_with p (notation_of nodes i)) t → IsReadable t
    → HasDefault p v → IsValue nodes v i (der t) → ⊥
other-values nodes n i presence.Required t v e d r given p = absurd given
other-values nodes n i presence.Optional t v e d r given p = absurd given
other-values nodes n i (presence.Default w) t v e d r given p =
    d.1 (value-tagged nodes w n i t e d.0 r (subst (λ l. IsValue nodes l i (der t)) (sym given) p))
other-values nodes n i (presence.DefaultOf (value.Number (pos m))) t v e d r given p =
    other-number m (notation_of nodes i) t d
    (number-tagged nodes m n i t e
    (present-denotes (presence.DefaultOf (value.Number (pos m))) (notation_of nodes i) t d) r
    (subst (λ l. IsValue nodes l i (der t)) (sym given) p))
other-values nodes n i (presence.DefaultOf w) t v e d r given p = absurd (false≢true e)
