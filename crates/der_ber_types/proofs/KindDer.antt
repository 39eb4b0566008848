-- The DER of each kind of types is its own BER.
use Rattle.std.proofs.Common.{◌≡◌, ℕ, zero, suc, ◌<◌, List, Bool, true, false, Some, None, slice_get}
use Rattle.std.proofs.Common.{pos, inl, inr, refl, sym, ap, ◌∙◌, subst, arith, eqb-true}
use Rattle.std.proofs.lemmas.Option.{slice_get_cases}
use Rattle.std.specs.Borrow.{Bor}
use Rattle.std.specs.List.{concat}
use Rattle.std.specs.Prelude.{◌==◌, if◌then◌else◌}
use Rattle.picky_der_core.specs.declared.asn1.wrapper.Wrapper.{Wrapper}
use Rattle.picky_der_core.specs.declared.asn1.wrapper.Wrapper.TheVariants.{OctetContainer, BitContainer, Explicit}
use Rattle.picky_der_core.specs.declared.asn1.wrapper.Wrapper.TheVariants.{Implicit, Application, ImplicitList}
use Rattle.picky_der_core.specs.Element.{tlv}
use Rattle.picky_der_core.specs.Encoding.{der, implicit_content, encodings, list_content, list_tag}
use Rattle.picky_der_core.specs.EncodingLaws.{der-primitive, der-plain, der-raw, der-choice, der-wrapped_present}
use Rattle.picky_der_core.specs.EncodingLaws.{implicit_content-plain, is_absent-readable, list_content-in_order}
use Rattle.picky_der_core.specs.Integer.{integer_content}
use Rattle.picky_der_core.specs.OpenWrappers.{wrapped_content}
use Rattle.picky_der_core.specs.Primitive.{Primitive, primitive_tag, primitive_content, boolean_content}
use Rattle.picky_der_core.specs.PrimitiveLaws.{primitive_tag_number}
use Rattle.picky_der_core.specs.Readable.{IsReadable}
use Rattle.picky_der_core.specs.Tag.{number_of, IsTagNumber, is_constructed}
use Rattle.picky_der_core.specs.Tree.{ListKind, Tree, Trees}
use Rattle.picky_der_core.specs.Wrapper.{wrapper_tag, HasTagNumber}
use Rattle.picky_der_core.specs.WrapperLaws.{wrapper_tag_number, has_tag_number-true}
use Rattle.der_types.specs.Denotes.{Denotes}
use Rattle.der_types.specs.Notation.{Notation}
use Rattle.der_types.specs.PrimitiveForm.{primitive_form}
use Rattle.der_schema.proofs.Nodes.{before, one_node, past_end}
use Rattle.der_schema.specs.NotationOf.{type_at, type_from, notation_of}
use Rattle.der_schema.specs.declared.node.Alternative.{Alternative}
use Rattle.der_schema.specs.declared.node.Kind.{Kind}
use Rattle.der_schema.specs.declared.node.Kind.TheVariants as kind
use Rattle.der_schema.specs.declared.node.Member.{Member}
use Rattle.der_schema.specs.declared.node.Node.{Node}
use Rattle.der_ber_types.specs.declared.inside.Inside.{Inside}
use Rattle.der_ber_types.specs.declared.inside.Inside.TheVariants as inside
use Rattle.der_ber_types.specs.Content.{IsContent, IsOne}
use Rattle.der_ber_types.specs.Contents.{IsTruth}
use Rattle.der_ber_types.specs.Inside.{HasInside, IsAny, IsInside, IsInsideOne, IsInsideOwn, NoneBefore}
use Rattle.der_schema.specs.Tags.{same_type, same_content}
use Rattle.der_ber_types.specs.Kinds.{inside_same, inside_here, in_any_order, tag_in_der}
use Rattle.der_schema.specs.Tags.{own_tag, own_wrapper_tag}
use Rattle.der_ber_types.specs.Order.{AreInOrder}
use Rattle.der_ber_types.specs.Tables.{AreAllApart, AreAlternativesApart, IsInTag, IsSoundTable}
use Rattle.der_ber_types.proofs.InsideLemmas.{tag_of}
use Rattle.der_ber_types.proofs.ListDer.{HasOwnContent, IsOwn, IsAlternative, no_values, elements, reordered-same}
use Rattle.der_ber_types.proofs.ListDer.{inner, each, members, one_of}

own_truth : (b : Bool) → IsTruth (boolean_content b) (boolean_content b)
own_truth false = IsTruth.false
own_truth true = IsTruth.true 0xFF (λ e. omega (arith, e))

-- elements of one type are those of another
lifted : (nodes : List Node) (i j : ℕ) (bytes d : List ℕ)
    → ((tag : ℕ) (x : Inside) → IsInside nodes j tag x → IsInside nodes i tag x) → IsOne nodes j bytes d
    → IsOne nodes i bytes d
lifted nodes i j bytes d f (IsOne.element _ tag x c k _ _ n it is e g) =
    IsOne.element i tag x c k bytes d n (f tag x it) is e g

one_alternative : (nodes : List Node) (i : ℕ) (node : Node) (cs : Bor (List Alternative))
    → slice_get nodes i ≡ Some node → node.kind ≡ kind.Choice cs → AreAlternativesApart nodes i cs.now
    → (t : Tree) (it : IsAlternative nodes i cs.now t) (tag : ℕ) (x : Inside)
    → IsInside nodes it.alternative.node tag x → IsInside nodes i tag x
one_alternative nodes i node cs h e apart t it tag x here =
    let none : NoneBefore nodes i cs.now it.index tag =
    λ j a before is less has. apart j it.index a it.alternative before is it.is less it.less tag has
    (tag_of nodes it.alternative.node tag x here) in
    IsInside.choice i tag node cs x h e
    (IsInsideOne.first i it.index tag cs.now it.alternative x it.is it.less none here)

-- ---- members in any order

order-content : (nodes : List Node) (x : Inside) (bytes d : List ℕ)
    → ((ms : Bor (List Member)) → x ≡ inside.Members ms → AreAllApart nodes ms.now) → IsContent nodes x bytes d
    → IsContent nodes (in_any_order x) bytes d
order-content nodes x bytes d apart (IsContent.members ms _ _ are) =
    IsContent.any_order ms bytes bytes d (reordered-same nodes ms.now bytes d (apart ms refl) are) are
order-content nodes x bytes d apart is = is

order-tag : (x : Inside) (tag : ℕ) → tag_in_der x tag ≡ tag → tag_in_der (in_any_order x) tag ≡ tag
order-tag (inside.Members ms) tag e = refl
order-tag x tag e = e

-- ---- tags

own_wrapper : (w : Wrapper) → HasTagNumber w → own_wrapper_tag w ≡ Some (wrapper_tag w)
own_wrapper w n = ap (λ b. if b then Some (wrapper_tag w) else None) (has_tag_number-true w n)

own_form : (tag : ℕ) → IsTagNumber (number_of (primitive_form tag)) → primitive_form tag ≡ tag
own_form tag n = by_form (is_constructed tag) refl
  where
    by_form : (b : Bool) → is_constructed tag ≡ b → primitive_form tag ≡ tag
    by_form false e = ap (λ c. if c then 0x1F else tag) e
    by_form true e =
        let long : primitive_form tag ≡ 0x1F = ap (λ c. if c then 0x1F else tag) e in
        let number : IsTagNumber (number_of 0x1F) = subst (λ l. IsTagNumber (number_of l)) long n in
        absurd (omega (arith, number))

-- ---- in a node, where the values of the nodes before it are their own BER

module _ (nodes : List Node) (i : ℕ) (node : Node) (h : slice_get nodes i ≡ Some node)
    (own : (j : ℕ) → j < i → (t : Tree) → Denotes (notation_of nodes j) t → IsReadable t → IsOwn nodes j t)
    (sound : IsSoundTable nodes) where
  tagged : (k : Kind) (tag : ℕ) (x : Inside) (c : List ℕ) (t : Tree) → node.kind ≡ k → same_type k ≡ None
      → own_tag k ≡ Some tag → IsTagNumber (number_of tag) → HasInside nodes i x → tag_in_der x tag ≡ tag
      → IsContent nodes x c c → der t ≡ tlv tag c → IsOne nodes i (der t) (der t)
  tagged k tag x c t e s o n has stays is whole =
      IsOne.element i tag x c c (der t) (der t) n
      (IsInside.own i tag tag node x h (ap same_type e ∙ s) (ap own_tag e ∙ o) (IsInsideOwn.whole refl has)) is whole
      (whole ∙ ap (λ l. tlv l c) (sym stays))

  has_here : (k : Kind) (x : Inside) → node.kind ≡ k → same_content k ≡ None → inside_here k ≡ x → HasInside nodes i x
  has_here k x e c here = HasInside.here i node x h (ap same_content e ∙ c) (sym (ap inside_here e ∙ here))

  has_same : (k : Kind) (j : ℕ) (x y : Inside) → node.kind ≡ k → same_content k ≡ Some j → j < i → HasInside nodes j y
      → inside_same k y ≡ x → HasInside nodes i x
  has_same k j x y e c less has same =
      HasInside.other i j node x y h (ap same_content e ∙ c) less has (sym (ap (λ l. inside_same l y) e ∙ same))

  -- a type with a tag and a content of its own
  plain : (k : Kind) (tag : ℕ) (x : Inside) (c : List ℕ) (t : Tree) → node.kind ≡ k → same_type k ≡ None
      → own_tag k ≡ Some tag → HasInside nodes i x → ((l : ℕ) → tag_in_der x l ≡ l) → IsTagNumber (number_of tag)
      → der t ≡ tlv tag c → implicit_content t ≡ c → IsContent nodes x c c → IsOwn nodes i t
  plain k tag x c t e s o has stays n whole under is = record {
    one = tagged k tag x c t e s o n has (stays tag) is whole;
    content = λ none. record {
      it = x;
      has = has;
      tag_stays = stays;
      is = subst (λ l. IsContent nodes x l l) (sym under) is;
    };
  }

  under_primitive : (p : Primitive) (t : Tree) → t ≡ Tree.primitive p → implicit_content t ≡ primitive_content p
  under_primitive p t is = ap implicit_content is ∙ implicit_content-plain (Tree.primitive p) refl

  leaf : (k : Kind) (tag : ℕ) (x : Inside) (p : Primitive) (t : Tree) → node.kind ≡ k → same_type k ≡ None
      → same_content k ≡ None → own_tag k ≡ Some tag → inside_here k ≡ x → ((l : ℕ) → tag_in_der x l ≡ l)
      → primitive_tag p ≡ tag → IsContent nodes x (primitive_content p) (primitive_content p)
      → t ≡ Tree.primitive p → IsReadable t → IsOwn nodes i t
  leaf k tag x p t e s c o here stays has_tag inside is r =
      let number : IsTagNumber (number_of tag) =
      subst (λ l. IsTagNumber (number_of l)) has_tag (primitive_tag_number p (subst IsReadable is r)) in
      let whole : der t ≡ tlv tag (primitive_content p) =
      ap der is ∙ der-primitive p ∙ ap (λ l. tlv l (primitive_content p)) has_tag in
      plain k tag x (primitive_content p) t e s o (has_here k x e c here) stays number whole
      (under_primitive p t is) inside

  listed : (k : Kind) (list : ListKind) (x : Inside) (ts : Trees) (t : Tree) → node.kind ≡ k → same_type k ≡ None
      → same_content k ≡ None → own_tag k ≡ Some (list_tag list) → inside_here k ≡ x
      → ((l : ℕ) → tag_in_der x l ≡ l) → IsTagNumber (number_of (list_tag list))
      → IsContent nodes x (list_content list (encodings ts)) (list_content list (encodings ts))
      → t ≡ Tree.list list ts → IsOwn nodes i t
  listed k list x ts t e s c o here stays number inside is =
      plain k (list_tag list) x (list_content list (encodings ts)) t e s o (has_here k x e c here) stays number
      (ap der is ∙ der-plain (Tree.list list ts) refl)
      (ap implicit_content is ∙ implicit_content-plain (Tree.list list ts) refl) inside

  -- some of the values of another type
  same : (k : Kind) (j : ℕ) (t : Tree) → node.kind ≡ k → same_type k ≡ Some j → same_content k ≡ Some j
      → ((x : Inside) → inside_same k x ≡ x) → Denotes (type_at (before nodes i) j) t → IsReadable t → IsOwn nodes i t
  same k j t e s c f d r =
      let it = inner nodes i node h own j t d r in
      let named : same_type node.kind ≡ Some j = ap same_type e ∙ s in
      record {
        one = lifted nodes i j (der t) (der t) (λ tag x p. IsInside.other i j tag node x h named it.0 p) it.1.one;
        content = λ none.
            let within = it.1.content (λ p. none (IsInTag.other i j node h named p)) in
            record {
              it = within.it;
              has = has_same k j within.it within.it e c it.0 within.has (f within.it);
              tag_stays = within.tag_stays;
              is = within.is;
            };
      }

  -- any element
  raw : (k : Kind) (s : List ℕ) (t : Tree) → node.kind ≡ k → IsAny k → same_content k ≡ None
      → inside_here k ≡ inside.Same → t ≡ Tree.raw s → IsReadable t → IsOwn nodes i t
  raw k s t e any c here is r =
      let element = (subst IsReadable is r).0 in
      let whole : der t ≡ tlv element.tag element.content = ap der is ∙ der-raw s ∙ element.is in
      record {
        one = IsOne.element i element.tag inside.Same element.content element.content (der t) (der t) element.number
            (IsInside.any i element.tag node inside.Same h (subst IsAny (sym e) any) refl)
            (IsContent.same element.content element.content refl) whole whole;
        content = λ none. record {
          it = inside.Same;
          has = has_here k inside.Same e c here;
          tag_stays = λ l. refl;
          is = IsContent.same (implicit_content t) (implicit_content t) refl;
        };
      }

  chosen : (cs : Bor (List Alternative)) (a t : Tree) → node.kind ≡ kind.Choice cs → t ≡ Tree.choice a
      → IsAlternative nodes i cs.now a → IsOwn nodes i t
  chosen cs a t e is it = record {
    one = subst (λ l. IsOne nodes i l l) (sym (ap der is ∙ der-choice a))
        (lifted nodes i it.alternative.node (der a) (der a)
        (λ tag x p. one_alternative nodes i node cs h e (sound.alternatives i node cs h e) a it tag x p) it.own.one);
    content = λ none. record {
      it = inside.Same;
      has = has_here (kind.Choice cs) inside.Same e refl refl;
      tag_stays = λ l. refl;
      is = IsContent.same (implicit_content t) (implicit_content t) refl;
    };
  }

  -- ---- types in tags and strings

  in_tag : (w : Wrapper) (j : ℕ) (x : Inside) (a t : Tree) → node.kind ≡ kind.Wrapped w j → t ≡ Tree.wrapped w a
      → IsReadable t → HasInside nodes i x → tag_in_der x (wrapper_tag w) ≡ wrapper_tag w
      → IsContent nodes x (wrapped_content w a) (wrapped_content w a) → IsOwn nodes i t
  in_tag w j x a t e is r has stays inside =
      let readable : IsReadable (Tree.wrapped w a) = subst IsReadable is r in
      record {
        one = tagged (kind.Wrapped w j) (wrapper_tag w) x (wrapped_content w a) t e refl
            (own_wrapper w readable.0) (wrapper_tag_number w readable.0) has stays inside
            (ap der is ∙ der-wrapped_present w a (is_absent-readable a readable.2));
        content = λ none. absurd (none (IsInTag.wrapped i j node w h e));
      }

  -- the content of another under a tag in its place
  within : (k : Kind) (j : ℕ) (t : Tree) → node.kind ≡ k → same_type k ≡ None → same_content k ≡ Some j
      → Denotes (type_at (before nodes i) j) t → IsReadable t → (j < i) × HasOwnContent nodes j t
  within k j t e s c d r =
      let it = inner nodes i node h own j t d r in
      (it.0, it.1.content (sound.implicit i j node h (ap same_type e ∙ s) (ap same_content e ∙ c)))

  in_list_tag : (tag j : ℕ) (a t : Tree) → node.kind ≡ kind.Wrapped (ImplicitList tag) j
      → t ≡ Tree.wrapped (ImplicitList tag) a → IsReadable t → j < i → HasOwnContent nodes j a → IsOwn nodes i t
  in_list_tag tag j a t e is r less it = by_tag (tag == 0x31) refl
    where
      by_tag : (b : Bool) → (tag == 0x31) ≡ b → IsOwn nodes i t
      by_tag false f =
          in_tag (ImplicitList tag) j it.it a t e is r
          (has_same (kind.Wrapped (ImplicitList tag) j) j it.it it.it e refl less it.has
          (ap (λ b. if b then in_any_order it.it else it.it) f)) (it.tag_stays tag) it.is
      by_tag true f =
          let here : node.kind ≡ kind.Wrapped (ImplicitList 0x31) j =
          e ∙ ap (λ n. kind.Wrapped (ImplicitList n) j) (eqb-true tag 0x31 f) in
          in_tag (ImplicitList tag) j (in_any_order it.it) a t e is r
          (has_same (kind.Wrapped (ImplicitList tag) j) j (in_any_order it.it) it.it e refl less it.has
          (ap (λ b. if b then in_any_order it.it else it.it) f))
          (order-tag it.it tag (it.tag_stays tag))
          (order-content nodes it.it (implicit_content a) (implicit_content a)
          (λ ms m. sound.set_members i j node ms h here (subst (HasInside nodes j) m it.has)) it.is)

  wrapped : (w : Wrapper) (j : ℕ) (t : Tree) → node.kind ≡ kind.Wrapped w j
      → Denotes (Notation.wrapped w (type_at (before nodes i) j)) t → IsReadable t → IsOwn nodes i t
  wrapped OctetContainer j t e d r =
      in_tag OctetContainer j inside.Same d.0 t e d.1 r
      (has_here (kind.Wrapped OctetContainer j) inside.Same e refl refl) refl (IsContent.same _ _ refl)
  wrapped BitContainer j t e d r =
      in_tag BitContainer j inside.Same d.0 t e d.1 r
      (has_here (kind.Wrapped BitContainer j) inside.Same e refl refl) refl (IsContent.same _ _ refl)
  wrapped (Explicit n) j t e d r =
      in_tag (Explicit n) j (inside.One j) d.0 t e d.1 r
      (has_here (kind.Wrapped (Explicit n) j) (inside.One j) e refl refl) refl
      (IsContent.explicit j _ _ (inner nodes i node h own j d.0 d.2 (subst IsReadable d.1 r).2).1.one)
  wrapped (Application n) j t e d r =
      in_tag (Application n) j (inside.One j) d.0 t e d.1 r
      (has_here (kind.Wrapped (Application n) j) (inside.One j) e refl refl) refl
      (IsContent.explicit j _ _ (inner nodes i node h own j d.0 d.2 (subst IsReadable d.1 r).2).1.one)
  wrapped (Implicit n) j t e d r =
      let it = within (kind.Wrapped (Implicit n) j) j d.0 e refl refl d.2 (subst IsReadable d.1 r).2 in
      in_tag (Implicit n) j it.1.it d.0 t e d.1 r
      (has_same (kind.Wrapped (Implicit n) j) j it.1.it it.1.it e refl it.0 it.1.has refl)
      (it.1.tag_stays (wrapper_tag (Implicit n))) it.1.is
  wrapped (ImplicitList tag) j t e d r =
      let it = within (kind.Wrapped (ImplicitList tag) j) j d.0 e refl refl d.2 (subst IsReadable d.1 r).2 in
      in_list_tag tag j d.0 t e d.1 r it.0 it.1

  content_under : (tag j : ℕ) (t : Tree) → node.kind ≡ kind.ContentUnder tag j
      → Denotes (Notation.content-under tag (type_at (before nodes i) j)) t → IsReadable t → IsOwn nodes i t
  content_under tag j t e d r =
      let p = d.2.0 in
      let it = within (kind.ContentUnder tag j) j (Tree.primitive p) e refl refl d.2.3 d.2.2 in
      let put : Primitive = Primitive.bytes (primitive_form tag) d.0 in
      let number : IsTagNumber (number_of (primitive_form tag)) = (subst IsReadable d.1 r).0 in
      let form : primitive_form tag ≡ tag = own_form tag number in
      let under : implicit_content (Tree.primitive p) ≡ d.0 = under_primitive p (Tree.primitive p) refl ∙ d.2.1 in
      plain (kind.ContentUnder tag j) tag it.1.it d.0 t e refl refl
      (has_same (kind.ContentUnder tag j) j it.1.it it.1.it e refl it.0 it.1.has refl) it.1.tag_stays
      (subst (λ l. IsTagNumber (number_of l)) form number)
      (ap der d.1 ∙ der-primitive put ∙ ap (λ l. tlv l d.0) form) (under_primitive put t d.1)
      (subst (λ l. IsContent nodes it.1.it l l) under it.1.is)

  -- ---- lists

  sequence_of : (j : ℕ) (t : Tree) → node.kind ≡ kind.SequenceOf j
      → Denotes (Notation.list-of ListKind.sequence (type_at (before nodes i) j)) t → IsReadable t → IsOwn nodes i t
  sequence_of j t e d r =
      listed (kind.SequenceOf j) ListKind.sequence (inside.Each j) d.0 t e refl refl refl refl (λ l. refl) (omega arith)
      (IsContent.each j _ _ (each nodes i node h own j d.0 d.2 (subst IsReadable d.1 r).1)) d.1

  set_of : (j : ℕ) (t : Tree) → node.kind ≡ kind.SetOf j
      → Denotes (Notation.list-of ListKind.set (type_at (before nodes i) j)) t → IsReadable t → IsOwn nodes i t
  set_of j t e d r =
      let readable = subst IsReadable d.1 r in
      let all = encodings d.0 in
      let ordered : list_content ListKind.set all ≡ concat all = list_content-in_order ListKind.set all readable.0 in
      let in_order : AreInOrder (concat all) (list_content ListKind.set all) = record {
        elements = all;
        are_elements = record { each = elements d.0 readable.1; is = refl };
        is = refl;
      } in
      let sorted : IsContent nodes (inside.Set j) (concat all) (list_content ListKind.set all) =
      IsContent.set j (concat all) (concat all) (list_content ListKind.set all)
      (each nodes i node h own j d.0 d.2 readable.1) in_order in
      listed (kind.SetOf j) ListKind.set (inside.Set j) d.0 t e refl refl refl refl (λ l. refl) (omega arith)
      (subst (λ l. IsContent nodes (inside.Set j) l (list_content ListKind.set all)) (sym ordered) sorted) d.1

  sequence : (ms : Bor (List Member)) (t : Tree) → node.kind ≡ kind.Sequence ms
      → Denotes (type_from (before nodes i) (kind.Sequence ms)) t → IsReadable t → IsOwn nodes i t
  sequence ms t e d r =
      listed (kind.Sequence ms) ListKind.sequence (inside.Members ms) d.0 t e refl refl refl refl (λ l. refl)
      (omega arith)
      (IsContent.members ms _ _ (members nodes i node h own ms.now d.0 d.2 (subst IsReadable d.1 r).1
      (sound.members i node ms h e) (sound.defaults i node ms h e))) d.1

  -- ---- each kind

  number : (k : Kind) (tag : ℕ) (s : List ℕ) (t : Tree) → node.kind ≡ k → same_type k ≡ None → same_content k ≡ None
      → own_tag k ≡ Some tag → inside_here k ≡ inside.Number → t ≡ Tree.primitive (Primitive.bytes tag s)
      → IsReadable t → IsOwn nodes i t
  number k tag s t e f c o here is r =
      leaf k tag inside.Number (Primitive.bytes tag s) t e f c o here (λ l. refl) refl (IsContent.number s s refl) is r

  octets : (k : Kind) (tag : ℕ) (p : Primitive) (t : Tree) → node.kind ≡ k → same_type k ≡ None
      → same_content k ≡ None → own_tag k ≡ Some tag → inside_here k ≡ inside.Octets → primitive_tag p ≡ tag
      → t ≡ Tree.primitive p → IsReadable t → IsOwn nodes i t
  octets k tag p t e f c o here has_tag is r =
      leaf k tag inside.Octets p t e f c o here (λ l. refl) has_tag (IsContent.octets _ _ refl) is r

  bits : (k : Kind) (s : List ℕ) (t : Tree) → node.kind ≡ k → same_type k ≡ None → same_content k ≡ None
      → own_tag k ≡ Some 0x03 → inside_here k ≡ inside.Bits → t ≡ Tree.primitive (Primitive.bytes 0x03 s)
      → IsReadable t → IsOwn nodes i t
  bits k s t e f c o here is r =
      leaf k 0x03 inside.Bits (Primitive.bytes 0x03 s) t e f c o here (λ l. refl) refl (IsContent.bits s s refl) is r

  other : (k : Kind) (tag : ℕ) (p : Primitive) (t : Tree) → node.kind ≡ k → same_type k ≡ None
      → same_content k ≡ None → own_tag k ≡ Some tag → inside_here k ≡ inside.Same → primitive_tag p ≡ tag
      → t ≡ Tree.primitive p → IsReadable t → IsOwn nodes i t
  other k tag p t e f c o here has_tag is r =
      leaf k tag inside.Same p t e f c o here (λ l. refl) has_tag (IsContent.same _ _ refl) is r

  by_kind : (k : Kind) (t : Tree) → node.kind ≡ k → Denotes (type_from (before nodes i) k) t → IsReadable t
      → IsOwn nodes i t
  by_kind (kind.Reference j) t e d r = same (kind.Reference j) j t e refl refl (λ x. refl) d r
  by_kind kind.Boolean t e d r =
      leaf kind.Boolean 0x01 inside.Boolean (Primitive.boolean d.0) t e refl refl refl refl (λ l. refl) refl
      (IsContent.boolean _ _ (own_truth d.0)) d.1 r
  by_kind kind.Integer t e d r = number kind.Integer 0x02 d.0 t e refl refl refl refl d.1 r
  by_kind (kind.NamedInteger items) t e d r =
      number (kind.NamedInteger items) 0x02 (integer_content (pos d.0)) t e refl refl refl refl d.1 r
  by_kind (kind.Unsigned bits) t e d r =
      leaf (kind.Unsigned bits) 0x02 inside.Number (Primitive.unsigned d.0) t e refl refl refl refl (λ l. refl) refl
      (IsContent.number _ _ refl) d.1 r
  by_kind (kind.Signed bits) t e d r =
      number (kind.Signed bits) 0x02 (integer_content d.0) t e refl refl refl refl d.1 r
  by_kind (kind.Enumerated items) t e d r =
      number (kind.Enumerated items) 0x0A (integer_content (pos d.0)) t e refl refl refl refl d.1 r
  by_kind (kind.ExtensibleEnumerated items) t e d r =
      number (kind.ExtensibleEnumerated items) 0x0A d.0 t e refl refl refl refl d.1 r
  by_kind kind.BitString t e d r = bits kind.BitString d.0 t e refl refl refl refl d.1 r
  by_kind (kind.NamedBits items) t e d r = bits (kind.NamedBits items) d.0 t e refl refl refl refl d.1 r
  by_kind kind.OctetString t e d r =
      octets kind.OctetString 0x04 (Primitive.bytes 0x04 d.0) t e refl refl refl refl refl d.1 r
  by_kind kind.Null t e d r = other kind.Null 0x05 Primitive.null t e refl refl refl refl refl d r
  by_kind kind.ObjectIdentifier t e d r =
      other kind.ObjectIdentifier 0x06 (Primitive.bytes 0x06 d.0) t e refl refl refl refl refl d.1 r
  by_kind kind.RelativeOid t e d r =
      other kind.RelativeOid 0x0D (Primitive.bytes 0x0D d.0) t e refl refl refl refl refl d.1 r
  by_kind kind.Utf8String t e d r =
      octets kind.Utf8String 0x0C (Primitive.text d.0) t e refl refl refl refl refl d.1 r
  by_kind kind.Character t e d r = octets kind.Character 0x0C (Primitive.text d.0) t e refl refl refl refl refl d.1 r
  by_kind (kind.RestrictedString tag) t e d r =
      octets (kind.RestrictedString tag) tag (Primitive.bytes tag d.0) t e refl refl refl refl refl d.1 r
  by_kind kind.GeneralizedTime t e d r =
      octets kind.GeneralizedTime 0x18 (Primitive.bytes 0x18 d.0) t e refl refl refl refl refl d.1 r
  by_kind kind.UtcTime t e d r =
      octets kind.UtcTime 0x17 (Primitive.bytes 0x17 d.0) t e refl refl refl refl refl d.1 r
  by_kind kind.LaterTime t e d r =
      octets kind.LaterTime 0x18 (Primitive.bytes 0x18 d.0) t e refl refl refl refl refl d.1 r
  by_kind (kind.AnyContent tag) t e d r =
      other (kind.AnyContent tag) tag (Primitive.bytes tag d.0) t e refl refl refl refl refl d.1 r
  by_kind kind.AnyElement t e d r = raw kind.AnyElement d.0 t e (inl refl) refl refl d.1 r
  by_kind kind.WellFormedElement t e d r = raw kind.WellFormedElement d.0 t e (inr refl) refl refl d.1 r
  by_kind (kind.Sequence ms) t e d r = sequence ms t e d r
  by_kind (kind.Choice cs) t e d r =
      chosen cs d.0 t e d.1 (one_of nodes i node h own cs.now d.0 d.2 (subst IsReadable d.1 r))
  by_kind (kind.SequenceOf j) t e d r = sequence_of j t e d r
  by_kind (kind.SetOf j) t e d r = set_of j t e d r
  by_kind (kind.Wrapped w j) t e d r = wrapped w j t e d r
  by_kind (kind.ContentUnder tag j) t e d r = content_under tag j t e d r
  by_kind (kind.InRange least most j) t e d r =
      same (kind.InRange least most j) j t e refl refl (λ x. refl) d.0 r
  by_kind (kind.AtLeast least j) t e d r = same (kind.AtLeast least j) j t e refl refl (λ x. refl) d.0 r
  by_kind (kind.AtMost most j) t e d r = same (kind.AtMost most j) j t e refl refl (λ x. refl) d.0 r
  by_kind (kind.Outside least most j) t e d r =
      same (kind.Outside least most j) j t e refl refl (λ x. refl) d.0 r
  by_kind (kind.Sized least most j) t e d r = same (kind.Sized least most j) j t e refl refl (λ x. refl) d.0 r
  by_kind (kind.Permitted ranges j) t e d r = same (kind.Permitted ranges j) j t e refl refl (λ x. refl) d.0 r

-- ---- each node of a table

one_node-own : (nodes : List Node) (i : ℕ) → IsSoundTable nodes
    → ((j : ℕ) → j < i → (t : Tree) → Denotes (notation_of nodes j) t → IsReadable t → IsOwn nodes j t) → (t : Tree)
    → Denotes (notation_of nodes i) t → IsReadable t → IsOwn nodes i t
one_node-own nodes i sound own t d r =
    elim (slice_get_cases nodes i).1 [
      | inl w ↦
          by_kind nodes i w.0 w.2 own sound w.0.kind t refl (subst (λ n. Denotes n t) (one_node nodes i w.0 w.2) d) r
      | inr w ↦ absurd (no_values t (subst (λ n. Denotes n t) (past_end nodes i w.0) d))
    ]

own-below : (nodes : List Node) → IsSoundTable nodes → (b i : ℕ) → i < b → (t : Tree)
    → Denotes (notation_of nodes i) t → IsReadable t → IsOwn nodes i t
own-below nodes sound zero i less t d r = absurd (omega (arith, less))
own-below nodes sound (suc b) i less t d r =
    one_node-own nodes i sound
    (λ j l u e s. own-below nodes sound b j (omega (arith, l, less)) u e s) t d r

pub own-ber : (nodes : List Node) (i : ℕ) (t : Tree) → IsSoundTable nodes → Denotes (notation_of nodes i) t
    → IsReadable t → IsOne nodes i (der t) (der t)
own-ber nodes i t sound d r = (own-below nodes sound (suc i) i (omega arith) t d r).one
