-- Which elements have the value of a default.
use Rattle.std.proofs.Common.{◌≡◌, ℕ, List, [], ◌++◌, sym, ap, ◌∙◌, subst, append-nil}
use Rattle.std.proofs.Common.{IsTrue, false}
use Rattle.std.proofs.lemmas.Bool.{false≢true}
use Rattle.picky_der_core.specs.Element.{tlv}
use Rattle.picky_der_core.specs.Tag.{number_of, IsTagNumber}
use Rattle.der_path.specs.Elements.{BeginsWith, BeginsWithNone}
use Rattle.der_path.proofs.Elements.{one_element}
use Rattle.der_schema.specs.declared.node.DefaultValue.{DefaultValue}
use Rattle.der_schema.specs.declared.node.Node.{Node}
use Rattle.der_ber_types.specs.declared.inside.Inside.{Inside}
use Rattle.der_ber_types.specs.declared.inside.Inside.TheVariants as inside
use Rattle.der_ber_types.specs.Inside.{IsInside, HasTag}
use Rattle.der_ber_types.specs.Values.{IsContentOf, IsValue}
use Rattle.der_ber_types.proofs.InsideLemmas.{inside-same, tag_of}

-- a test of what isn't
pub never : {P : Type 0} → (P → ⊥) → (IsTrue false → P) × (P → IsTrue false)
never none = (λ h. absurd (false≢true h), λ p. absurd (none p))

-- an element begins with itself
pub begins-alone : (tag : ℕ) (content element : List ℕ) → IsTagNumber (number_of tag) → element ≡ tlv tag content
    → BeginsWith element tag content []
begins-alone tag content element number is =
    record { number = number; is = is ∙ sym (append-nil (tlv tag content)) }

module _ (nodes : List Node) (v : DefaultValue) (i : ℕ) (element : List ℕ) where
  -- no element is at the front
  pub no_value-none : BeginsWithNone element → IsValue nodes v i element → ⊥
  no_value-none none (IsValue.own _ tag x content _ number it is e) =
      none tag content [] (begins-alone tag content element number e)
  no_value-none none (IsValue.explicit _ j tag content _ number it is e) =
      none tag content [] (begins-alone tag content element number e)

  -- the element at the front is another one
  pub no_value-more : (t : ℕ) (c after : List ℕ) → BeginsWith element t c after → (after ≡ [] → ⊥)
      → IsValue nodes v i element → ⊥
  no_value-more t c after begins more (IsValue.own _ tag x content _ number it is e) =
      more (one_element element t tag c content after [] begins (begins-alone tag content element number e)).2
  no_value-more t c after begins more (IsValue.explicit _ j tag content _ number it is e) =
      more (one_element element t tag c content after [] begins (begins-alone tag content element number e)).2

  -- it has no tag of the type
  pub no_value-tag : (t : ℕ) (c after : List ℕ) → BeginsWith element t c after → (HasTag nodes i t → ⊥)
      → IsValue nodes v i element → ⊥
  no_value-tag t c after begins none (IsValue.own _ tag x content _ number it is e) =
      let same = one_element element t tag c content after [] begins (begins-alone tag content element number e) in
      none (subst (HasTag nodes i) (sym same.0) (tag_of nodes i tag x it))
  no_value-tag t c after begins none (IsValue.explicit _ j tag content _ number it is e) =
      let same = one_element element t tag c content after [] begins (begins-alone tag content element number e) in
      none (subst (HasTag nodes i) (sym same.0) (tag_of nodes i tag _ it))

  -- it is in an explicit tag
  pub value-explicit : (t j : ℕ) (c after : List ℕ) → BeginsWith element t c after → after ≡ []
      → IsInside nodes i t (inside.One j) → IsValue nodes v j c → IsValue nodes v i element
  value-explicit t j c after begins none is value =
      IsValue.explicit i j t c element begins.number is value
      (begins.is ∙ ap (λ a. tlv t c ++ a) none ∙ append-nil (tlv t c))

  pub explicit-value : (t j : ℕ) (c after : List ℕ) → BeginsWith element t c after
      → IsInside nodes i t (inside.One j) → IsValue nodes v i element → IsValue nodes v j c
  explicit-value t j c after begins is (IsValue.own _ tag x content _ number it of e) =
      let same = one_element element t tag c content after [] begins (begins-alone tag content element number e) in
      let one : inside.One j ≡ x =
      inside-same nodes i t (inside.One j) x is (subst (λ l. IsInside nodes i l x) (sym same.0) it) in
      absurd (subst (λ l. IsContentOf l v content) (sym one) of)
  explicit-value t j c after begins is (IsValue.explicit _ k tag content _ number it value e) =
      let same = one_element element t tag c content after [] begins (begins-alone tag content element number e) in
      let one : inside.One j ≡ inside.One k =
      inside-same nodes i t (inside.One j) (inside.One k) is
      (subst (λ l. IsInside nodes i l (inside.One k)) (sym same.0) it) in
      let here : j ≡ k = cc in
      subst (λ l. IsValue nodes v l c) (sym here) (subst (IsValue nodes v k) (sym same.1) value)

  -- it is in no explicit tag
  pub value-own : (t : ℕ) (x : Inside) (c after : List ℕ) → BeginsWith element t c after → after ≡ []
      → IsInside nodes i t x → IsContentOf x v c → IsValue nodes v i element
  value-own t x c after begins none is value =
      IsValue.own i t x c element begins.number is value
      (begins.is ∙ ap (λ a. tlv t c ++ a) none ∙ append-nil (tlv t c))

  pub own-value : (t : ℕ) (x : Inside) (c after : List ℕ) → BeginsWith element t c after → IsInside nodes i t x
      → ((j : ℕ) → x ≡ inside.One j → ⊥) → IsValue nodes v i element → IsContentOf x v c
  own-value t x c after begins is other (IsValue.own _ tag y content _ number it of e) =
      let same = one_element element t tag c content after [] begins (begins-alone tag content element number e) in
      let one : x ≡ y = inside-same nodes i t x y is (subst (λ l. IsInside nodes i l y) (sym same.0) it) in
      subst (λ l. IsContentOf l v c) (sym one) (subst (IsContentOf y v) (sym same.1) of)
  own-value t x c after begins is other (IsValue.explicit _ k tag content _ number it value e) =
      let same = one_element element t tag c content after [] begins (begins-alone tag content element number e) in
      absurd (other k (inside-same nodes i t x (inside.One k) is
      (subst (λ l. IsInside nodes i l (inside.One k)) (sym same.0) it)))
