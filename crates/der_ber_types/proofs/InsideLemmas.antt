-- What is in elements: at most one thing by each tag, and nothing where no rule says it.
use Rattle.std.proofs.Common.{◌≡◌, ℕ, ◌+◌, ◌<◌, ◌≤◌, List, Option, Some, None, IfSome, IfNone, sym, ap, ap₂, ◌∙◌}
use Rattle.std.proofs.Common.{slice_get, length, subst, arith, refl, inl, inr, Bool, true, false, is_some}
use Rattle.std.proofs.lemmas.Option.{slice_get_within}
use Rattle.picky_der_core.specs.Tag.{is_constructed}
use Rattle.std.proofs.lemmas.Bool.{cases_lt}
use Rattle.std.specs.Borrow.{Bor}
use Rattle.der_schema.specs.declared.node.Alternative.{Alternative}
use Rattle.der_schema.specs.declared.node.Kind.{Kind}
use Rattle.der_schema.specs.declared.node.Kind.TheVariants as kind
use Rattle.der_schema.specs.declared.node.Node.{Node}
use Rattle.der_ber_types.specs.declared.inside.Inside.{Inside}
use Rattle.der_schema.specs.Tags.{same_type, same_content, own_tag}
use Rattle.der_ber_types.specs.Kinds.{inside_same, inside_here, in_parts}
use Rattle.der_ber_types.specs.Inside.{HasInside, HasTag, IsInside, IsInsideOne, IsInsideOwn, IsNoInside, IsNoInsideOwn}
use Rattle.der_ber_types.specs.Inside.{HasNoneTag, NoneBefore, IsAny}

some-same : {A : Type 0} (o : Option A) (a b : A) → o ≡ Some a → o ≡ Some b → a ≡ b
some-same o a b e f = cc

-- the kind of a node
kind-same : (nodes : List Node) (i : ℕ) (n m : Node) → slice_get nodes i ≡ Some n → slice_get nodes i ≡ Some m
    → n.kind ≡ m.kind
kind-same nodes i n m e f = ap (λ l. l.kind) (some-same (slice_get nodes i) n m e f)

-- ---- contents

pub no_inside-none : (nodes : List Node) (i : ℕ) → slice_get nodes i ≡ None → IsNoInside nodes i
no_inside-none nodes i none x (HasInside.other _ j node _ y e f less p same) = cc
no_inside-none nodes i none x (HasInside.here _ node _ e f same) = cc

pub no_inside-other : (nodes : List Node) (i j : ℕ) (node : Node) → slice_get nodes i ≡ Some node
    → same_content node.kind ≡ Some j → (j < i → IsNoInside nodes j) → IsNoInside nodes i
no_inside-other nodes i j node is same none x (HasInside.other _ k m _ y e f less p also) =
    let kinds : node.kind ≡ m.kind = kind-same nodes i node m is e in
    let here : j ≡ k = some-same (same_content node.kind) j k same (ap same_content kinds ∙ f) in
    none (subst (λ l. l < i) (sym here) less) y (subst (λ l. HasInside nodes l y) (sym here) p)
no_inside-other nodes i j node is same none x (HasInside.here _ m _ e f also) =
    let kinds : node.kind ≡ m.kind = kind-same nodes i node m is e in
    let wrong : Some j ≡ None = sym same ∙ ap same_content kinds ∙ f in
    cc

pub inside-one : (nodes : List Node) (i : ℕ) (x y : Inside) → HasInside nodes i x → HasInside nodes i y → x ≡ y
inside-one nodes i x y (HasInside.other _ j n _ a e f less p same) (HasInside.other _ k m _ b g h lesser q also) =
    let kinds : n.kind ≡ m.kind = kind-same nodes i n m e g in
    let here : j ≡ k = some-same (same_content n.kind) j k f (ap same_content kinds ∙ h) in
    let inner : a ≡ b = inside-one nodes j a b p (subst (λ l. HasInside nodes l b) (sym here) q) in
    same ∙ ap₂ inside_same kinds inner ∙ sym also
inside-one nodes i x y (HasInside.other _ j n _ a e f less p same) (HasInside.here _ m _ g h also) =
    let kinds : n.kind ≡ m.kind = kind-same nodes i n m e g in
    let wrong : Some j ≡ None = sym f ∙ ap same_content kinds ∙ h in
    cc
inside-one nodes i x y (HasInside.here _ n _ e f same) (HasInside.other _ k m _ b g h lesser q also) =
    let kinds : n.kind ≡ m.kind = kind-same nodes i n m e g in
    let wrong : None ≡ Some k = sym f ∙ ap same_content kinds ∙ h in
    cc
inside-one nodes i x y (HasInside.here _ n _ e f same) (HasInside.here _ m _ g h also) =
    same ∙ ap inside_here (kind-same nodes i n m e g) ∙ sym also

-- ---- types whose elements have a tag of their own

pub own-one : (nodes : List Node) (i own tag : ℕ) (x y : Inside) → IsInsideOwn nodes i own tag x
    → IsInsideOwn nodes i own tag y → x ≡ y
own-one nodes i own tag x y (IsInsideOwn.whole e p) (IsInsideOwn.whole f q) = inside-one nodes i x y p q
own-one nodes i own tag x y (IsInsideOwn.whole e p) (IsInsideOwn.parts b k f q g) = absurd (omega arith)
own-one nodes i own tag x y (IsInsideOwn.parts a k e p f) (IsInsideOwn.whole g q) = absurd (omega arith)
own-one nodes i own tag x y (IsInsideOwn.parts a k e p f) (IsInsideOwn.parts b l g q h) =
    let inner : a ≡ b = inside-one nodes i a b p q in
    some-same (in_parts a) x y f (ap in_parts inner ∙ h)

-- ---- elements of a type

pub tag_of : (nodes : List Node) (i tag : ℕ) (x : Inside) → IsInside nodes i tag x → HasTag nodes i tag
tag_of nodes i tag x (IsInside.other _ j _ n _ e f less p) = HasTag.other i j tag n e f less (tag_of nodes j tag x p)
tag_of nodes i tag x (IsInside.choice _ _ n cs _ e f (IsInsideOne.first _ k _ _ a _ g less none p)) =
    HasTag.choice i k tag n cs a e f g less (tag_of nodes a.node tag x p)
tag_of nodes i tag x (IsInside.any _ _ n _ e f same) = HasTag.any i tag n e f
tag_of nodes i tag x (IsInside.own _ own _ n _ e f g p) = HasTag.own i own tag n x e f g p

-- ---- different kinds

-- what an equation of kinds says of a function that is `None` there
none_of : {A : Type 0} (f : Kind → Option A) (k l : Kind) (a : A) → k ≡ l → f l ≡ None → f k ≡ Some a → ⊥
none_of f k l a e none some = let wrong : None ≡ Some a = sym none ∙ sym (ap f e) ∙ some in cc

any-none : {A : Type 0} (f : Kind → Option A) (k : Kind) (a : A) → f kind.AnyElement ≡ None
    → f kind.WellFormedElement ≡ None → IsAny k → f k ≡ Some a → ⊥
any-none f k a none also (inl e) some = none_of f k kind.AnyElement a e none some
any-none f k a none also (inr e) some = none_of f k kind.WellFormedElement a e also some

choice-same : (k : Kind) (cs ds : Bor (List Alternative)) → k ≡ kind.Choice cs → k ≡ kind.Choice ds → cs ≡ ds
choice-same k cs ds e f = cc

-- ---- no element has a tag

pub no_tag-none : (nodes : List Node) (i tag : ℕ) → slice_get nodes i ≡ None → HasTag nodes i tag → ⊥
no_tag-none nodes i tag none (HasTag.other _ j _ n e f less p) = cc
no_tag-none nodes i tag none (HasTag.choice _ k _ n cs a e f g less p) = cc
no_tag-none nodes i tag none (HasTag.any _ _ n e f) = cc
no_tag-none nodes i tag none (HasTag.own _ own _ n x e f g p) = cc

pub no_tag-other : (nodes : List Node) (i j tag : ℕ) (node : Node) → slice_get nodes i ≡ Some node
    → same_type node.kind ≡ Some j → (j < i → HasTag nodes j tag → ⊥) → HasTag nodes i tag → ⊥
no_tag-other nodes i j tag node is same none (HasTag.other _ k _ m e f less p) =
    let kinds : node.kind ≡ m.kind = kind-same nodes i node m is e in
    let here : j ≡ k = some-same (same_type node.kind) j k same (ap same_type kinds ∙ f) in
    none (subst (λ l. l < i) (sym here) less) (subst (λ l. HasTag nodes l tag) (sym here) p)
no_tag-other nodes i j tag node is same none (HasTag.choice _ k _ m cs a e f g less p) =
    none_of same_type node.kind (kind.Choice cs) j (kind-same nodes i node m is e ∙ f) refl same
no_tag-other nodes i j tag node is same none (HasTag.any _ _ m e f) =
    any-none same_type m.kind j refl refl f (ap same_type (sym (kind-same nodes i node m is e)) ∙ same)
no_tag-other nodes i j tag node is same none (HasTag.own _ own _ m x e f g p) =
    let wrong : None ≡ Some j = sym f ∙ sym (ap same_type (kind-same nodes i node m is e)) ∙ same in
    cc

pub no_tag-choice : (nodes : List Node) (i tag : ℕ) (node : Node) (cs : Bor (List Alternative))
    → slice_get nodes i ≡ Some node → node.kind ≡ kind.Choice cs → HasNoneTag nodes i cs.now tag
    → HasTag nodes i tag → ⊥
no_tag-choice nodes i tag node cs is same none (HasTag.other _ k _ m e f less p) =
    none_of same_type m.kind (kind.Choice cs) k (sym (kind-same nodes i node m is e) ∙ same) refl f
no_tag-choice nodes i tag node cs is same none (HasTag.choice _ k _ m ds a e f g less p) =
    let lists : cs ≡ ds = choice-same node.kind cs ds same (kind-same nodes i node m is e ∙ f) in
    none k a (ap (λ l. slice_get l.now k) lists ∙ g) less p
no_tag-choice nodes i tag node cs is same none (HasTag.any _ _ m e (inl f)) =
    let wrong : kind.Choice cs ≡ kind.AnyElement = sym same ∙ kind-same nodes i node m is e ∙ f in
    cc
no_tag-choice nodes i tag node cs is same none (HasTag.any _ _ m e (inr f)) =
    let wrong : kind.Choice cs ≡ kind.WellFormedElement = sym same ∙ kind-same nodes i node m is e ∙ f in
    cc
no_tag-choice nodes i tag node cs is same none (HasTag.own _ own _ m x e f g p) =
    none_of own_tag m.kind (kind.Choice cs) own (sym (kind-same nodes i node m is e) ∙ same) refl g

-- of a type with a tag of its own
pub no_tag-own : (nodes : List Node) (i tag : ℕ) (node : Node) (own : ℕ) → slice_get nodes i ≡ Some node
    → same_type node.kind ≡ None → ((cs : Bor (List Alternative)) → node.kind ≡ kind.Choice cs → ⊥)
    → (IsAny node.kind → ⊥) → own_tag node.kind ≡ Some own → IsNoInsideOwn nodes i own tag → HasTag nodes i tag → ⊥
no_tag-own nodes i tag node own is same choice any has none (HasTag.other _ k _ m e f less p) =
    let wrong : None ≡ Some k = sym same ∙ ap same_type (kind-same nodes i node m is e) ∙ f in
    cc
no_tag-own nodes i tag node own is same choice any has none (HasTag.choice _ k _ m ds a e f g less p) =
    choice ds (kind-same nodes i node m is e ∙ f)
no_tag-own nodes i tag node own is same choice any has none (HasTag.any _ _ m e f) =
    any (subst IsAny (sym (kind-same nodes i node m is e)) f)
no_tag-own nodes i tag node own is same choice any has none (HasTag.own _ o _ m x e f g p) =
    let owns : own ≡ o = some-same (own_tag node.kind) own o has (ap own_tag (kind-same nodes i node m is e) ∙ g) in
    none x (subst (λ l. IsInsideOwn nodes i l tag x) (sym owns) p)

-- neither any element
pub no-any : (k : Kind) → (k ≡ kind.AnyElement → ⊥) → (k ≡ kind.WellFormedElement → ⊥) → IsAny k → ⊥
no-any k none also (inl e) = none e
no-any k none also (inr e) = also e

-- one alternative more hasn't the tag
pub none-next : (nodes : List Node) (i : ℕ) (cs : List Alternative) (k tag : ℕ) → NoneBefore nodes i cs k tag
    → ((a : Alternative) → slice_get cs k ≡ Some a → a.node < i → HasTag nodes a.node tag → ⊥)
    → NoneBefore nodes i cs (k + 1) tag
none-next nodes i cs k tag before here j a less is small has = elim (cases_lt j k) [
  | inl earlier ↦ before j a earlier is small has
  | inr h ↦
      let same : j ≡ k = omega arith in
      here a (ap (slice_get cs) (sym same) ∙ is) small has
]

pub none-all : (nodes : List Node) (i : ℕ) (cs : List Alternative) (k tag : ℕ) → NoneBefore nodes i cs k tag
    → length cs ≤ k → HasNoneTag nodes i cs tag
none-all nodes i cs k tag before past j a is small has =
    let within : j < length cs = slice_get_within cs j a is in
    before j a (omega arith) is small has

-- ---- what a call returned

pub if_none : {A : Type 0} {P Q : Type 0} (r : Option A) → IfNone r P → (P → Q) → IfNone r Q
if_none None p f = f p
if_none (Some x) p f = tt

-- whether something is in an element
pub has_tag-some : (nodes : List Node) (i tag : ℕ) (r : Option Inside) (b : Bool) → IfSome r (IsInside nodes i tag)
    → b ≡ is_some r → b ≡ true → HasTag nodes i tag
has_tag-some nodes i tag (Some x) b p e f = tag_of nodes i tag x p
has_tag-some nodes i tag None b p e f = let wrong : false ≡ true = sym e ∙ f in cc

pub has_tag-none : (nodes : List Node) (i tag : ℕ) (r : Option Inside) (b : Bool) → IfNone r (HasTag nodes i tag → ⊥)
    → b ≡ is_some r → b ≡ false → HasTag nodes i tag → ⊥
has_tag-none nodes i tag None b none e f = none
has_tag-none nodes i tag (Some x) b none e f = let wrong : true ≡ false = sym e ∙ f in cc

-- a string in parts
pub own-parts : (nodes : List Node) (i own tag : ℕ) (y : Inside) (r : Option Inside) → is_constructed tag ≡ true
    → own + 0x20 ≡ tag → HasInside nodes i y → r ≡ in_parts y → IfSome r (IsInsideOwn nodes i own tag)
own-parts nodes i own tag y None k e p f = tt
own-parts nodes i own tag y (Some x) k e p f = IsInsideOwn.parts y k e p (sym f)

pub none-parts : (nodes : List Node) (i own tag : ℕ) (y : Inside) (r : Option Inside) → own + 0x20 ≡ tag
    → HasInside nodes i y → r ≡ in_parts y → IfNone r (IsNoInsideOwn nodes i own tag)
none-parts nodes i own tag y (Some x) e p f = tt
none-parts nodes i own tag y None e p f = none
  where
    none : IsNoInsideOwn nodes i own tag
    none x (IsInsideOwn.whole same q) = omega (arith, e, same)
    none x (IsInsideOwn.parts b k g q h) =
        let wrong : None ≡ Some x = f ∙ ap in_parts (inside-one nodes i y b p q) ∙ h in
        cc

-- ---- only one thing is in an element

mutual
  pub inside-same : (nodes : List Node) (i tag : ℕ) (x y : Inside) → IsInside nodes i tag x → IsInside nodes i tag y
      → x ≡ y
  inside-same nodes i tag x y (IsInside.other _ j _ n _ e f less p) (IsInside.other _ k _ m _ g h lesser q) =
      let here : j ≡ k = some-same (same_type n.kind) j k f (ap same_type (kind-same nodes i n m e g) ∙ h) in
      inside-same nodes j tag x y p (subst (λ l. IsInside nodes l tag y) (sym here) q)
  inside-same nodes i tag x y (IsInside.other _ j _ n _ e f less p) (IsInside.choice _ _ m ds _ g h q) =
      absurd (none_of same_type n.kind (kind.Choice ds) j (kind-same nodes i n m e g ∙ h) refl f)
  inside-same nodes i tag x y (IsInside.other _ j _ n _ e f less p) (IsInside.any _ _ m _ g h q) =
      absurd (any-none same_type m.kind j refl refl h (ap same_type (sym (kind-same nodes i n m e g)) ∙ f))
  inside-same nodes i tag x y (IsInside.other _ j _ n _ e f less p) (IsInside.own _ own _ m _ g h o q) =
      let wrong : None ≡ Some j = sym h ∙ sym (ap same_type (kind-same nodes i n m e g)) ∙ f in
      absurd cc
  inside-same nodes i tag x y (IsInside.choice _ _ n cs _ e f p) (IsInside.other _ k _ m _ g h lesser q) =
      absurd (none_of same_type m.kind (kind.Choice cs) k (sym (kind-same nodes i n m e g) ∙ f) refl h)
  inside-same nodes i tag x y (IsInside.choice _ _ n cs _ e f p) (IsInside.choice _ _ m ds _ g h q) =
      let lists : cs ≡ ds = choice-same n.kind cs ds f (kind-same nodes i n m e g ∙ h) in
      one-same nodes i cs.now tag x y p (subst (λ l. IsInsideOne nodes i l.now tag y) (sym lists) q)
  inside-same nodes i tag x y (IsInside.choice _ _ n cs _ e f p) (IsInside.any _ _ m _ g (inl h) q) =
      let wrong : kind.Choice cs ≡ kind.AnyElement = sym f ∙ kind-same nodes i n m e g ∙ h in
      absurd cc
  inside-same nodes i tag x y (IsInside.choice _ _ n cs _ e f p) (IsInside.any _ _ m _ g (inr h) q) =
      let wrong : kind.Choice cs ≡ kind.WellFormedElement = sym f ∙ kind-same nodes i n m e g ∙ h in
      absurd cc
  inside-same nodes i tag x y (IsInside.choice _ _ n cs _ e f p) (IsInside.own _ own _ m _ g h o q) =
      absurd (none_of own_tag m.kind (kind.Choice cs) own (sym (kind-same nodes i n m e g) ∙ f) refl o)
  inside-same nodes i tag x y (IsInside.any _ _ n _ e f p) (IsInside.other _ k _ m _ g h lesser q) =
      absurd (any-none same_type n.kind k refl refl f (ap same_type (kind-same nodes i n m e g) ∙ h))
  inside-same nodes i tag x y (IsInside.any _ _ n _ e (inl f) p) (IsInside.choice _ _ m ds _ g h q) =
      let wrong : kind.Choice ds ≡ kind.AnyElement = sym h ∙ sym (kind-same nodes i n m e g) ∙ f in
      absurd cc
  inside-same nodes i tag x y (IsInside.any _ _ n _ e (inr f) p) (IsInside.choice _ _ m ds _ g h q) =
      let wrong : kind.Choice ds ≡ kind.WellFormedElement = sym h ∙ sym (kind-same nodes i n m e g) ∙ f in
      absurd cc
  inside-same nodes i tag x y (IsInside.any _ _ n _ e f p) (IsInside.any _ _ m _ g h q) = p ∙ sym q
  inside-same nodes i tag x y (IsInside.any _ _ n _ e f p) (IsInside.own _ own _ m _ g h o q) =
      absurd (any-none own_tag n.kind own refl refl f (ap own_tag (kind-same nodes i n m e g) ∙ o))
  inside-same nodes i tag x y (IsInside.own _ own _ n _ e f o p) (IsInside.other _ k _ m _ g h lesser q) =
      let wrong : None ≡ Some k = sym f ∙ ap same_type (kind-same nodes i n m e g) ∙ h in
      absurd cc
  inside-same nodes i tag x y (IsInside.own _ own _ n _ e f o p) (IsInside.choice _ _ m ds _ g h q) =
      absurd (none_of own_tag n.kind (kind.Choice ds) own (kind-same nodes i n m e g ∙ h) refl o)
  inside-same nodes i tag x y (IsInside.own _ own _ n _ e f o p) (IsInside.any _ _ m _ g h q) =
      absurd (any-none own_tag m.kind own refl refl h (ap own_tag (sym (kind-same nodes i n m e g)) ∙ o))
  inside-same nodes i tag x y (IsInside.own _ own _ n _ e f o p) (IsInside.own _ other _ m _ g h l q) =
      let owns : own ≡ other =
      some-same (own_tag n.kind) own other o (ap own_tag (kind-same nodes i n m e g) ∙ l) in
      own-one nodes i own tag x y p (subst (λ t. IsInsideOwn nodes i t tag y) (sym owns) q)

  one-same : (nodes : List Node) (i : ℕ) (cs : List Alternative) (tag : ℕ) (x y : Inside)
      → IsInsideOne nodes i cs tag x → IsInsideOne nodes i cs tag y → x ≡ y
  one-same nodes i cs tag x y (IsInsideOne.first _ k _ _ a _ e less none p)
      (IsInsideOne.first _ l _ _ b _ f lesser nothing q) = elim (cases_lt k l) [
        | inl before ↦ absurd (nothing k a before e less (tag_of nodes a.node tag x p))
        | inr h ↦ elim (cases_lt l k) [
          | inl after ↦ absurd (none l b after f lesser (tag_of nodes b.node tag y q))
          | inr g ↦
              let here : k ≡ l = omega arith in
              let alternatives : a ≡ b = some-same (slice_get cs k) a b e (ap (slice_get cs) here ∙ f) in
              inside-same nodes a.node tag x y p (subst (λ d. IsInside nodes d.node tag y) (sym alternatives) q)
        ]
      ]
