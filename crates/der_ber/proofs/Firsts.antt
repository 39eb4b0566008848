-- The first of some elements.
use Rattle.std.proofs.Common.{◌≡◌, ℕ, Bool, true, false, List, [], ◌∷◌, ◌++◌, length, sym, ap, subst}
use Rattle.std.proofs.Common.{◌∙◌, append_assoc}
use Rattle.picky_der_core.specs.Tag.{is_constructed}
use Rattle.picky_der_core.specs.ElementLaws.{same_front}
use Rattle.der_ber.specs.declared.front.Until.{Until}
use Rattle.der_ber.specs.declared.front.Until.TheVariants as until
use Rattle.der_ber.specs.LongLengths.{is_reserved, IsTag, IsDefinite, BeginsPrimitive, BeginsConstructed}
use Rattle.der_ber.specs.Fronts.{IsEnd, Opens}
use Rattle.der_ber.proofs.LengthLemmas.{same_length, not_indefinite}

-- ---- tags

pub two_forms : (s t : ℕ) → s ≡ t → IsTag s false → IsTag t true → ⊥
two_forms s t e h k =
    let clear : is_constructed t ≡ false = subst (λ x. is_constructed x ≡ false) e h.form in
    let bad : true ≡ false = sym k.form ∙ clear in
    cc

-- no elements end before a tag
pub no_end : (tag : ℕ) (form : Bool) (rest : List ℕ) (u : Until) (after : List ℕ) → IsTag tag form
    → IsEnd u (tag ∷ rest) after → ⊥
no_end tag form rest until.End after h end = let bad : tag ∷ rest ≡ [] = end.0 in cc
no_end tag form rest until.EndOfContents after h end =
    let zero : tag ≡ 0x00 = cc in
    let bad : true ≡ false = subst (λ t. is_reserved t ≡ false) zero h.free in
    cc

-- ---- one of the definite form, and bytes after it

module _ (tag : ℕ) (c s after x : List ℕ) (d : IsDefinite tag c s after) where
  pub definite_then : s ++ x ≡ tag ∷ (d.octets ++ (c ++ (after ++ x)))
  definite_then =
      ap (λ l. l ++ x) d.is
      ∙ ap (λ l. tag ∷ l)
      (append_assoc d.octets (c ++ after) x ∙ ap (λ l. d.octets ++ l) (append_assoc c after x))

  pub definite_more : IsDefinite tag c (s ++ x) (after ++ x)
  definite_more = record { octets = d.octets; is_length = d.is_length; is = definite_then }

pub same_definite : (tag tag' : ℕ) (c c' s t after after' x y : List ℕ) → IsDefinite tag c s after
    → IsDefinite tag' c' t after' → s ++ x ≡ t ++ y → (tag ≡ tag') × (c ≡ c') × (after ++ x ≡ after' ++ y)
same_definite tag tag' c c' s t after after' x y d e same =
    let is : tag ∷ (d.octets ++ (c ++ (after ++ x))) ≡ tag' ∷ (e.octets ++ (c' ++ (after' ++ y))) =
    sym (definite_then tag c s after x d) ∙ same ∙ definite_then tag' c' t after' y e in
    let others : d.octets ++ (c ++ (after ++ x)) ≡ e.octets ++ (c' ++ (after' ++ y)) = cc in
    let (sizes, octets, contents) =
    same_length (length c) (length c') d.octets e.octets (c ++ (after ++ x)) (c' ++ (after' ++ y)) d.is_length
    e.is_length others in
    let parts = same_front c c' (after ++ x) (after' ++ y) sizes contents in
    (cc, parts.0, parts.1)

-- ---- one of the indefinite form

-- its bytes
abbrev pub indefinite_bytes : ℕ → List ℕ → List ℕ → List ℕ
indefinite_bytes tag c after = tag ∷ (0x80 ∷ (c ++ (0x00 ∷ (0x00 ∷ after))))

pub indefinite_then : (tag : ℕ) (c s after x : List ℕ) → s ≡ indefinite_bytes tag c after
    → s ++ x ≡ indefinite_bytes tag c (after ++ x)
indefinite_then tag c s after x e =
    ap (λ l. l ++ x) e ∙ ap (λ l. tag ∷ (0x80 ∷ l)) (append_assoc c (0x00 ∷ (0x00 ∷ after)) x)

-- it isn't of the definite form
pub one_form : (tag tag' : ℕ) (c s after x w : List ℕ) → IsDefinite tag c s after → s ++ x ≡ tag' ∷ (0x80 ∷ w) → ⊥
one_form tag tag' c s after x w d e =
    let is : tag ∷ (d.octets ++ (c ++ (after ++ x))) ≡ tag' ∷ (0x80 ∷ w) =
    sym (definite_then tag c s after x d) ∙ e in
    let others : d.octets ++ (c ++ (after ++ x)) ≡ 0x80 ∷ w = cc in
    not_indefinite (length c) d.octets (c ++ (after ++ x)) w d.is_length others

-- ---- a constructed one

-- its tag
pub record HasTag (tag : ℕ) (form : Bool) (bytes : List ℕ) : Type 0 where
  pub is_tag : IsTag tag form
  pub rest : List ℕ
  pub is : bytes ≡ tag ∷ rest

pub primitive_tag : (tag : ℕ) (c : List ℕ) (O : List ℕ → Type 0) (s : List ℕ) → BeginsPrimitive tag c O s
    → HasTag tag false s
primitive_tag tag c O s h = record { is_tag = h.is_tag; rest = _; is = h.definite.is }

pub constructed_tag : (tag : ℕ) (I O : List ℕ → Type 0) (s : List ℕ) → BeginsConstructed tag I O s → HasTag tag true s
constructed_tag tag I O s (BeginsConstructed.definite c after is_tag d i o) =
    record { is_tag = is_tag; rest = _; is = d.is }
constructed_tag tag I O s (BeginsConstructed.indefinite c after is_tag e i o) =
    record { is_tag = is_tag; rest = _; is = e }

pub opens_tag : (u : Until) (tag : ℕ) (bytes : List ℕ) (start : ℕ) (content : List ℕ)
    → Opens u tag bytes start content → HasTag tag true bytes
opens_tag until.End tag bytes start content o = record { is_tag = o.is_tag; rest = _; is = o.definite.is }
opens_tag until.EndOfContents tag bytes start content o = record { is_tag = o.is_tag; rest = _; is = o.definite }

pub tag_then : (tag : ℕ) (form : Bool) (s x : List ℕ) (h : HasTag tag form s) → s ++ x ≡ tag ∷ (h.rest ++ x)
tag_then tag form s x h = ap (λ l. l ++ x) h.is

-- elements of two forms don't begin the same bytes
pub other_form : (tag tag' : ℕ) (s t x y : List ℕ) → HasTag tag false s → HasTag tag' true t → s ++ x ≡ t ++ y → ⊥
other_form tag tag' s t x y h k e =
    let is : tag ∷ (h.rest ++ x) ≡ tag' ∷ (k.rest ++ y) =
    sym (tag_then tag false s x h) ∙ e ∙ tag_then tag' true t y k in
    two_forms tag tag' (cc) h.is_tag k.is_tag

-- nor is an end there
pub not_ended : (tag : ℕ) (form : Bool) (s x y : List ℕ) (u : Until) (z : List ℕ) → HasTag tag form s → s ++ x ≡ y
    → IsEnd u y z → ⊥
not_ended tag form s x y u z h e end =
    no_end tag form (h.rest ++ x) u z h.is_tag
    (subst (λ l. IsEnd u l z) (sym e ∙ tag_then tag form s x h) end)

-- two constructed elements that begin the same bytes
pub record SameFirsts (tag tag' : ℕ) (I O I' O' : List ℕ → Type 0) (x y : List ℕ) : Type 0 where
  pub tags : tag ≡ tag'
  pub content : List ℕ
  pub inside : I content
  pub inside' : I' content
  pub after : List ℕ
  pub after' : List ℕ
  pub others : O after
  pub others' : O' after'
  pub is : after ++ x ≡ after' ++ y

-- the content of the indefinite form says where it ends
abbrev pub AreClosed : (List ℕ → Type 0) → (List ℕ → Type 0) → Type 0
AreClosed I I' =
    (c c' x y : List ℕ) → I c → I' c' → c ++ (0x00 ∷ (0x00 ∷ x)) ≡ c' ++ (0x00 ∷ (0x00 ∷ y)) → (c ≡ c') × (x ≡ y)

pub same_firsts : (tag tag' : ℕ) (I O I' O' : List ℕ → Type 0) (s t x y : List ℕ) → AreClosed I I'
    → BeginsConstructed tag I O s → BeginsConstructed tag' I' O' t → s ++ x ≡ t ++ y
    → SameFirsts tag tag' I O I' O' x y
same_firsts tag tag' I O I' O' s t x y closed (BeginsConstructed.definite c after is_tag d i o)
    (BeginsConstructed.definite c' after' is_tag' d' i' o') same =
    let (tags, contents, others) = same_definite tag tag' c c' s t after after' x y d d' same in
    record {
      tags = tags;
      content = c;
      inside = i;
      inside' = subst I' (sym contents) i';
      after = after;
      after' = after';
      others = o;
      others' = o';
      is = others;
    }
same_firsts tag tag' I O I' O' s t x y closed (BeginsConstructed.definite c after is_tag d i o)
    (BeginsConstructed.indefinite c' after' is_tag' e' i' o') same =
    absurd (one_form tag tag' c s after x _ d (same ∙ indefinite_then tag' c' t after' y e'))
same_firsts tag tag' I O I' O' s t x y closed (BeginsConstructed.indefinite c after is_tag e i o)
    (BeginsConstructed.definite c' after' is_tag' d' i' o') same =
    absurd (one_form tag' tag c' t after' y _ d' (sym same ∙ indefinite_then tag c s after x e))
same_firsts tag tag' I O I' O' s t x y closed (BeginsConstructed.indefinite c after is_tag e i o)
    (BeginsConstructed.indefinite c' after' is_tag' e' i' o') same =
    let is : indefinite_bytes tag c (after ++ x) ≡ indefinite_bytes tag' c' (after' ++ y) =
    sym (indefinite_then tag c s after x e) ∙ same ∙ indefinite_then tag' c' t after' y e' in
    let within : c ++ (0x00 ∷ (0x00 ∷ (after ++ x))) ≡ c' ++ (0x00 ∷ (0x00 ∷ (after' ++ y))) = cc in
    let (contents, others) = closed c c' (after ++ x) (after' ++ y) i i' within in
    record {
      tags = cc;
      content = c;
      inside = i;
      inside' = subst I' (sym contents) i';
      after = after;
      after' = after';
      others = o;
      others' = o';
      is = others;
    }
