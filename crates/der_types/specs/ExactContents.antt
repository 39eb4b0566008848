-- Types without parts whose readable values mean exactly the trees that a notation denotes.
use Rattle.std.specs.Prelude.{◌≡◌, ℕ, ℤ, ◌-◌, ◌^◌, ◌<◌, Bool, true, List, length, IsUtf8, nat_lt, ⊤, refl}
use Rattle.std.proofs.Common.{sym, ap, ◌∙◌, subst, ltb-true}
use Rattle.picky_der_core.specs.Element.{IsElement}
use Rattle.picky_der_core.specs.Integer.{fits_signed, int_tree, unsigned_tree}
use Rattle.picky_der_core.specs.IntLaws.{fits-within, tree-fits}
use Rattle.picky_der_core.specs.Primitive.{Primitive, PrimitiveShape, primitive_content}
use Rattle.picky_der_core.specs.Readable.{IsReadable}
use Rattle.picky_der_core.specs.Shape.{Shape, IsOf}
use Rattle.picky_der_core.specs.Tag.{number_of, IsTagNumber}
use Rattle.picky_der_core.specs.Tree.{Tree}
use Rattle.picky_der_core.specs.UnsignedTreeLaws.{unsigned_tree-is_of, unsigned_tree-of, unsigned_tree-within}
use Rattle.der_types.specs.declared.width.Width.{Width}
use Rattle.der_types.specs.CharacterStrings.{is_string_content}
use Rattle.der_types.specs.PrimitiveForm.{primitive_form}
use Rattle.der_types.specs.Notation.{Notation}
use Rattle.der_types.specs.ContentTypes.{string_width, string_character}
use Rattle.der_types.specs.Denotes.{Denotes, IsMade, content_tree, HasContent}
use Rattle.der_types.specs.Exact.{IsExact, made_exact, Values, ProvedValues, is_exact, plain_values, content_exact}

same_primitive : (p q : Primitive) → Tree.primitive p ≡ Tree.primitive q → p ≡ q
same_primitive p q e = cc

-- ---- contents under another tag

module _ {A V : Type 0} (n : Notation) (means : A → Tree) (is : IsExact (Denotes n) means) (tag own : ℕ) (content : A
    → List ℕ) (own_tag : (x : A) → means x ≡ content_tree own (content x)) (short : IsTagNumber (number_of own))
    (part : V → A) (whole : (x : A) → (v : V) × (part v ≡ x)) where
  pub content_under_exact : IsExact (Denotes (Notation.content-under tag n))
      (λ v. content_tree (primitive_form tag) (content (part v)))
  content_under_exact = made_exact (content_tree (primitive_form tag)) (λ s. (p : Primitive) × (primitive_content p ≡ s)
      × IsReadable (Tree.primitive p) × Denotes n (Tree.primitive p)) (λ v. content (part v))
      (λ v r.
      let e = own_tag (part v) in
      let readable : IsReadable (content_tree own (content (part v))) = (short, r.1) in
      let denoted = subst (Denotes n) e (is.sound (part v) (subst IsReadable (sym e) readable)) in
      (Primitive.bytes own (content (part v)), refl, readable, denoted))
      (λ s d r h.
      let x = is.complete (Tree.primitive d.0) d.3 d.2 (subst (λ c. length c < 2 ^ 63) (sym d.1) h) in
      let v = whole x.0 in
      let same = same_primitive (Primitive.bytes own (content x.0)) d.0 (sym (own_tag x.0) ∙ x.1) in
      (v.0, ap content v.1 ∙ (ap primitive_content same ∙ d.1)))

-- ---- types without parts

pub boolean_exact : IsExact (Denotes Notation.BOOLEAN) (λ v. Tree.primitive (Primitive.boolean v))
boolean_exact = made_exact (λ b. Tree.primitive (Primitive.boolean b)) (λ b. ⊤) (λ v. v) (λ v r. tt)
    (λ a p r s. (a, refl))

pub null_exact : {V : Type 0} → V → IsExact (Denotes Notation.NULL) (λ (w : V). Tree.primitive Primitive.null)
null_exact v = record { sound = λ w r. refl; complete = λ t d r s. (v, sym d) }

-- an unsigned type of so many bits, by the numbers that it has
pub unsigned_exact : (bits : ℕ) → 2 ^ bits - 1 < 2 ^ 128
    → IsExact (Denotes (Notation.unsigned bits)) (unsigned_tree (2 ^ bits - 1))
unsigned_exact bits small = record {
  sound = λ n r.
      let of_shape = unsigned_tree-is_of (2 ^ bits - 1) small n r in
      let e = unsigned_tree-of (2 ^ bits - 1) n of_shape in
      let is : IsOf (Shape.primitive (PrimitiveShape.unsigned (2 ^ bits - 1))) (Tree.primitive (Primitive.unsigned n)) =
      subst (IsOf (Shape.primitive (PrimitiveShape.unsigned (2 ^ bits - 1)))) e of_shape in
      (n, e, is.0);
  complete = λ t d r s. (d.0, unsigned_tree-within (2 ^ bits - 1) d.0 d.2 ∙ sym d.1);
}

-- one with a sign
pub signed_exact : (bits : ℕ) → IsExact (Denotes (Notation.signed bits)) (int_tree (fits_signed bits))
signed_exact bits = record {
  sound = λ z r. let f = fits-within (fits_signed bits) z r.1 in (z, tree-fits (fits_signed bits) z f, f);
  complete = λ t d r s. (d.0, tree-fits (fits_signed bits) d.0 d.2 ∙ sym d.1);
}

-- any content under a tag
pub any_content_exact : {V : Type 0} (tag : ℕ) (content : V → List ℕ)
    → ((s : List ℕ) → length s < 2 ^ 63 → (v : V) × (content v ≡ s))
    → IsExact (Denotes (Notation.any-content tag)) (λ v. content_tree tag (content v))
any_content_exact tag content whole = made_exact (content_tree tag) (λ s. ⊤) content (λ v r. tt) (λ s p r h. whole s h)

pub text_exact : {V : Type 0} (bytes : V → List ℕ)
    → ((s : List ℕ) → IsUtf8 s → length s < 2 ^ 63 → (v : V) × (bytes v ≡ s))
    → IsExact (Denotes Notation.UTF8String) (λ v. Tree.primitive (Primitive.text (bytes v)))
text_exact bytes whole = made_exact (λ s. Tree.primitive (Primitive.text s)) (λ s. ⊤) bytes (λ v r. tt)
    (λ s p r h. whole s r h)

pub raw_exact : {V : Type 0} (bytes : V → List ℕ)
    → ((s : List ℕ) → IsElement s → length s < 2 ^ 63 → (v : V) × (bytes v ≡ s))
    → IsExact (Denotes Notation.any-element) (λ v. Tree.raw (bytes v))
raw_exact bytes whole = made_exact Tree.raw (λ s. ⊤) bytes (λ v r. tt) (λ s p r h. whole s r.0 h)

-- ---- what types say of their values

abbrev pub unsigned_values : (bits : ℕ) → nat_lt (2 ^ bits - 1) (2 ^ 128) ≡ true → Values ℕ
unsigned_values bits small =
    plain_values (Notation.unsigned bits) (unsigned_tree (2 ^ bits - 1))
    (unsigned_exact bits (ltb-true (2 ^ bits - 1) (2 ^ 128) small))

abbrev pub signed_values : ℕ → Values ℤ
signed_values bits = plain_values (Notation.signed bits) (int_tree (fits_signed bits)) (signed_exact bits)

-- What a type says of its contents: they are under its own tag, whose number is at most 30 by a premise.
pub record OwnContents (A : Type 0) : Type 1 where
  pub tag : ℕ
  pub Premise : Type 0
  pub short : Premise → IsTagNumber (number_of tag)
  pub meaning : A → Tree
  pub content : A → List ℕ
  pub same : (x : A) → meaning x ≡ content_tree tag (content x)

pub record ProvedContents {A : Type 0} (d : OwnContents A) (meaning : A → Tree) (content : A → List ℕ) : Type 0 where
  pub premise : d.Premise
  pub means : d.meaning ≡ meaning
  pub contents : d.content ≡ content

pub are_own : {A : Type 0} (d : OwnContents A) {meaning : A → Tree} {content : A → List ℕ}
    → ProvedContents d meaning content → (x : A) → meaning x ≡ content_tree d.tag (content x)
are_own {A} d t x = sym (ap (λ (f : A → Tree). f x) t.means)
    ∙ (d.same x ∙ ap (λ (f : A → List ℕ). content_tree d.tag (f x)) t.contents)

abbrev pub own_contents : {A : Type 0} (tag : ℕ) (content : A → List ℕ) → IsTagNumber (number_of tag) → OwnContents A
own_contents tag content short =
    record {
      tag = tag;
      Premise = ⊤;
      short = λ o. short;
      meaning = λ v. content_tree tag (content v);
      content =
          content;
      same = λ x. refl;
    }

-- those of a tag that is a parameter
abbrev pub parameter_contents : {A : Type 0} (tag : ℕ) (content : A → List ℕ) → OwnContents A
parameter_contents tag content = record {
  tag = tag;
  Premise = IsTagNumber (number_of tag);
  short = λ h. h;
  meaning =
      λ v. content_tree tag (content v);
  content = content;
  same = λ x. refl;
}

-- under another tag
abbrev pub content_under_values : {A V : Type 0} (a : Values A) (n : Notation) (means : A → Tree) (tag : ℕ)
    (d : OwnContents A) (content : A → List ℕ) (part : V → A) → ((x : A) → (v : V) × (part v ≡ x)) → Values V
content_under_values a n means tag d content part whole = record {
  notation = Notation.content-under tag n;
  meaning = λ v. content_tree (primitive_form tag) (content (part v));
  Premise = ProvedValues a n means × ProvedContents d means content;
  follows = λ o. content_under_exact n means (is_exact a o.0) tag d.tag content (are_own d o.1) (d.short o.1.premise)
      part whole;
}
