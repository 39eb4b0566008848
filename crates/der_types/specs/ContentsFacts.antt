-- Types whose values are distinguished by their contents: what they mean, and their facts.
use Rattle.std.specs.Prelude.{◌≡◌, ℕ, List, Bool, true, refl}
use Rattle.picky_der_core.specs.Primitive.{Primitive, PrimitiveShape}
use Rattle.picky_der_core.specs.Tree.{Tree}
use Rattle.picky_der_core.specs.Shape.{Shape}
use Rattle.picky_der_de.specs.Facts.{IsLawful, Facts, plain_facts, ruled}
use Rattle.der_types.specs.ContentTests.{content_rule}

-- what a value means, and the shape of these
abbrev pub contents_of : {V : Type 0} (tag : ℕ) (content : V → List ℕ) → V → Tree
contents_of tag content v = Tree.primitive (Primitive.bytes tag (content v))

abbrev pub contents_shape : ℕ → Shape
contents_shape tag = Shape.primitive (PrimitiveShape.bytes tag)

pub same_bytes : {tag : ℕ} (xs ys : List ℕ)
    → Tree.primitive (Primitive.bytes tag xs) ≡ Tree.primitive (Primitive.bytes tag ys) → xs ≡ ys
same_bytes xs ys e = cc

module _ {V : Type 0} (tag : ℕ) (content : V → List ℕ) (eq : V → V → Bool) where
  pub by_content : ((x y : V) → content x ≡ content y → eq x y ≡ true)
      → IsLawful (contents_shape tag) (contents_of tag content) eq
  by_content same =
      record {
        has_shape = λ v r. (refl, r.1);
        injective =
            λ x y p q r e. same x y (same_bytes (content x) (content y) e);
        sound = tt;
        begun = λ v b h. h;
      }

  -- two values with one content, which passes the test, are equal by this `==`
  abbrev pub contents_facts : (test : List ℕ → Bool) → ((x y : V) → content x ≡ content y → eq x y ≡ true)
      → Facts V (contents_shape tag)
  contents_facts test same =
      ruled (content_rule tag test) (plain_facts (contents_of tag content) eq (by_content same))

-- They are by another `==`, and so by that of the type, a parameter, of which the values have one.
abbrev pub content_of_facts : {V A : Type 0} (tag : ℕ) (content : A → List ℕ) (test : List ℕ → Bool) (equal : A → A
    → Bool)
    → ((x y : A) → content x ≡ content y → equal x y ≡ true) → (eq : A → A → Bool) (part : V → A)
    → Facts V (contents_shape tag)
content_of_facts tag content test equal same eq part = record {
  meaning = contents_of tag (λ v. content (part v));
  eq = λ x y. eq (part x) (part y);
  rule = content_rule tag test;
  Premise = (x y : _) → equal x y ≡ true → eq x y ≡ true;
  follows = λ so. by_content tag (λ v. content (part v)) (λ x y. eq (part x) (part y))
      (λ x y e. so (part x) (part y) (same (part x) (part y) e));
}
