-- The facts of a type: the tree that each value means, and that the tree determines the value. They are one value, made
-- of the facts of the parts.
use Rattle.std.specs.Prelude.{◌≡◌, ℕ, ℤ, ◌^◌, List, Bool, true, nat_eq, nat_lt, encode_utf8, refl, ⊤}
use Rattle.std.specs.Ordering.{int_eq}
use Rattle.std.proofs.Common.{subst, ltb-true}
use lib.Pointwise.{pointwise}
use lib.Dec.{eqb}
use mathlib.Core.Bool.{beq}
use Rattle.picky_der_core.specs.Primitive.{Primitive, PrimitiveShape}
use Rattle.picky_der_core.specs.Tree.{Tree}
use Rattle.picky_der_core.specs.Shape.{Shape, IsSound, firsts}
use Rattle.picky_der_core.specs.Integer.{int_tree, unsigned_tree}
use Rattle.picky_der_core.specs.UnsignedTreeLaws.{unsigned_tree-is_of}
use Rattle.picky_der_core.specs.Refusal.{int_error}
use Rattle.picky_der_de.specs.Firsts.{IsBegunBy, unsigned_begun}
use Rattle.picky_der_de.specs.RefusesBy.{Rule, unsaid}
use Rattle.picky_der_de.specs.PlainRules.{plain_rule, primitive_rule, raw_rule}
use Rattle.picky_der_de.specs.Rules.{tested_rule}
use Rattle.picky_der_de.specs.InjectiveLaws.{IsInjective, HasShape, character_has_shape, boolean_injective}
use Rattle.picky_der_de.specs.InjectiveLaws.{unsigned_injective, int_injective, bytes_injective, raw_injective}
use Rattle.picky_der_de.specs.InjectiveLaws.{text_injective, character_injective}

-- what holds of values of this shape that mean these trees
pub record IsLawful {V : Type 0} (s : Shape) (meaning : V → Tree) (eq : V → V → Bool) : Type 0 where
  -- a readable value is of the shape
  pub has_shape : HasShape meaning s
  -- two readable values with one tree are equal
  pub injective : IsInjective meaning s eq
  -- inside, the first byte distinguishes the alternatives of each choice, and the members that may be absent
  pub sound : IsSound s
  -- no value begins with another byte
  pub begun : (v : V) → IsBegunBy (firsts s) (meaning v)

-- What a type says of its values, and that this follows from a premise: that its parts are what they say.
pub record Facts (V : Type 0) (s : Shape) : Type 1 where
  -- what a value means
  pub meaning : V → Tree
  -- the `==` of the type
  pub eq : V → V → Bool
  -- with which error bytes are refused, and what is left then
  pub rule : Rule
  pub Premise : Type 0
  pub follows : Premise → IsLawful s meaning eq

-- The values mean this, and are equal by this `==` where they are by that of the facts.
pub record Proved {V : Type 0} {s : Shape} (facts : Facts V s) (meaning : V → Tree) (eq : V → V → Bool) : Type 0 where
  pub premise : facts.Premise
  pub means : facts.meaning ≡ meaning
  pub equal : (x y : V) → facts.eq x y ≡ true → eq x y ≡ true

module _ {V : Type 0} {s : Shape} (facts : Facts V s) {meaning : V → Tree} {eq : V → V
    → Bool} (t : Proved facts meaning eq) where
  pub is_lawful : IsLawful s meaning eq
  is_lawful =
      let is : IsLawful s meaning facts.eq =
      subst (λ (m : V → Tree). IsLawful s m facts.eq) t.means (facts.follows t.premise) in
      record {
        has_shape = is.has_shape;
        injective = λ x y p q r e. t.equal x y (is.injective x y p q r e);
        sound =
            is.sound;
        begun = is.begun;
      }

-- ---- plain values, without a premise

module _ {V : Type 0} {s : Shape} where
  abbrev pub plain_facts : (meaning : V → Tree) (eq : V → V → Bool) → IsLawful s meaning eq → Facts V s
  plain_facts meaning eq is = record { meaning = meaning; eq = eq; rule = unsaid; Premise = ⊤; follows = λ o. is }

  -- with this rule
  abbrev pub ruled : Rule → Facts V s → Facts V s
  ruled rule facts =
      record { meaning = facts.meaning; eq = facts.eq; rule = rule; Premise = facts.Premise; follows = facts.follows }

abbrev pub boolean_facts : Facts Bool (Shape.primitive PrimitiveShape.boolean)
boolean_facts = ruled (primitive_rule PrimitiveShape.boolean)
    (plain_facts (λ v. Tree.primitive (Primitive.boolean v)) beq (record {
      has_shape = λ v r. tt;
      injective = λ x y p q r e. boolean_injective x y e;
      sound = tt;
      begun =
          λ v b h. h;
    }))

-- a type whose values have a number each, up to a greatest one
abbrev pub number_facts : {V : Type 0} (most : ℕ) → nat_lt most (2 ^ 128) ≡ true → (number : V → ℕ) (eq : V → V → Bool)
    → ((x y : V) → nat_eq (number x) (number y) ≡ true → eq x y ≡ true)
    → Facts V (Shape.primitive (PrimitiveShape.unsigned most))
number_facts most small number eq same = plain_facts (λ v. unsigned_tree most (number v)) eq (record {
  has_shape = λ v. unsigned_tree-is_of most (ltb-true most (2 ^ 128) small) (number v);
  injective = λ x y p q r e. same x y (unsigned_injective most (number x) (number y) e);
  sound = tt;
  begun = λ v. unsigned_begun most (number v);
})

abbrev pub unsigned_facts : (most : ℕ) → nat_lt most (2 ^ 128) ≡ true
    → Facts ℕ (Shape.primitive (PrimitiveShape.unsigned most))
unsigned_facts most small =
    ruled (primitive_rule (PrimitiveShape.unsigned most)) (number_facts most small (λ n. n) nat_eq (λ x y h. h))

-- an integer type, by the numbers that it has
abbrev pub int_facts : (fits : ℤ → Bool) → Facts ℤ (Shape.primitive (PrimitiveShape.bytes 0x02))
int_facts fits = ruled (plain_rule 0x02 (int_error fits)) (plain_facts (int_tree fits) int_eq
    (record {
      has_shape = λ z r. (refl, r.1);
      injective = λ x y p q r e. int_injective fits x y e;
      sound = tt;
      begun =
          λ v b h. h;
    }))

abbrev pub null_facts : {V : Type 0} → Facts V (Shape.primitive PrimitiveShape.null)
null_facts = ruled (primitive_rule PrimitiveShape.null)
    (plain_facts (λ v. Tree.primitive Primitive.null) (λ x y. true)
    (record { has_shape = λ v r. tt; injective = λ x y p q r e. refl; sound = tt; begun = λ v b h. h }))

abbrev pub character_facts : Facts ℕ (Shape.primitive PrimitiveShape.character)
character_facts = ruled (primitive_rule PrimitiveShape.character)
    (plain_facts (λ v. Tree.primitive (Primitive.text (encode_utf8 v))) nat_eq (record {
      has_shape = character_has_shape;
      injective = λ x y p q r e. character_injective x y e;
      sound = tt;
      begun =
          λ v b h. h;
    }))

module _ {V : Type 0} (bytes : V → List ℕ) where
  abbrev pub text_facts : Facts V (Shape.primitive PrimitiveShape.text)
  text_facts = ruled (primitive_rule PrimitiveShape.text)
      (plain_facts (λ v. Tree.primitive (Primitive.text (bytes v))) (λ x y. pointwise eqb (bytes x) (bytes y)) (record {
        has_shape = λ v r. r;
        injective = λ x y p q r e. text_injective (bytes x) (bytes y) e;
        sound =
            tt;
        begun = λ v b h. h;
      }))

  abbrev pub raw_facts : Facts V Shape.raw
  raw_facts = ruled raw_rule (plain_facts (λ v. Tree.raw (bytes v)) (λ x y. pointwise eqb (bytes x) (bytes y))
      (record {
        has_shape = λ v r. r.1;
        injective = λ x y p q r e. raw_injective (bytes x) (bytes y) e;
        sound =
            tt;
        begun = λ v b h. h;
      }))

abbrev pub bytes_facts : {V : Type 0} (tag : ℕ) (bytes : V → List ℕ)
    → Facts V (Shape.primitive (PrimitiveShape.bytes tag))
bytes_facts tag bytes = ruled (primitive_rule (PrimitiveShape.bytes tag))
    (plain_facts (λ v. Tree.primitive (Primitive.bytes tag (bytes v))) (λ x y. pointwise eqb (bytes x) (bytes y))
    (record {
      has_shape = λ v r. (refl, r.1);
      injective = λ x y p q r e. bytes_injective (bytes x) (bytes y) e;
      sound =
          tt;
      begun = λ v b h. h;
    }))

-- ---- values that have a part of another type

module _ {V A : Type 0} {s : Shape} (part : V → A) where
  pub of_part : {means : A → Tree} {equal : A → A → Bool} → IsLawful s means equal
      → IsLawful s (λ v. means (part v)) (λ x y. equal (part x) (part y))
  of_part is = record {
    has_shape = λ v. is.has_shape (part v);
    injective = λ x y. is.injective (part x) (part y);
    sound = is.sound;
    begun = λ v. is.begun (part v);
  }

-- whose trees they mean
abbrev pub facts_as : {V A : Type 0} {s : Shape} → Facts A s → (part : V → A) → Facts V s
facts_as a part = record {
  meaning = λ v. a.meaning (part v);
  eq = λ x y. a.eq (part x) (part y);
  rule = a.rule;
  Premise = a.Premise;
  follows = λ o. of_part part (a.follows o);
}

-- where some values of the other type are none of this one
abbrev pub tested_facts : {V A : Type 0} {s : Shape} → Facts A s → (means : A → Tree) (part : V → A) → Facts V s
tested_facts {s = s} a means part = ruled (tested_rule means s part a.rule) (facts_as a part)

-- by what the type, a parameter, says of itself
module _ {A : Type 0} {s : Shape} (a : Facts A s) (means : A → Tree) (equal : A → A → Bool) where
  abbrev pub facts_by : {V : Type 0} {u : Shape} (rule : Rule) (meaning : V → Tree) (eq : V → V → Bool)
      → (IsLawful s means equal → IsLawful u meaning eq) → Facts V u
  facts_by rule meaning eq so = record {
    meaning = meaning;
    eq = eq;
    rule = rule;
    Premise = Proved a means equal;
    follows =
        λ t. so (is_lawful a t);
  }

  abbrev pub part_facts : {V : Type 0} (part : V → A) → Facts V s
  part_facts part = facts_by a.rule (λ v. means (part v)) (λ x y. equal (part x) (part y)) (of_part part)

  -- where some of that type's values are none of this one
  abbrev pub tested_part_facts : {V : Type 0} (part : V → A) → Facts V s
  tested_part_facts part = ruled (tested_rule means s part a.rule) (part_facts part)
