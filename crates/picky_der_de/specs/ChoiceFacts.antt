-- The facts of choices: of the values of alternatives.
use Rattle.std.specs.Prelude.{◌≡◌, Bool, true, ◌&&◌, ⊤}
use Rattle.std.proofs.lemmas.Bool.{and_parts}
use Rattle.picky_der_core.specs.Tree.{Tree}
use Rattle.picky_der_core.specs.Readable.{IsReadable}
use Rattle.picky_der_core.specs.Shape.{Shape, Shapes, IsOneOf, AreDistinct, AreSound, firsts, firsts_of, are_disjoint}
use Rattle.picky_der_de.specs.declared.alternatives.OneOf.{OneOf}
use Rattle.picky_der_de.specs.Firsts.{IsBegunBy}
use Rattle.picky_der_de.specs.Choices.{chosen_of, equal_this_or_other, AreInjective, begins_this_or_other}
use Rattle.picky_der_de.specs.Choices.{this_or_other_has_shape, this_or_other_injective, choice_injective}
use Rattle.picky_der_de.specs.Rules.{ChoiceRule, no_alternative_rule, alternative_rule, choice_rule}
use Rattle.picky_der_de.specs.Facts.{Facts, Proved, is_lawful}

-- what holds of values of alternatives, if the chosen ones mean these trees
pub record AreLawful {V : Type 0} (ss : Shapes) (chosen : V → Tree) (eq : V → V → Bool) : Type 0 where
  -- no value begins with another byte
  pub begun : (v : V) → IsBegunBy (firsts_of ss) (chosen v)
  -- a readable value is of the shape of an alternative
  pub has_shape : (v : V) → IsReadable (chosen v) → IsOneOf ss (chosen v)
  -- two readable values with one tree are equal, where the first byte distinguishes the alternatives
  pub injective : AreInjective chosen ss eq
  pub sound : AreSound ss

-- It follows from the premise, that of the alternatives.
pub record ChoiceFacts (V : Type 0) (ss : Shapes) (chosen : V → Tree) : Type 1 where
  pub eq : V → V → Bool
  -- with which error bytes are refused that begin with a byte
  pub rule : ChoiceRule
  pub Premise : Type 0
  pub follows : Premise → AreLawful ss chosen eq

abbrev pub no_choice_facts : {V : Type 0} (chosen : V → Tree) → (V → ⊥) → ChoiceFacts V Shapes.none chosen
no_choice_facts chosen none = record {
  eq = λ v w. absurd (none v);
  rule = no_alternative_rule;
  Premise = ⊤;
  follows = λ o. record {
    begun = λ v. absurd (none v);
    has_shape = λ v. absurd (none v);
    injective =
        λ distinct v. absurd (none v);
    sound = tt;
  };
}

abbrev pub this_or_other_facts : {A B : Type 0} {s : Shape} {ss : Shapes} {chosen : B → Tree} → Facts A s
    → (means : A → Tree) (equal : A → A → Bool) → ChoiceFacts B ss chosen
    → ChoiceFacts (OneOf A B) (Shapes.more s ss) (chosen_of means chosen)
this_or_other_facts {s = s} {ss = ss} {chosen = chosen} a means equal b = record {
  eq = equal_this_or_other equal b.eq;
  rule = alternative_rule (firsts s) a.rule b.rule;
  Premise = Proved a means equal × b.Premise;
  follows = λ o.
      let this = is_lawful a o.0 in
      let other = b.follows o.1 in
      record {
        begun = begins_this_or_other means chosen s ss this.begun other.begun;
        has_shape = this_or_other_has_shape means chosen s ss this.has_shape other.has_shape;
        injective = this_or_other_injective means chosen s ss this.begun other.begun this.injective other.injective;
        sound = (this.sound, other.sound);
      };
}

-- whether the first byte distinguishes the alternatives: a test, which computes
abbrev pub are_distinct : Shapes → Bool
are_distinct Shapes.none = true
are_distinct (Shapes.more s ss) = are_disjoint (firsts s) (firsts_of ss) && are_distinct ss

pub alternatives_distinct : (ss : Shapes) → are_distinct ss ≡ true → AreDistinct ss
alternatives_distinct Shapes.none h = tt
alternatives_distinct (Shapes.more s ss) h = let parts =
    and_parts (are_disjoint (firsts s) (firsts_of ss)) (are_distinct ss) h in
    (parts.0, alternatives_distinct ss parts.1)

module _ {V P : Type 0} {ss : Shapes} {chosen : P → Tree} (c : ChoiceFacts P ss chosen)
    (distinct : are_distinct ss ≡ true) (parts : V → P) where
  -- A choice of these, with this `==`: it holds where the same alternative was chosen and its values are equal.
  abbrev pub choice_facts : (eq : V → V → Bool) → ((v w : V) → c.eq (parts v) (parts w) ≡ true → eq v w ≡ true)
      → Facts V (Shape.choice ss)
  choice_facts eq same = record {
    meaning = λ v. Tree.choice (chosen (parts v));
    eq = eq;
    rule = choice_rule c.rule;
    Premise = c.Premise;
    follows = λ o. let are = c.follows o in record {
      has_shape = λ v. are.has_shape (parts v);
      injective =
          λ v w p q r e. same v w (choice_injective chosen ss c.eq (alternatives_distinct ss distinct) are.injective
          (parts v) (parts w) p q r e);
      sound = (are.sound, alternatives_distinct ss distinct);
      begun = λ v. are.begun (parts v);
    };
  }
