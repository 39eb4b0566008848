-- Alternatives four at a time, as they are one by one.
use Rattle.std.specs.Prelude.{Bool}
use Rattle.picky_der_core.specs.Tree.{Tree}
use Rattle.picky_der_core.specs.Shape.{Shape, Shapes}
use Rattle.picky_der_de.specs.declared.alternatives.OneOf.{OneOf}
use Rattle.picky_der_de.specs.declared.alternatives.OneOf.TheVariants.{This, Other}
use Rattle.picky_der_de.specs.declared.choice4.Choice4.{Choice4}
use Rattle.picky_der_de.specs.declared.choice4.Choice4.TheVariants.{First, Second, Third, Fourth, Later}
use Rattle.picky_der_de.specs.Choices.{chosen_of}
use Rattle.picky_der_de.specs.Facts.{Facts}
use Rattle.picky_der_de.specs.ChoiceFacts.{ChoiceFacts, this_or_other_facts}

module _ {A B C D E : Type 0} where
  abbrev pub one_by_one : Choice4 A B C D E → OneOf A (OneOf B (OneOf C (OneOf D E)))
  one_by_one (First a) = This a
  one_by_one (Second b) = Other (This b)
  one_by_one (Third c) = Other (Other (This c))
  one_by_one (Fourth d) = Other (Other (Other (This d)))
  one_by_one (Later e) = Other (Other (Other (Other e)))

  abbrev pub chosen_of4 : (A → Tree) → (B → Tree) → (C → Tree) → (D → Tree) → (E → Tree) → Choice4 A B C D E → Tree
  chosen_of4 a b c d e v = chosen_of a (chosen_of b (chosen_of c (chosen_of d e))) (one_by_one v)

  module _ {s t u w : Shape} {ss : Shapes} {chosen : E → Tree} (a : Facts A s) (means_a : A → Tree) (equal_a : A → A
      → Bool) (b : Facts B t) (means_b : B → Tree) (equal_b : B → B → Bool)
      (c : Facts C u) (means_c : C → Tree) (equal_c : C → C → Bool) (d : Facts D w) (means_d : D → Tree) (equal_d : D
      → D → Bool) (e : ChoiceFacts E ss chosen) where
    abbrev pub choice4_facts : ChoiceFacts (Choice4 A B C D E)
        (Shapes.more s (Shapes.more t (Shapes.more u (Shapes.more w ss))))
        (chosen_of4 means_a means_b means_c means_d chosen)
    choice4_facts =
        let all = this_or_other_facts a means_a equal_a
        (this_or_other_facts b means_b equal_b
        (this_or_other_facts c means_c equal_c (this_or_other_facts d means_d equal_d e))) in
        record {
          eq = λ x y. all.eq (one_by_one x) (one_by_one y);
          rule = all.rule;
          Premise = all.Premise;
          follows = λ o. let are = all.follows o in record {
            begun = λ v. are.begun (one_by_one v);
            has_shape = λ v. are.has_shape (one_by_one v);
            injective = λ distinct x y. are.injective distinct (one_by_one x) (one_by_one y);
            sound = are.sound;
          };
        }
