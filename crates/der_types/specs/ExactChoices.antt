-- Choices whose readable values mean exactly the trees that their alternatives denote.
use Rattle.std.specs.Prelude.{◌≡◌, ◌⊎◌, ⊤}
use Rattle.std.proofs.Common.{subst, inl, inr}
use Rattle.picky_der_core.specs.Readable.{IsReadable}
use Rattle.picky_der_core.specs.Tree.{Tree}
use Rattle.picky_der_de.specs.declared.alternatives.OneOf.{OneOf}
use Rattle.picky_der_de.specs.declared.alternatives.OneOf.TheVariants.{This, Other}
use Rattle.picky_der_de.specs.Choices.{chosen_of}
use Rattle.der_types.specs.Notation.{Notation, Alternatives}
use Rattle.der_types.specs.Denotes.{Denotes, DenoteOneOf, IsShort}
use Rattle.der_types.specs.Exact.{IsExact, Values, ProvedValues, is_exact, made_exact, part_exact}

-- What a type of alternatives says of its values.
pub record ChoiceValues (V : Type 0) : Type 1 where
  pub notation : Alternatives
  pub chosen : V → Tree
  pub Premise : Type 0
  pub follows : Premise → IsExact (DenoteOneOf notation) chosen

pub record ProvedChoice {V : Type 0} (values : ChoiceValues V) (notation : Alternatives) (chosen : V → Tree) : Type 0
  where
    pub premise : values.Premise
    pub notated : values.notation ≡ notation
    pub means : values.chosen ≡ chosen

module _ {V : Type 0} (values : ChoiceValues V) {notation : Alternatives} {chosen : V
    → Tree} (t : ProvedChoice values notation chosen) where
  pub is_exact_choice : IsExact (DenoteOneOf notation) chosen
  is_exact_choice =
      let of_own : IsExact (DenoteOneOf notation) values.chosen =
      subst (λ ts. IsExact (DenoteOneOf ts) values.chosen) t.notated (values.follows t.premise) in
      subst (λ (c : V → Tree). IsExact (DenoteOneOf notation) c) t.means of_own

abbrev pub no_choice_values : {V : Type 0} (chosen : V → Tree) → (V → ⊥) → ChoiceValues V
no_choice_values chosen none = record {
  notation = Alternatives.none;
  chosen = chosen;
  Premise = ⊤;
  follows =
      λ o. record { sound = λ v r. none v; complete = λ t d r s. absurd d };
}

module _ {A B : Type 0} (P Q : Tree → Type 0) (means : A → Tree) (chosen : B → Tree) (a : IsExact P means)
    (b : IsExact Q chosen) where
  this_or_other_sound : (v : OneOf A B) → IsReadable (chosen_of means chosen v)
      → P (chosen_of means chosen v) ⊎ Q (chosen_of means chosen v)
  this_or_other_sound (This x) r = inl (a.sound x r)
  this_or_other_sound (Other y) r = inr (b.sound y r)

  this_or_other_complete : (t : Tree) → P t ⊎ Q t → IsReadable t → IsShort t
      → (v : OneOf A B) × (chosen_of means chosen v ≡ t)
  this_or_other_complete t (inl d) r s = let x = a.complete t d r s in (This x.0, x.1)
  this_or_other_complete t (inr d) r s = let y = b.complete t d r s in (Other y.0, y.1)

  pub this_or_other_exact : IsExact (λ t. P t ⊎ Q t) (chosen_of means chosen)
  this_or_other_exact = record { sound = this_or_other_sound; complete = this_or_other_complete }

-- an alternative and those after it
abbrev pub this_or_other_values : {A B : Type 0} (a : Values A) (n : Notation) (means : A → Tree) (b : ChoiceValues B)
    (ts : Alternatives) (chosen : B → Tree) → ChoiceValues (OneOf A B)
this_or_other_values a n means b ts chosen = record {
  notation = Alternatives.alternative n ts;
  chosen = chosen_of means chosen;
  Premise = ProvedValues a n means × ProvedChoice b ts chosen;
  follows = λ o. this_or_other_exact (Denotes n) (DenoteOneOf ts) means chosen (is_exact a o.0) (is_exact_choice b o.1);
}

-- the values of alternatives that make others
abbrev pub choice_as : {V R : Type 0} (b : ChoiceValues R) (parts : V → R) → ((r : R) → (v : V) × (parts v ≡ r))
    → ChoiceValues V
choice_as b parts whole = record {
  notation = b.notation;
  chosen = λ v. b.chosen (parts v);
  Premise = b.Premise;
  follows = λ o. part_exact (DenoteOneOf b.notation) b.chosen (b.follows o) parts whole;
}

-- a choice of them
abbrev pub choice_values : {V R : Type 0} (b : ChoiceValues R) (ts : Alternatives) (chosen : R → Tree) (parts : V → R)
    → ((r : R) → (v : V) × (parts v ≡ r)) → Values V
choice_values b ts chosen parts whole = record {
  notation = Notation.choice ts;
  meaning = λ v. Tree.choice (chosen (parts v));
  Premise = ProvedChoice b ts chosen;
  follows = λ o.
      let is = part_exact (DenoteOneOf ts) chosen (is_exact_choice b o) parts whole in
      made_exact Tree.choice (DenoteOneOf ts) (λ v. chosen (parts v)) (λ v r. is.sound v r)
      (λ t d r s. is.complete t d r s);
}
