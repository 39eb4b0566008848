-- Types whose values are equal exactly if their contents are, structs and choices: equal values mean the same tree.
use Rattle.std.specs.Prelude.{◌≡◌, ◌↔◌, ℕ, Bool, true, false, List, [], ◌∷◌, IsTrue, refl}
use Rattle.std.proofs.Common.{sym, ap, ◌∙◌, subst}
use Rattle.picky_der_core.specs.Tree.{Tree, Trees}
use Rattle.picky_der_ser.specs.Defaults.{IsByTree}
use Rattle.picky_der_de.specs.MembersFacts.{conjunction, sequence_of}
use Rattle.picky_der_de.specs.Faithful.{Sameness, ProvedSameness, MembersSameness, ProvedMembersSameness}
use Rattle.picky_der_de.specs.Faithful.{DefaultSameness, Respects, plain_sameness, sameness_by, respects_of, respect_of}
use Rattle.picky_der_de.specs.Faithful.{part_respects, struct_respects, choice_respects}
use Rattle.der_types.specs.ContentsFacts.{contents_of, same_bytes}
use Rattle.der_types.specs.Denotes.{content_tree}
use Rattle.der_types.specs.ExactContents.{OwnContents, ProvedContents, are_own}

-- ---- contents

-- equal values have one content
abbrev pub content_sameness : {V : Type 0} (tag : ℕ) (content : V → List ℕ) (eq : V → V → Bool)
    → ((x y : V) → eq x y ≡ true → content x ≡ content y) → Sameness V
content_sameness tag content eq same =
    plain_sameness eq (contents_of tag content) (λ x y h. ap (content_tree tag) (same x y h))

-- under another tag
abbrev pub content_under_sameness : {A V : Type 0} (a : Sameness A) (equal : A → A → Bool) (means : A
    → Tree) (d : OwnContents A) (content : A → List ℕ) (tag : ℕ) (part : V → A) → Sameness V
content_under_sameness a equal means d content tag part = record {
  eq = λ x y. equal (part x) (part y);
  meaning = contents_of tag (λ v. content (part v));
  Premise = ProvedSameness a equal means × ProvedContents d means content;
  follows = λ o x y h.
      let same : content_tree d.tag (content (part x)) ≡ content_tree d.tag (content (part y)) =
      sym (are_own d o.1 (part x)) ∙ (respects_of a o.0 (part x) (part y) h ∙ are_own d o.1 (part y)) in
      ap (content_tree tag) (same_bytes (content (part x)) (content (part y)) same);
}

-- ---- values of parts

-- a type of its own around that of the part, which means the same
abbrev pub newtype_sameness : {A V : Type 0} (a : Sameness A) (equal : A → A → Bool) (means : A → Tree) (part : V → A)
    → Sameness V
newtype_sameness a equal means part = sameness_by a equal means (λ x y. equal (part x) (part y)) (λ v. means (part v))
    (λ r. part_respects part r)

-- a struct with a derived `==`
abbrev pub members_sameness : {S P : Type 0} (m : MembersSameness P) (tests : P → P → List Bool) (members : P
    → Trees) (parts : S → P) → Sameness S
members_sameness m tests members parts = record {
  eq = λ x y. conjunction (tests (parts x) (parts y));
  meaning = sequence_of members parts;
  Premise = ProvedMembersSameness m tests members;
  follows = λ o. struct_respects (respect_of m o) parts;
}

-- a choice whose equal values have equal alternatives
abbrev pub alternatives_sameness : {V P : Type 0} (c : Sameness P) (equal : P → P → Bool) (chosen : P → Tree) (parts : V
    → P) (eq : V → V → Bool) → ((v w : V) → eq v w ≡ true → equal (parts v) (parts w) ≡ true) → Sameness V
alternatives_sameness c equal chosen parts eq so = record {
  eq = eq;
  meaning = λ v. Tree.choice (chosen (parts v));
  Premise = ProvedSameness c equal chosen;
  follows = λ o. choice_respects (respects_of c o) parts so;
}

-- ---- defaults

module _ {V : Type 0} (eq : V → V → Bool) (meaning : V → Tree) (left_out : V
    → Bool) (by_tree : IsByTree meaning left_out) where
  pub same_test : (x y : V) → meaning x ≡ meaning y → (p q : Bool) → left_out x ≡ p → left_out y ≡ q → p ≡ q
  same_test x y e true true f g = refl
  same_test x y e false false f g = refl
  same_test x y e true false f g = sym ((by_tree x y f).1 e) ∙ g
  same_test x y e false true f g = sym f ∙ (by_tree y x g).1 (sym e)

  -- the tree says whether a value is the default
  abbrev pub default_sameness : Sameness V → DefaultSameness V
  default_sameness a = record {
    eq = eq;
    left_out = left_out;
    Premise = ProvedSameness a eq meaning;
    follows = λ o x y h. same_test x y (respects_of a o x y h) (left_out x) (left_out y) refl refl;
  }
