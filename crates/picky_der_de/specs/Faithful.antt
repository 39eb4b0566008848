-- Values that are equal by the `==` of their type mean the same tree.
use Rattle.std.specs.Prelude.{◌≡◌, ℕ, ℤ, Bool, true, false, List, [], ◌∷◌, ◌&&◌, Option, Some, None, if◌then◌else◌}
use Rattle.std.specs.Prelude.{length, map, encode_utf8, refl, ⊤}
use Rattle.std.specs.Option.{option_eq}
use Rattle.std.specs.Ordering.{int_eq}
use Rattle.std.proofs.Common.{ap, ◌∙◌, sym, subst, eqb-true, arith}
use Rattle.std.proofs.lemmas.Bool.{and_parts}
use Rattle.std.proofs.lemmas.Bool.Decides.{Decides-int_eq}
use mathlib.Core.Bool.{beq}
use lib.Pointwise.{pointwise}
use lib.Dec.{eqb}
use Rattle.picky_der_core.specs.declared.asn1.wrapper.Wrapper.{Wrapper}
use Rattle.picky_der_core.specs.Integer.{int_tree, unsigned_tree}
use Rattle.picky_der_core.specs.Primitive.{Primitive}
use Rattle.picky_der_core.specs.Tree.{ListKind, Tree, Trees, trees}
use Rattle.picky_der_ser.specs.Meaning.{array_meaning, maybe_more, option_meaning, unless_default}
use Rattle.picky_der_de.specs.MembersFacts.{AreTrue, conjunction, conjunction_after, sequence_of}
use Rattle.picky_der_de.specs.OtherLaws.{others_of}
use Rattle.picky_der_de.specs.declared.alternatives.OneOf.{OneOf}
use Rattle.picky_der_de.specs.declared.alternatives.OneOf.TheVariants.{This, Other}
use Rattle.picky_der_de.specs.Choices.{chosen_of, equal_this_or_other}

-- ---- values

abbrev pub Respects : {V : Type 0} → (V → V → Bool) → (V → Tree) → Type 0
Respects {V} eq meaning = (x y : V) → eq x y ≡ true → meaning x ≡ meaning y

-- a primitive value, whose `==` is that of something that determines its tree
module _ {V A : Type 0} (eq : A → A → Bool) (same : (a b : A) → eq a b ≡ true → a ≡ b) (make : A → Tree) (part : V
    → A) where
  pub made_respects : Respects (λ x y. eq (part x) (part y)) (λ v. make (part v))
  made_respects x y h = ap make (same (part x) (part y) h)

same_boolean : (x y : Bool) → beq x y ≡ true → x ≡ y
same_boolean true true h = refl
same_boolean false false h = refl
same_boolean true false h = cc
same_boolean false true h = cc

pub boolean_respects : Respects beq (λ v. Tree.primitive (Primitive.boolean v))
boolean_respects x y h = ap (λ v. Tree.primitive (Primitive.boolean v)) (same_boolean x y h)

pub unsigned_respects : (most : ℕ) → Respects eqb (unsigned_tree most)
unsigned_respects most x y h = ap (unsigned_tree most) (eqb-true x y h)

pub int_respects : (fits : ℤ → Bool) → Respects int_eq (int_tree fits)
int_respects fits x y h = ap (int_tree fits) ((Decides-int_eq x y).0 h)

pub character_respects : Respects eqb (λ v. Tree.primitive (Primitive.text (encode_utf8 v)))
character_respects x y h = ap (λ v. Tree.primitive (Primitive.text (encode_utf8 v))) (eqb-true x y h)

pub same_list : (xs ys : List ℕ) → pointwise eqb xs ys ≡ true → xs ≡ ys
same_list [] [] h = refl
same_list [] (y ∷ ys) h = cc
same_list (x ∷ xs) [] h = cc
same_list (x ∷ xs) (y ∷ ys) h =
    let p = and_parts (eqb x y) (pointwise eqb xs ys) h in
    let e : x ≡ y = eqb-true x y p.0 in
    let f : xs ≡ ys = same_list xs ys p.1 in
    cc

-- a content, of whatever makes a tree of it
module _ {V : Type 0} (make : List ℕ → Tree) (bytes : V → List ℕ) where
  pub bytes_respect : Respects (λ x y. pointwise eqb (bytes x) (bytes y)) (λ v. make (bytes v))
  bytes_respect x y h = ap make (same_list (bytes x) (bytes y) h)

-- ---- values that hold others

module _ {V A : Type 0} (part : V → A) {eq : A → A → Bool} {meaning : A → Tree} (same : Respects eq meaning) where
  pub part_respects : Respects (λ x y. eq (part x) (part y)) (λ v. meaning (part v))
  part_respects x y h = same (part x) (part y) h

  pub wrapped_respects : (w : Wrapper) → Respects (λ x y. eq (part x) (part y)) (λ v. Tree.wrapped w (meaning (part v)))
  wrapped_respects w x y h = ap (Tree.wrapped w) (same (part x) (part y) h)

module _ {A : Type 0} {eq : A → A → Bool} {meaning : A → Tree} (same : Respects eq meaning) where
  pub option_respects : Respects (option_eq eq) (option_meaning meaning)
  option_respects None None h = refl
  option_respects None (Some y) h = cc
  option_respects (Some x) None h = cc
  option_respects (Some x) (Some y) h = same x y h

  pub items_respect : (xs ys : List A) → pointwise eq xs ys ≡ true → trees (map meaning xs) ≡ trees (map meaning ys)
  items_respect [] [] h = refl
  items_respect [] (y ∷ ys) h = cc
  items_respect (x ∷ xs) [] h = cc
  items_respect (x ∷ xs) (y ∷ ys) h =
      let p = and_parts (eq x y) (pointwise eq xs ys) h in
      let e = same x y p.0 in
      let f = items_respect xs ys p.1 in
      cc

  module _ {V : Type 0} (items : V → List A) where
    pub list_respects : (k : ListKind)
        → Respects (λ x y. pointwise eq (items x) (items y)) (λ v. Tree.list k (trees (map meaning (items v))))
    list_respects k x y h = ap (Tree.list k) (items_respect (items x) (items y) h)

    same_length : (xs ys : List A) → pointwise eq xs ys ≡ true → length xs ≡ length ys
    same_length [] [] h = refl
    same_length [] (y ∷ ys) h = cc
    same_length (x ∷ xs) [] h = cc
    same_length (x ∷ xs) (y ∷ ys) h = omega (arith, same_length xs ys (and_parts (eq x y) (pointwise eq xs ys) h).1)

    pub array_respects : (n : ℕ)
        → Respects (λ x y. pointwise eq (items x) (items y)) (λ v. array_meaning n meaning (items v))
    array_respects n x y h =
        let e = same_length (items x) (items y) h in
        let f = items_respect (items x) (items y) h in
        cc

-- ---- members

-- one, before others
abbrev pub RespectsMember : {V : Type 0} → (V → V → Bool) → (V → Trees → Trees) → Type 0
RespectsMember {V} eq prepend = (x y : V) → eq x y ≡ true → (ts : Trees) → prepend x ts ≡ prepend y ts

-- all of them, each by its own test
pub record RespectMembers {P : Type 0} (tests : P → P → List Bool) (members : P → Trees) : Type 0 where
  pub same : (x y : P) → AreTrue (tests x y) → members x ≡ members y

module _ {A : Type 0} {eq : A → A → Bool} {meaning : A → Tree} (same : Respects eq meaning) where
  pub always_respects : {V : Type 0} (part : V → A)
      → RespectsMember (λ x y. eq (part x) (part y)) (λ v. Trees.more (meaning (part v)))
  always_respects part x y h ts = ap (λ t. Trees.more t ts) (same (part x) (part y) h)

  maybe_more_same : (p q : Option A) (ts : Trees) → option_eq eq p q ≡ true
      → maybe_more meaning p ts ≡ maybe_more meaning q ts
  maybe_more_same None None ts h = refl
  maybe_more_same None (Some y) ts h = cc
  maybe_more_same (Some x) None ts h = cc
  maybe_more_same (Some x) (Some y) ts h = ap (λ t. Trees.more t ts) (same x y h)

  pub perhaps_respects : {V : Type 0} (item : V → Option A)
      → RespectsMember (λ x y. option_eq eq (item x) (item y)) (λ v. maybe_more meaning (item v))
  perhaps_respects item x y h ts = maybe_more_same (item x) (item y) ts h

  -- one that is left out where it is the default
  module _ (left_out : A → Bool) (alike : (a b : A) → eq a b ≡ true → left_out a ≡ left_out b) where
    unless_default_same : (a b : A) (p q : Bool) → p ≡ q → meaning a ≡ meaning b → (ts : Trees)
        → maybe_more meaning (if p then None else Some a) ts ≡ maybe_more meaning (if q then None else Some b) ts
    unless_default_same a b true true p e ts = refl
    unless_default_same a b true false p e ts = cc
    unless_default_same a b false true p e ts = cc
    unless_default_same a b false false p e ts = ap (λ t. Trees.more t ts) e

    pub default_respects : {V : Type 0} (value : V → A)
        → RespectsMember (λ x y. eq (value x) (value y)) (λ v. maybe_more meaning (unless_default left_out (value v)))
    default_respects value x y h ts =
        let out = alike (value x) (value y) h in
        unless_default_same (value x) (value y) (left_out (value x)) (left_out (value y)) out
        (same (value x) (value y) h) ts

pub none_respect : {P : Type 0} → RespectMembers (λ (x y : P). []) (λ x. Trees.none)
none_respect = record { same = λ x y h. refl }

-- a member before others
module _ {P A : Type 0} (first : P → A) {eq : A → A → Bool} {prepend : A → Trees → Trees} where
  pub member_respects : {tests : P → P → List Bool} {members : P → Trees} → RespectsMember eq prepend
      → RespectMembers tests members
      → RespectMembers (λ x y. eq (first x) (first y) ∷ tests x y) (λ x. prepend (first x) (members x))
  member_respects {members = members} one others = record {
    same = λ x y h. one (first x) (first y) h.0 (members x) ∙ ap (prepend (first y)) (others.same x y h.1);
  }

-- where they are a part
pub members_respect : {V P : Type 0} (part : V → P) {tests : P → P → List Bool} {members : P → Trees}
    → RespectMembers tests members
    → RespectMembers (λ x y. tests (part x) (part y)) (λ x. members (part x))
members_respect part respect = record { same = λ x y. respect.same (part x) (part y) }

-- further elements after all members
module _ {E P : Type 0} (bytes : E → List ℕ) (elements : P → List E) where
  pub others_respect : RespectMembers (λ x y. pointwise (λ a b. pointwise eqb (bytes a) (bytes b)) (elements x)
      (elements y) ∷ [])
      (λ p. others_of bytes (elements p))
  others_respect = record { same = λ x y h. items_respect (bytes_respect Tree.raw bytes) (elements x) (elements y) h.0 }

-- ---- structs and tuples

conjunction_parts : (bs : List Bool) → conjunction bs ≡ true → AreTrue bs
conjunction_parts [] h = tt
conjunction_parts (b ∷ []) h = (h, tt)
conjunction_parts (b ∷ (c ∷ bs)) h = let p = and_parts b (conjunction (c ∷ bs)) h in
    (p.0, conjunction_parts (c ∷ bs) p.1)

conjunction_after_parts : (before : Bool) (bs : List Bool) → conjunction_after before bs ≡ true
    → (before ≡ true) × AreTrue bs
conjunction_after_parts before [] h = (h, tt)
conjunction_after_parts before (b ∷ bs) h =
    let p = conjunction_after_parts (before && b) bs h in
    let q = and_parts before b p.0 in
    (q.0, (q.1, p.1))

module _ {S P : Type 0} {tests : P → P → List Bool} {members : P → Trees} (respect : RespectMembers tests members)
    (parts : S → P) where
  -- with a derived `==`
  pub struct_respects : Respects (λ x y. conjunction (tests (parts x) (parts y))) (sequence_of members parts)
  struct_respects x y h =
      ap (Tree.list ListKind.sequence)
      (respect.same (parts x) (parts y) (conjunction_parts (tests (parts x) (parts y)) h))

  -- with that of a tuple
  pub tuple_respects : Respects (λ x y. conjunction_after true (tests (parts x) (parts y))) (sequence_of members parts)
  tuple_respects x y h =
      let parts_same = (conjunction_after_parts true (tests (parts x) (parts y)) h).1 in
      ap (Tree.list ListKind.sequence) (respect.same (parts x) (parts y) parts_same)

-- ---- choices

module _ {A B : Type 0} {p : A → A → Bool} {q : B → B → Bool} {m : A → Tree} {n : B → Tree} where
  pub this_or_other_respects : Respects p m → Respects q n → Respects (equal_this_or_other p q) (chosen_of m n)
  this_or_other_respects this other (This a) (This c) h = this a c h
  this_or_other_respects this other (This a) (Other d) h = cc
  this_or_other_respects this other (Other b) (This c) h = cc
  this_or_other_respects this other (Other b) (Other d) h = other b d h

module _ {V P : Type 0} {equal : P → P → Bool} {chosen : P → Tree} (same : Respects equal chosen) (parts : V → P) where
  -- values that are equal have equal alternatives
  pub choice_respects : {eq : V → V → Bool} → ((v w : V) → eq v w ≡ true → equal (parts v) (parts w) ≡ true)
      → Respects eq (λ v. Tree.choice (chosen (parts v)))
  choice_respects so v w h = ap Tree.choice (same (parts v) (parts w) (so v w h))

-- ---- what a type says of its values, and what is owed for it

-- Values that are equal by this `==` mean the same tree, where what is owed holds: that the parts are what they say.
pub record Sameness (V : Type 0) : Type 1 where
  pub eq : V → V → Bool
  pub meaning : V → Tree
  pub Premise : Type 0
  pub follows : Premise → Respects eq meaning

-- It is said of this `==` and of what the values mean.
pub record ProvedSameness {V : Type 0} (sameness : Sameness V) (eq : V → V → Bool) (meaning : V → Tree) : Type 0 where
  pub premise : sameness.Premise
  pub means : sameness.meaning ≡ meaning
  pub equal : (x y : V) → eq x y ≡ true → sameness.eq x y ≡ true

pub respects_of : {V : Type 0} (sameness : Sameness V) {eq : V → V → Bool} {meaning : V → Tree}
    → ProvedSameness sameness eq meaning → Respects eq meaning
respects_of {V} sameness {eq = eq} t =
    subst (λ (m : V → Tree). Respects eq m) t.means (λ x y h. sameness.follows t.premise x y (t.equal x y h))

-- of which nothing is owed
abbrev pub plain_sameness : {V : Type 0} (eq : V → V → Bool) (meaning : V → Tree) → Respects eq meaning → Sameness V
plain_sameness eq meaning r = record { eq = eq; meaning = meaning; Premise = ⊤; follows = λ o. r }

-- by what the type of a part says of itself
abbrev pub sameness_by : {V A : Type 0} (a : Sameness A) (equal : A → A → Bool) (means : A → Tree) (eq : V → V
    → Bool) (meaning : V → Tree)
    → (Respects equal means → Respects eq meaning) → Sameness V
sameness_by a equal means eq meaning so = record {
  eq = eq;
  meaning = meaning;
  Premise = ProvedSameness a equal means;
  follows = λ t. so (respects_of a t);
}

module _ {V A : Type 0} (a : Sameness A) where
  -- as that of a part
  abbrev pub sameness_as : (part : V → A) → Sameness V
  sameness_as part = record {
    eq = λ x y. a.eq (part x) (part y);
    meaning = λ v. a.meaning (part v);
    Premise = a.Premise;
    follows = λ o. part_respects part (a.follows o);
  }

  abbrev pub wrapped_sameness : (equal : A → A → Bool) (means : A → Tree) (w : Wrapper) (part : V → A) → Sameness V
  wrapped_sameness equal means w part =
      sameness_by a equal means (λ x y. equal (part x) (part y)) (λ v. Tree.wrapped w (means (part v)))
      (λ r. wrapped_respects part r w)

-- one member
pub record MemberSameness (V : Type 0) : Type 1 where
  pub eq : V → V → Bool
  pub prepend : V → Trees → Trees
  pub Premise : Type 0
  pub follows : Premise → RespectsMember eq prepend

pub record ProvedMemberSameness {V : Type 0} (sameness : MemberSameness V) (eq : V → V → Bool) (prepend : V → Trees
    → Trees) : Type 0 where
  pub premise : sameness.Premise
  pub means : sameness.prepend ≡ prepend
  pub equal : (x y : V) → eq x y ≡ true → sameness.eq x y ≡ true

pub respects_member_of : {V : Type 0} (sameness : MemberSameness V) {eq : V → V → Bool} {prepend : V → Trees → Trees}
    → ProvedMemberSameness sameness eq prepend → RespectsMember eq prepend
respects_member_of {V} sameness {eq = eq} t =
    subst (λ (m : V → Trees → Trees). RespectsMember eq m) t.means
    (λ x y h. sameness.follows t.premise x y (t.equal x y h))

module _ {V A : Type 0} (a : Sameness A) (equal : A → A → Bool) (means : A → Tree) where
  abbrev pub member_by : (eq : V → V → Bool) (prepend : V → Trees → Trees)
      → (Respects equal means → RespectsMember eq prepend) → MemberSameness V
  member_by eq prepend so = record {
    eq = eq;
    prepend = prepend;
    Premise = ProvedSameness a equal means;
    follows =
        λ t. so (respects_of a t);
  }

-- equal values are both a default, or neither
pub record DefaultSameness (A : Type 0) : Type 1 where
  pub eq : A → A → Bool
  pub left_out : A → Bool
  pub Premise : Type 0
  pub follows : Premise → (x y : A) → eq x y ≡ true → left_out x ≡ left_out y

pub record ProvedDefaultSameness {A : Type 0} (sameness : DefaultSameness A) (eq : A → A → Bool) (left_out : A
    → Bool) : Type 0 where
  pub premise : sameness.Premise
  pub means : sameness.left_out ≡ left_out
  pub equal : (x y : A) → eq x y ≡ true → sameness.eq x y ≡ true

pub alike_of : {A : Type 0} (sameness : DefaultSameness A) {eq : A → A → Bool} {left_out : A → Bool}
    → ProvedDefaultSameness sameness eq left_out
    → (x y : A) → eq x y ≡ true → left_out x ≡ left_out y
alike_of {A} sameness t x y h =
    subst (λ (out : A → Bool). out x ≡ out y) t.means (sameness.follows t.premise x y (t.equal x y h))

module _ {A : Type 0} (eq : A → A → Bool) (left_out : A → Bool) where
  abbrev pub plain_default : ((x y : A) → eq x y ≡ true → left_out x ≡ left_out y) → DefaultSameness A
  plain_default alike = record { eq = eq; left_out = left_out; Premise = ⊤; follows = λ o. alike }

  -- of a value that holds another
  abbrev pub default_as : {V : Type 0} (d : DefaultSameness A) (part : V → A) → DefaultSameness V
  default_as d part = record {
    eq = λ x y. eq (part x) (part y);
    left_out = λ v. left_out (part v);
    Premise = ProvedDefaultSameness d eq left_out;
    follows = λ t x y. alike_of d t (part x) (part y);
  }

pub boolean_alike : (left_out : Bool → Bool) (x y : Bool) → beq x y ≡ true → left_out x ≡ left_out y
boolean_alike left_out x y h = ap left_out (same_boolean x y h)

pub number_alike : (left_out : ℕ → Bool) (x y : ℕ) → eqb x y ≡ true → left_out x ≡ left_out y
number_alike left_out x y h = ap left_out (eqb-true x y h)

pub int_alike : (left_out : ℤ → Bool) (x y : ℤ) → int_eq x y ≡ true → left_out x ≡ left_out y
int_alike left_out x y h = ap left_out ((Decides-int_eq x y).0 h)

module _ {V A : Type 0} (a : Sameness A) (equal : A → A → Bool) (means : A → Tree) (d : DefaultSameness A) (left_out : A
    → Bool) where
  abbrev pub default_member : (value : V → A) → MemberSameness V
  default_member value = record {
    eq = λ x y. equal (value x) (value y);
    prepend = λ v. maybe_more means (unless_default left_out (value v));
    Premise = ProvedSameness a equal means × ProvedDefaultSameness d equal left_out;
    follows = λ o. default_respects (respects_of a o.0) left_out (alike_of d o.1) value;
  }

-- all members
pub record MembersSameness (P : Type 0) : Type 1 where
  pub tests : P → P → List Bool
  pub members : P → Trees
  pub Premise : Type 0
  pub follows : Premise → RespectMembers tests members

pub record ProvedMembersSameness {P : Type 0} (sameness : MembersSameness P) (tests : P → P → List Bool) (members : P
    → Trees) : Type 0 where
  pub premise : sameness.Premise
  pub means : sameness.members ≡ members
  pub equal : (x y : P) → AreTrue (tests x y) → AreTrue (sameness.tests x y)

pub respect_of : {P : Type 0} (sameness : MembersSameness P) {tests : P → P → List Bool} {members : P → Trees}
    → ProvedMembersSameness sameness tests members → RespectMembers tests members
respect_of {P} sameness {tests = tests} t =
    subst (λ (m : P → Trees). RespectMembers tests m) t.means
    (record { same = λ x y h. (sameness.follows t.premise).same x y (t.equal x y h) })

abbrev pub plain_members : {P : Type 0} (tests : P → P → List Bool) (members : P → Trees) → RespectMembers tests members
    → MembersSameness P
plain_members tests members r = record { tests = tests; members = members; Premise = ⊤; follows = λ o. r }

abbrev pub no_members : {P : Type 0} → MembersSameness P
no_members = plain_members (λ _ _. []) (λ _. Trees.none) none_respect

module _ {P : Type 0} where
  abbrev pub member_then : {A : Type 0} (first : P → A) (a : MemberSameness A) (eq : A → A → Bool) (prepend : A → Trees
      → Trees) → MembersSameness P → MembersSameness P
  member_then first a eq prepend others = record {
    tests = λ x y. eq (first x) (first y) ∷ others.tests x y;
    members = λ x. prepend (first x) (others.members x);
    Premise = ProvedMemberSameness a eq prepend × others.Premise;
    follows = λ o. member_respects first (respects_member_of a o.0) (others.follows o.1);
  }

  abbrev pub element_then : {A : Type 0} (first : P → A) (a : Sameness A) (eq : A → A → Bool) (meaning : A → Tree)
      → MembersSameness P → MembersSameness P
  element_then first a eq meaning =
      member_then first (member_by a eq meaning eq (λ v. Trees.more (meaning v)) (λ r. always_respects r (λ v. v))) eq
      (λ v. Trees.more (meaning v))

  abbrev pub members_at : {Q : Type 0} (part : P → Q) (q : MembersSameness Q) (tests : Q → Q → List Bool) (members : Q
      → Trees) → MembersSameness P
  members_at part q tests members = record {
    tests = λ x y. tests (part x) (part y);
    members = λ x. members (part x);
    Premise = ProvedMembersSameness q tests members;
    follows = λ t. members_respect part (respect_of q t);
  }

module _ {S P : Type 0} (m : MembersSameness P) (parts : S → P) where
  -- a struct with a derived `==`, and a tuple
  abbrev pub struct_sameness : Sameness S
  struct_sameness = record {
    eq = λ x y. conjunction (m.tests (parts x) (parts y));
    meaning = sequence_of m.members parts;
    Premise = m.Premise;
    follows = λ o. struct_respects (m.follows o) parts;
  }

  abbrev pub tuple_sameness : Sameness S
  tuple_sameness = record {
    eq = λ x y. conjunction_after true (m.tests (parts x) (parts y));
    meaning = sequence_of m.members parts;
    Premise = m.Premise;
    follows = λ o. tuple_respects (m.follows o) parts;
  }

-- alternatives
abbrev pub this_or_other_sameness : {A B : Type 0} (a : Sameness A) (equal : A → A → Bool) (means : A
    → Tree) (b : Sameness B) (other : B → B → Bool) (chosen : B → Tree) → Sameness (OneOf A B)
this_or_other_sameness a equal means b other chosen = record {
  eq = equal_this_or_other equal other;
  meaning = chosen_of means chosen;
  Premise = ProvedSameness a equal means × ProvedSameness b other chosen;
  follows = λ o. this_or_other_respects (respects_of a o.0) (respects_of b o.1);
}

abbrev pub this_or_other_by : {A B : Type 0} (a : Sameness A) (equal : A → A → Bool) (means : A → Tree) (b : Sameness B)
    → Sameness (OneOf A B)
this_or_other_by a equal means b = this_or_other_sameness a equal means b b.eq b.meaning

-- a choice of them with this `==`: values that are equal have equal alternatives
abbrev pub choice_sameness : {V P : Type 0} (c : Sameness P) (parts : V → P) (eq : V → V → Bool)
    → ((v w : V) → eq v w ≡ true → c.eq (parts v) (parts w) ≡ true) → Sameness V
choice_sameness c parts eq so = record {
  eq = eq;
  meaning = λ v. Tree.choice (c.meaning (parts v));
  Premise = c.Premise;
  follows = λ o. choice_respects (c.follows o) parts so;
}
