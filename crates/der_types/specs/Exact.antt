-- Types whose readable values mean exactly the trees that a notation denotes.
use Rattle.std.specs.Prelude.{◌≡◌, ℕ, ◌^◌, ◌<◌, Bool, true, List, [], ◌∷◌, length, map, ⊤, refl}
use Rattle.std.proofs.Common.{sym, ap, ◌∙◌, subst, arith}
use Rattle.picky_der_core.specs.declared.asn1.wrapper.Wrapper.{Wrapper}
use Rattle.picky_der_core.specs.Readable.{IsReadable, AreReadable}
use Rattle.picky_der_core.specs.Shape.{EachIs}
use Rattle.picky_der_core.specs.Tree.{ListKind, Tree, Trees, trees}
use Rattle.der_types.specs.Constraints.{member_count}
use Rattle.der_types.specs.Notation.{Notation}
use Rattle.der_types.specs.Denotes.{IsMade, HasContent, content_tree, Denotes, IsShort, EachIsShort}

-- ---- values

pub record IsExact {V : Type 0} (P : Tree → Type 0) (meaning : V → Tree) : Type 0 where
  -- a readable value means such a tree
  pub sound : (v : V) → IsReadable (meaning v) → P (meaning v)
  -- each such tree is what some value means, if vectors can hold it
  pub complete : (t : Tree) → P t → IsReadable t → IsShort t → (v : V) × (meaning v ≡ t)

-- What a type says of its values, and that they are exact by a premise: that its parts are what they say.
pub record Values (V : Type 0) : Type 1 where
  pub notation : Notation
  pub meaning : V → Tree
  pub Premise : Type 0
  pub follows : Premise → IsExact (Denotes notation) meaning

-- It is said of the type's own notation and meaning.
pub record ProvedValues {V : Type 0} (values : Values V) (notation : Notation) (meaning : V → Tree) : Type 0 where
  pub premise : values.Premise
  pub notated : values.notation ≡ notation
  pub means : values.meaning ≡ meaning

module _ {V : Type 0} (values : Values V) {notation : Notation} {meaning : V
    → Tree} (t : ProvedValues values notation meaning) where
  pub is_exact : IsExact (Denotes notation) meaning
  is_exact =
      let of_own : IsExact (Denotes notation) values.meaning =
      subst (λ n. IsExact (Denotes n) values.meaning) t.notated (values.follows t.premise) in
      subst (λ (m : V → Tree). IsExact (Denotes notation) m) t.means of_own

abbrev pub plain_values : {V : Type 0} (notation : Notation) (meaning : V → Tree) → IsExact (Denotes notation) meaning
    → Values V
plain_values notation meaning is = record { notation = notation; meaning = meaning; Premise = ⊤; follows = λ o. is }

-- by what the type of a part says of itself
abbrev pub values_by : {V A : Type 0} (a : Values A) (n : Notation) (means : A → Tree) (notation : Notation)
    (meaning : V → Tree) → (IsExact (Denotes n) means → IsExact (Denotes notation) meaning) → Values V
values_by a n means notation meaning so =
    record {
      notation = notation;
      meaning = meaning;
      Premise = ProvedValues a n means;
      follows =
          λ t. so (is_exact a t);
    }

-- ---- values that are made of one part

module _ {A V : Type 0} (make : A → Tree) (P : A → Type 0) (part : V → A) where
  pub made_exact : ((v : V) → IsReadable (make (part v)) → P (part v))
      → ((a : A) → P a → IsReadable (make a) → IsShort (make a) → (v : V) × (part v ≡ a))
      → IsExact (IsMade make P) (λ v. make (part v))
  made_exact sound complete = record {
    sound = λ v r. (part v, refl, sound v r);
    complete = λ t d r s. let v = complete d.0 d.2 (subst IsReadable d.1 r) (subst IsShort d.1 s) in
        (v.0, ap make v.1 ∙ sym d.1);
  }

-- a content under a tag
module _ {V : Type 0} (tag : ℕ) (test : List ℕ → Bool) (content : V → List ℕ) where
  pub content_exact : ((v : V) → test (content v) ≡ true)
      → ((s : List ℕ) → test s ≡ true → length s < 2 ^ 63 → (v : V) × (content v ≡ s))
      → IsExact (HasContent tag test) (λ v. content_tree tag (content v))
  content_exact valid made = made_exact (content_tree tag) (λ s. test s ≡ true) content (λ v r. valid v)
      (λ s p r short. made s p short)

-- ---- lists

module _ {A : Type 0} (P : Tree → Type 0) (meaning : A → Tree) (is : IsExact P meaning) where
  each_sound : (xs : List A) → AreReadable (trees (map meaning xs)) → EachIs P (trees (map meaning xs))
  each_sound [] r = tt
  each_sound (x ∷ xs) r = (is.sound x r.0, each_sound xs r.1)

  each_made : (ts : Trees) → EachIs P ts → AreReadable ts → EachIsShort ts
      → (xs : List A) × (length xs ≡ member_count ts) × (trees (map meaning xs) ≡ ts)
  each_made Trees.none p r s = ([], refl, refl)
  each_made (Trees.more t ts) p r s =
      let x = is.complete t p.0 r.0 s.0 in
      let xs = each_made ts p.1 r.1 s.1 in
      (x.0 ∷ xs.0, omega (arith, xs.1), ap (λ u. Trees.more u (trees (map meaning xs.0))) x.1 ∙ ap (Trees.more t) xs.2)

  pub list_exact : {V : Type 0} (kind : ListKind) (items : V → List A)
      → ((xs : List A) → length xs < 2 ^ 63 → (v : V) × (items v ≡ xs))
      → IsExact (IsMade (Tree.list kind) (EachIs P)) (λ v. Tree.list kind (trees (map meaning (items v))))
  list_exact kind items made = made_exact (Tree.list kind) (EachIs P) (λ v. trees (map meaning (items v)))
      (λ v r. each_sound (items v) r.1)
      (λ ts p r s.
      let xs = each_made ts p r.1 s.1 in
      let v = made xs.0 (subst (λ n. n < 2 ^ 63) (sym xs.1) s.0) in
      (v.0, ap (λ ys. trees (map meaning ys)) v.1 ∙ xs.2))

-- ---- wrappers and others around one value

module _ {A V : Type 0} (P : Tree → Type 0) (meaning : A → Tree) (is : IsExact P meaning) (part : V
    → A) (whole : (x : A) → (v : V) × (part v ≡ x)) where
  part_made : (t : Tree) → P t → IsReadable t → IsShort t → (v : V) × (meaning (part v) ≡ t)
  part_made t p r s =
      let x = is.complete t p r s in
      let v = whole x.0 in
      (v.0, ap meaning v.1 ∙ x.1)

  pub part_exact : IsExact P (λ v. meaning (part v))
  part_exact = record { sound = λ v. is.sound (part v); complete = part_made }

  pub wrapped_exact : (w : Wrapper) → IsExact (IsMade (Tree.wrapped w) P) (λ v. Tree.wrapped w (meaning (part v)))
  wrapped_exact w = made_exact (Tree.wrapped w) P (λ v. meaning (part v)) (λ v r. is.sound (part v) r.2)
      (λ t p r s. part_made t p r.2 s)

-- ---- what values of parts make: lists and wrappers of them

module _ {A V : Type 0} (a : Values A) (n : Notation) (means : A → Tree) where
  abbrev pub list_values : (kind : ListKind) (items : V → List A)
      → ((xs : List A) → length xs < 2 ^ 63 → (v : V) × (items v ≡ xs)) → Values V
  list_values kind items made =
      values_by a n means (Notation.list-of kind n) (λ v. Tree.list kind (trees (map means (items v))))
      (λ is. list_exact (Denotes n) means is kind items made)

  abbrev pub wrapped_values : (w : Wrapper) (part : V → A) → ((x : A) → (v : V) × (part v ≡ x)) → Values V
  wrapped_values w part whole = values_by a n means (Notation.wrapped w n) (λ v. Tree.wrapped w (means (part v)))
      (λ is. wrapped_exact (Denotes n) means is part whole w)

  -- a type of its own around that of the part, which means the same
  abbrev pub newtype_values : (part : V → A) → ((x : A) → (v : V) × (part v ≡ x)) → Values V
  newtype_values part whole =
      values_by a n means n (λ v. means (part v)) (λ is. part_exact (Denotes n) means is part whole)
