-- Types whose values a constraint bounds, and that mean exactly the trees that it allows.
use Rattle.std.specs.Prelude.{◌≡◌, ℕ, ℤ, pos, Bool, true, false, not, nat_lt, int_le, List, [], ◌∷◌, length, map, ⊤}
use Rattle.std.proofs.Common.{refl, sym, ap, ◌∙◌, subst, arith}
use Rattle.picky_der_core.specs.Integer.{fits_signed, int_tree, integer_value, within, unsigned_tree}
use Rattle.picky_der_core.specs.IntLaws.{fits-within, within-fits}
use Rattle.picky_der_core.specs.IntegerLaws.{value-content}
use Rattle.picky_der_core.specs.Primitive.{Primitive}
use Rattle.picky_der_core.specs.Element.{AreBytes}
use Rattle.picky_der_core.specs.Readable.{IsReadable}
use Rattle.picky_der_core.specs.Tag.{number_of, IsTagNumber}
use Rattle.picky_der_core.specs.Tree.{Tree, trees}
use Rattle.der_types.specs.Constraints.{is_size, is_between, member_count}
use Rattle.der_types.specs.Notation.{Notation}
use Rattle.der_types.specs.ContentsFacts.{same_bytes}
use Rattle.der_types.specs.Denotes.{Denotes, content_tree, tree_number, tree_size}
use Rattle.der_types.specs.Exact.{IsExact, Values, ProvedValues, is_exact}
use Rattle.der_types.specs.ExactContents.{OwnContents, ProvedContents, are_own}
use Rattle.der_types.specs.PrimitiveForm.{primitive_form}

module _ {A V : Type 0} (P : Tree → Type 0) (means : A → Tree) (is : IsExact P means) (allows : A → Bool) (test : Tree
    → Bool) (same : (x : A) → IsReadable (means x) → allows x ≡ test (means x)) (b : Bool) (part : V
    → A) (kept : (v : V)
    → allows (part v) ≡ b) (whole : (x : A) → allows x ≡ b → (v : V) × (part v ≡ x)) where
  pub constrained_exact : IsExact (λ t. P t × (test t ≡ b)) (λ v. means (part v))
  constrained_exact = record {
    sound = λ v r. (is.sound (part v) r, sym (same (part v) r) ∙ kept v);
    complete = λ t d r s.
        let x = is.complete t d.0 r s in
        let v = whole x.0 (same x.0 (subst IsReadable (sym x.1) r) ∙ (ap test x.1 ∙ d.1)) in
        (v.0, ap means v.1 ∙ x.1);
  }

-- ---- the numbers and sizes of readable values are the numbers and sizes of their trees

pub record Numbered (A : Type 0) : Type 1 where
  pub number : A → ℤ
  pub meaning : A → Tree
  pub Premise : Type 0
  pub same : Premise → (x : A) → IsReadable (meaning x) → number x ≡ tree_number (meaning x)

-- It is said of the type's own numbers and meaning.
pub record ProvedNumber {A : Type 0} (d : Numbered A) (number : A → ℤ) (meaning : A → Tree) : Type 0 where
  pub premise : d.Premise
  pub numbers : d.number ≡ number
  pub means : d.meaning ≡ meaning

pub is_numbered : {A : Type 0} (d : Numbered A) {number : A → ℤ} {meaning : A → Tree} → ProvedNumber d number meaning
    → (x : A) → IsReadable (meaning x) → number x ≡ tree_number (meaning x)
is_numbered {A} d t x r = sym (ap (λ (f : A → ℤ). f x) t.numbers)
    ∙ (d.same t.premise x (subst (λ (f : A → Tree). IsReadable (f x)) (sym t.means) r)
    ∙ ap (λ (f : A → Tree). tree_number (f x)) t.means)

number_within : (b : Bool) (n : ℕ) → pos n ≡ tree_number (within b (Tree.primitive (Primitive.unsigned n)))
number_within true n = refl
number_within false n = refl

pub unsigned_number : (most n : ℕ) → pos n ≡ tree_number (unsigned_tree most n)
unsigned_number most n = number_within (not (nat_lt most n)) n

-- one whose number is that of its tree, whatever its parts are
abbrev pub numbered_plainly : {A : Type 0} (number : A → ℤ) (meaning : A → Tree)
    → ((x : A) → number x ≡ tree_number (meaning x)) → Numbered A
numbered_plainly number meaning same =
    record { number = number; meaning = meaning; Premise = ⊤; same = λ o x r. same x }

abbrev pub numbered_unsigned : ℕ → Numbered ℕ
numbered_unsigned most = numbered_plainly pos (unsigned_tree most) (unsigned_number most)

pub signed_number : (fits : ℤ → Bool) (z : ℤ) → IsReadable (int_tree fits z) → z ≡ tree_number (int_tree fits z)
signed_number fits z r =
    let f = fits-within fits z r.1 in
    sym (ap integer_value (within-fits fits z f) ∙ value-content z)

-- one of a signed type, of which each readable number has its content
abbrev pub numbered_signed : ℕ → Numbered ℤ
numbered_signed bits = record {
  number = λ z. z;
  meaning = int_tree (fits_signed bits);
  Premise = ⊤;
  same = λ o. signed_number (fits_signed bits);
}

-- one whose number is that of its part
abbrev pub numbered_by : {A V : Type 0} (d : Numbered A) (number : A → ℤ) (means : A → Tree) (part : V → A) → Numbered V
numbered_by d number means part = record {
  number = λ v. number (part v);
  meaning = λ v. means (part v);
  Premise = ProvedNumber d number means;
  same = λ t v r. is_numbered d t (part v) r;
}

pub record Sized (A : Type 0) : Type 1 where
  pub size : A → ℕ
  pub notation : Notation
  pub meaning : A → Tree
  pub Premise : Type 0
  pub same : Premise → (x : A) → size x ≡ tree_size notation (meaning x)

pub record ProvedSize {A : Type 0} (d : Sized A) (size : A → ℕ) (notation : Notation) (meaning : A → Tree) : Type 0
  where
    pub premise : d.Premise
    pub sizes : d.size ≡ size
    pub notated : d.notation ≡ notation
    pub means : d.meaning ≡ meaning

pub is_sized : {A : Type 0} (d : Sized A) {size : A → ℕ} {notation : Notation} {meaning : A → Tree}
    → ProvedSize d size notation meaning → (x : A) → size x ≡ tree_size notation (meaning x)
is_sized {A} d {meaning = meaning} t x = sym (ap (λ (f : A → ℕ). f x) t.sizes)
    ∙ (d.same t.premise x
    ∙ (ap (λ (f : A → Tree). tree_size d.notation (f x)) t.means ∙ ap (λ n. tree_size n (meaning x)) t.notated))

-- one whose size is that of its tree, whatever its parts are
abbrev pub sized_plainly : {A : Type 0} (size : A → ℕ) (notation : Notation) (meaning : A → Tree)
    → ((x : A) → size x ≡ tree_size notation (meaning x)) → Sized A
sized_plainly size notation meaning same = record {
  size = size;
  notation = notation;
  meaning = meaning;
  Premise =
      ⊤;
  same = λ o. same;
}

-- a list has as many members as its tree
pub counted : {A : Type 0} (meaning : A → Tree) (xs : List A) → length xs ≡ member_count (trees (map meaning xs))
counted meaning [] = refl
counted meaning (x ∷ xs) = omega (arith, counted meaning xs)

-- ---- contents under another tag, whose numbers and sizes are those under their own

-- values with one content under a tag mean the same under their own
pub same_meanings : {A : Type 0} (d : OwnContents A) {meaning : A → Tree} {content : A → List ℕ}
    → ProvedContents d meaning content → (tag : ℕ) (x y : A)
    → content_tree tag (content x) ≡ content_tree tag (content y) → meaning x ≡ meaning y
same_meanings d {content = content} o tag x y e = are_own d o x
    ∙ (ap (content_tree d.tag) (same_bytes (content x) (content y) e) ∙ sym (are_own d o y))

pub own_readable : {A : Type 0} (d : OwnContents A) {meaning : A → Tree} {content : A → List ℕ}
    → ProvedContents d meaning content → (x : A) → AreBytes (content x) → IsReadable (meaning x)
own_readable d o x bytes = subst IsReadable (sym (are_own d o x)) (d.short o.premise, bytes)

module _ {A V : Type 0} (d : OwnContents A) (means : A → Tree) (content : A → List ℕ) (tag : ℕ) (part : V → A) where
  abbrev pub numbered_under : (a : Numbered A) (number : A → ℤ) → Numbered V
  numbered_under a number = record {
    number = λ v. number (part v);
    meaning = λ v. content_tree (primitive_form tag) (content (part v));
    Premise = ProvedNumber a number means × ProvedContents d means content;
    same = λ o v r. is_numbered a o.0 (part v) (own_readable d o.1 (part v) r.1)
        ∙ ap tree_number (are_own d o.1 (part v));
  }

  abbrev pub sized_under : (a : Sized A) (size : A → ℕ) (n : Notation) → Sized V
  sized_under a size n = record {
    size = λ v. size (part v);
    notation = Notation.content-under tag n;
    meaning = λ v. content_tree (primitive_form tag) (content (part v));
    Premise = ProvedSize a size n means × ProvedContents d means content;
    same = λ o v. is_sized a o.0 (part v) ∙ ap (tree_size n) (are_own d o.1 (part v));
  }

-- ---- what types with a constraint say of their values

module _ {A V : Type 0} (a : Values A) (n : Notation) (means : A → Tree) (part : V → A) where
  -- those whose number passes the test, or fails it
  pub numbers_exact : (test : ℤ → Bool) (b : Bool) (d : Numbered A) (number : A → ℤ)
      → ProvedValues a n means × ProvedNumber d number means → ((v : V) → test (number (part v)) ≡ b)
      → ((x : A) → test (number x) ≡ b → (v : V) × (part v ≡ x))
      → IsExact (λ t. Denotes n t × (test (tree_number t) ≡ b)) (λ v. means (part v))
  numbers_exact test b d number o kept whole =
      constrained_exact (Denotes n) means (is_exact a o.0) (λ x. test (number x)) (λ t. test (tree_number t))
      (λ x r. ap test (is_numbered d o.1 x r)) b part kept whole

  abbrev pub in_range_values : (least most : ℤ) (d : Numbered A) (number : A → ℤ)
      → ((v : V) → is_between least most (number (part v)) ≡ true)
      → ((x : A) → is_between least most (number x) ≡ true → (v : V) × (part v ≡ x)) → Values V
  in_range_values least most d number kept whole = record {
    notation = Notation.in-range least most n;
    meaning = λ v. means (part v);
    Premise = ProvedValues a n means × ProvedNumber d number means;
    follows = λ o. numbers_exact (is_between least most) true d number o kept whole;
  }

  abbrev pub at_least_values : (least : ℤ) (d : Numbered A) (number : A → ℤ)
      → ((v : V) → int_le least (number (part v)) ≡ true)
      → ((x : A) → int_le least (number x) ≡ true → (v : V) × (part v ≡ x)) → Values V
  at_least_values least d number kept whole = record {
    notation = Notation.at-least least n;
    meaning = λ v. means (part v);
    Premise = ProvedValues a n means × ProvedNumber d number means;
    follows = λ o. numbers_exact (int_le least) true d number o kept whole;
  }

  abbrev pub at_most_values : (most : ℤ) (d : Numbered A) (number : A → ℤ)
      → ((v : V) → int_le (number (part v)) most ≡ true)
      → ((x : A) → int_le (number x) most ≡ true → (v : V) × (part v ≡ x)) → Values V
  at_most_values most d number kept whole = record {
    notation = Notation.at-most most n;
    meaning = λ v. means (part v);
    Premise = ProvedValues a n means × ProvedNumber d number means;
    follows = λ o. numbers_exact (λ z. int_le z most) true d number o kept whole;
  }

  abbrev pub outside_values : (least most : ℤ) (d : Numbered A) (number : A → ℤ)
      → ((v : V) → is_between least most (number (part v)) ≡ false)
      → ((x : A) → is_between least most (number x) ≡ false → (v : V) × (part v ≡ x)) → Values V
  outside_values least most d number kept whole = record {
    notation = Notation.outside least most n;
    meaning = λ v. means (part v);
    Premise = ProvedValues a n means × ProvedNumber d number means;
    follows = λ o. numbers_exact (is_between least most) false d number o kept whole;
  }

  abbrev pub sized_values : (least most : ℕ) (d : Sized A) (size : A → ℕ)
      → ((v : V) → is_size least most (size (part v)) ≡ true)
      → ((x : A) → is_size least most (size x) ≡ true → (v : V) × (part v ≡ x)) → Values V
  sized_values least most d size kept whole = record {
    notation = Notation.sized least most n;
    meaning = λ v. means (part v);
    Premise = ProvedValues a n means × ProvedSize d size n means;
    follows = λ o. constrained_exact (Denotes n) means (is_exact a o.0) (λ x. is_size least most (size x))
        (λ t. is_size least most (tree_size n t)) (λ x r. ap (is_size least most) (is_sized d o.1 x)) true part kept
        whole;
  }
