-- With which byte the encoding of a readable tree begins.
use Rattle.std.specs.Prelude.{cond}
use Rattle.std.specs.List.{filter}
use Rattle.std.proofs.Common.{◌≡◌, ℕ, zero, suc, ◌<◌, Bool, true, false, ◌||◌, ◌&&◌, not, List, [], ◌∷◌, ◌++◌, ◌==◌}
use Rattle.std.proofs.Common.{◌⊎◌, inl, inr, refl, sym, ◌∙◌, subst, arith, eq-eqb, eqb-true, false-eqb, le-leb}
use Rattle.picky_der_core.specs.declared.asn1.wrapper.Wrapper.{Wrapper}
use Rattle.picky_der_core.specs.Tag.{number_of, IsTagNumber}
use Rattle.picky_der_core.specs.Element.{AreBytes, tlv}
use Rattle.picky_der_core.specs.Primitive.{PrimitiveShape, primitive_tag, shape_tag}
use Rattle.picky_der_core.specs.PrimitiveLaws.{primitive_tag_number, primitive_tag-shape}
use Rattle.picky_der_core.specs.Wrapper.{wrapper_tag, wrapper_number}
use Rattle.picky_der_core.specs.WrapperLaws.{wrapper_number-small}
use Rattle.picky_der_core.specs.Tree.{ListKind, Tree, Trees}
use Rattle.picky_der_core.specs.Encoding.{plain_encoding, tree_bytes, der, list_tag}
use Rattle.picky_der_core.specs.Readable.{IsReadable}
use Rattle.picky_der_core.specs.Shape.{Shape, Shapes, Layout, IsOf, IsOneOf, AreMembersOf, FirstOrNone, EachIs, firsts}
use Rattle.picky_der_core.specs.Shape.{AllOrNone, firsts_of, next_firsts, contains, are_disjoint, tags_below}
use Rattle.picky_der_core.specs.Shape.{tag_with_number}
use Rattle.picky_der_core.specs.Shape.{IsPrimitiveTree, IsRaw, begins_outside, IsRawOutside, AreOthers, IsList}
use Rattle.picky_der_core.specs.Shape.{IsOptional, IsWrapped, IsChoice}
use Rattle.picky_der_core.specs.EncodingLaws.{is_absent-readable, der-wrapped_present}

-- its encoding begins with one of these bytes
pub record BeginsIn (fs : List ℕ) (t : Tree) : Type 0 where
  pub first : ℕ
  pub others : List ℕ
  pub is : der t ≡ first ∷ others
  pub listed : contains fs first ≡ true

-- ---- lists of bytes

pub contains_itself : (x : ℕ) (ys : List ℕ) → contains (x ∷ ys) x ≡ true
contains_itself x ys = rw eq-eqb refl

or_left : (a b : Bool) → a ≡ true → (a || b) ≡ true
or_left true b h = refl
or_left false b h = cc

or_right : (a b : Bool) → b ≡ true → (a || b) ≡ true
or_right true b h = refl
or_right false b h = h

or_more : (a b c d : Bool) → (a || b) ≡ true → (a ≡ true → c ≡ true) → (b ≡ true → d ≡ true) → (c || d) ≡ true
or_more true b c d h f g = or_left c d (f refl)
or_more false b c d h f g = or_right c d (g h)

pub contains-append_left : (x : ℕ) (xs ys : List ℕ) → contains xs x ≡ true → contains (xs ++ ys) x ≡ true
contains-append_left x [] ys h = cc
contains-append_left x (y ∷ xs) ys h = or_more (x == y) (contains xs x) (x == y) (contains (xs ++ ys) x) h (λ e. e)
    (contains-append_left x xs ys)

pub contains-append_right : (x : ℕ) (xs ys : List ℕ) → contains ys x ≡ true → contains (xs ++ ys) x ≡ true
contains-append_right x [] ys h = h
contains-append_right x (y ∷ xs) ys h = or_right (x == y) (contains (xs ++ ys) x) (contains-append_right x xs ys h)

-- what is kept of a list is in it, and passes the test
pub contains-filter : (test : ℕ → Bool) (x : ℕ) (xs : List ℕ) → contains xs x ≡ true → test x ≡ true
    → contains (filter test xs) x ≡ true
contains-filter test x [] h k = cc
contains-filter test x (y ∷ ys) h k = by_test (test y) refl (λ later. contains-filter test x ys later k)
  where
    by_test : (b : Bool) → test y ≡ b → (contains ys x ≡ true → contains (filter test ys) x ≡ true)
        → contains (cond b (y ∷ filter test ys) (filter test ys)) x ≡ true
    by_test true e next = or_more (x == y) (contains ys x) (x == y) (contains (filter test ys) x) h (λ same. same) next
    by_test false e next = by_first (x == y) refl h
      where
        by_first : (b : Bool) → (x == y) ≡ b → (b || contains ys x) ≡ true → contains (filter test ys) x ≡ true
        by_first true same l =
            let kept : test y ≡ true = subst (λ z. test z ≡ true) (eqb-true x y same) k in
            let never : true ≡ false = sym kept ∙ e in
            cc
        by_first false same l = next l

and_parts : (a b : Bool) → (a && b) ≡ true → (a ≡ true) × (b ≡ true)
and_parts true b h = (refl, h)
and_parts false b h = (cc, cc)

not_both : (b : Bool) → not b ≡ true → b ≡ true → ⊥
not_both true h k = cc
not_both false h k = cc

-- no byte is in both of two disjoint lists
pub disjoint_contains : (x : ℕ) (xs ys : List ℕ) → are_disjoint xs ys ≡ true → contains xs x ≡ true
    → contains ys x ≡ true → ⊥
disjoint_contains x [] ys a h k = cc
disjoint_contains x (y ∷ xs) ys a h k =
    let parts = and_parts (not (contains ys y)) (are_disjoint xs ys) a in
    by_first (x == y) refl h (λ later. disjoint_contains x xs ys parts.1 later k)
  where
    by_first : (b : Bool) → (x == y) ≡ b → (b || contains xs x) ≡ true → (contains xs x ≡ true → ⊥) → ⊥
    by_first true e h next =
        let same : x ≡ y = eqb-true x y e in
        let fresh = and_parts (not (contains ys y)) (are_disjoint xs ys) a in
        not_both (contains ys y) fresh.0 (subst (λ z. contains ys z ≡ true) same k)
    by_first false e h next = next h

pub contains_numbered : (number tag : ℕ) → IsTagNumber number → contains (tag_with_number number tag) tag ≡ true
contains_numbered number tag h = rw (le-leb number 30 h) (contains_itself tag [])

-- each byte that isn't a tag of the long form
pub contains-tags_below : (x n : ℕ) → x < n → IsTagNumber (number_of x) → contains (tags_below n) x ≡ true
unfolding tags_below
contains-tags_below x zero l h = absurd (omega arith)
contains-tags_below x (suc n) l h = by_last (x == n) refl (λ k. contains-tags_below x n k h)
  where
    by_last : (b : Bool) → (x == n) ≡ b → (x < n → contains (tags_below n) x ≡ true)
        → contains (tag_with_number (number_of n) n ++ tags_below n) x ≡ true
    by_last true e next =
        let same : x ≡ n = eqb-true x n e in
        contains-append_left x (tag_with_number (number_of n) n) (tags_below n)
        (subst (λ m. contains (tag_with_number (number_of m) m) x ≡ true) same
        (contains_numbered (number_of x) x h))
    by_last false e next =
        let less : x < n = omega (arith, false-eqb x n (sym e)) in
        contains-append_right x (tag_with_number (number_of n) n) (tags_below n) (next less)

-- trees that begin with bytes of two disjoint lists aren't written alike
pub disjoint_differ : (fs gs : List ℕ) (t u : Tree) → are_disjoint fs gs ≡ true → BeginsIn fs t → BeginsIn gs u
    → der t ≡ der u → ⊥
disjoint_differ fs gs t u a b c e =
    let same : b.first ∷ b.others ≡ c.first ∷ c.others = sym b.is ∙ e ∙ c.is in
    let first : b.first ≡ c.first = cc in
    disjoint_contains c.first fs gs a (subst (λ x. contains fs x ≡ true) first b.listed) c.listed

-- ---- each kind of shape

pub begins_plain_encoding : (tag : ℕ) (c fs : List ℕ) (t : Tree) → der t ≡ plain_encoding true tag c
    → contains fs tag ≡ true → BeginsIn fs t
unfolding plain_encoding tlv
begins_plain_encoding tag c fs t e h = record { first = tag; others = _; is = e; listed = h }

pub begins_tlv : (tag : ℕ) (c fs : List ℕ) (t : Tree) → der t ≡ tlv tag c → contains fs tag ≡ true → BeginsIn fs t
unfolding tlv
begins_tlv tag c fs t e h = record { first = tag; others = _; is = e; listed = h }

primitive_first : (k : PrimitiveShape) (t : Tree) → IsPrimitiveTree k t → IsReadable t
    → BeginsIn (tag_with_number (number_of (shape_tag k)) (shape_tag k)) t
unfolding der tree_bytes
primitive_first k (Tree.primitive q) p r =
    let number = primitive_tag_number q r in
    subst (λ n. BeginsIn (tag_with_number (number_of n) n) (Tree.primitive q)) (primitive_tag-shape k q p)
    (begins_plain_encoding _ _ _ (Tree.primitive q) refl
    (contains_numbered (number_of (primitive_tag q)) (primitive_tag q) number))
primitive_first k _ p r = absurd p

list_first : (kind : ListKind) (P : Trees → Type 0) (t : Tree) → IsList kind P t → IsReadable t
    → BeginsIn (list_tag kind ∷ []) t
unfolding der tree_bytes
list_first kind P (Tree.list x ts) p r =
    subst (λ n. BeginsIn (list_tag n ∷ []) (Tree.list x ts)) p.0
    (begins_plain_encoding _ _ _ (Tree.list x ts) refl (contains_itself (list_tag x) []))
list_first kind P _ p r = absurd p

wrapped_first : (w : Wrapper) (P : Tree → Type 0) (t : Tree) → IsWrapped w P t → IsReadable t
    → BeginsIn (tag_with_number (wrapper_number w) (wrapper_tag w)) t
wrapped_first w P (Tree.wrapped v t) p r =
    subst (λ x. BeginsIn (tag_with_number (wrapper_number x) (wrapper_tag x)) (Tree.wrapped v t)) p.0
    (begins_tlv _ _ _ (Tree.wrapped v t) (der-wrapped_present v t (is_absent-readable t r.2))
    (contains_numbered (wrapper_number v) (wrapper_tag v) (wrapper_number-small v r.0)))
wrapped_first w P _ p r = absurd p

raw_first : (t : Tree) → IsRaw t → IsReadable t → BeginsIn (tags_below 256) t
unfolding der tree_bytes tlv
raw_first (Tree.raw s) p r =
    let element = r.0 in
    let bytes : AreBytes (tlv element.tag element.content) = subst AreBytes element.is r.1 in
    begins_tlv _ _ _ (Tree.raw s) element.is (contains-tags_below element.tag 256 bytes.0 element.number)
raw_first _ p r = absurd p

-- a readable tree of an optional shape is there
pub is_of-optional : (P : Tree → Type 0) (t : Tree) → IsOptional P t → IsReadable t → P t
is_of-optional P t (inl e) r = absurd (subst IsReadable e r)
is_of-optional P t (inr p) r = p

choice_first : (P : Tree → Type 0) (fs : List ℕ) → ((t : Tree) → P t → IsReadable t → BeginsIn fs t) → (t : Tree)
    → IsChoice P t → IsReadable t → BeginsIn fs t
unfolding der tree_bytes
choice_first P fs next (Tree.choice t) p r = let b = next t p r in
    record { first = b.first; others = b.others; is = b.is; listed = b.listed }
choice_first P fs next _ p r = absurd p

begins_left : (fs gs : List ℕ) (t : Tree) → BeginsIn fs t → BeginsIn (fs ++ gs) t
begins_left fs gs t b = record {
  first = b.first;
  others = b.others;
  is = b.is;
  listed =
      contains-append_left b.first fs gs b.listed;
}

begins_right : (fs gs : List ℕ) (t : Tree) → BeginsIn gs t → BeginsIn (fs ++ gs) t
begins_right fs gs t b = record {
  first = b.first;
  others = b.others;
  is = b.is;
  listed =
      contains-append_right b.first fs gs b.listed;
}

one_of_first : (P Q : Tree → Type 0) (fs gs : List ℕ) → ((t : Tree) → P t → IsReadable t → BeginsIn fs t)
    → ((t : Tree) → Q t → IsReadable t → BeginsIn gs t) → (t : Tree) → P t ⊎ Q t → IsReadable t → BeginsIn (fs ++ gs) t
one_of_first P Q fs gs f g t (inl p) r = begins_left fs gs t (f t p r)
one_of_first P Q fs gs f g t (inr q) r = begins_right fs gs t (g t q r)

-- the first member that is there, where the first of the layout may be missing
first_or_none_first : (P : Tree → Type 0) (Q : Trees → Type 0) (fs gs : List ℕ)
    → ((t : Tree) → P t → IsReadable t → BeginsIn fs t) → ((t : Tree) (ts : Trees) → Q (Trees.more t ts) → IsReadable t
    → BeginsIn gs t)
    → (t : Tree) (ts : Trees) → FirstOrNone P Q (Trees.more t ts) → IsReadable t → BeginsIn (fs ++ gs) t
first_or_none_first P Q fs gs f g t ts (inl p) r = begins_left fs gs t (f t p.0 r)
first_or_none_first P Q fs gs f g t ts (inr q) r = begins_right fs gs t (g t ts q r)

mutual
  pub begins_in : (s : Shape) (t : Tree) → IsOf s t → IsReadable t → BeginsIn (firsts s) t
  begins_in (Shape.primitive k) = primitive_first k
  begins_in (Shape.list_of kind s) = list_first kind _
  begins_in (Shape.fields kind l) = list_first kind _
  begins_in (Shape.wrapped w s) = wrapped_first w _
  begins_in (Shape.optional s) = λ t p r. begins_in s t (is_of-optional (IsOf s) t p r) r
  begins_in Shape.raw = raw_first
  begins_in (Shape.choice ss) = choice_first (IsOneOf ss) (firsts_of ss) (begins_in_one ss)

  pub begins_in_one : (ss : Shapes) (t : Tree) → IsOneOf ss t → IsReadable t → BeginsIn (firsts_of ss) t
  begins_in_one Shapes.none = λ t p r. absurd p
  begins_in_one (Shapes.more s ss) = one_of_first (IsOf s) (IsOneOf ss) (firsts s) (firsts_of ss) (begins_in s)
      (begins_in_one ss)

-- ---- any further elements

pub others_each : (excluded : List ℕ) (ts : Trees) → AreOthers excluded ts → EachIs IsRaw ts
others_each excluded Trees.none p = tt
others_each excluded (Trees.more (Tree.raw s) ts) p = (p.0.0, p.1)
others_each excluded (Trees.more _ ts) p = absurd p.0

-- one that doesn't begin with an excluded byte begins with one of the others
raw_outside_first : (excluded : List ℕ) (t : Tree) → IsRawOutside excluded t → IsReadable t
    → BeginsIn (filter (λ b. not (contains excluded b)) (tags_below 256)) t
unfolding der tree_bytes
raw_outside_first excluded (Tree.raw s) p r =
    let b = raw_first (Tree.raw s) p.0 r in
    let is : s ≡ b.first ∷ b.others = b.is in
    let outside : not (contains excluded b.first) ≡ true = subst (λ z. begins_outside excluded z ≡ true) is p.1 in
    record {
      first = b.first;
      others = b.others;
      is = b.is;
      listed =
          contains-filter (λ x. not (contains excluded x)) b.first (tags_below 256) b.listed outside;
    }
raw_outside_first excluded _ p r = absurd p

all_or_none_first : (P : Trees → Type 0) (fs : List ℕ) → ((t : Tree) (ts : Trees) → P (Trees.more t ts) → IsReadable t
    → BeginsIn fs t) → (t : Tree) (ts : Trees) → AllOrNone P (Trees.more t ts) → IsReadable t → BeginsIn fs t
all_or_none_first P fs first t ts (inl p) r = first t ts p r
all_or_none_first P fs first t ts (inr p) r = absurd p

pub begins_next : (l : Layout) (t : Tree) (ts : Trees) → AreMembersOf l (Trees.more t ts) → IsReadable t
    → BeginsIn (next_firsts l) t
begins_next Layout.empty = λ t ts p r. absurd p
begins_next (Layout.required s l) = λ t ts p r. begins_in s t p.0 r
begins_next (Layout.maybe s l) = first_or_none_first (IsOf s) (AreMembersOf l) (firsts s) (next_firsts l) (begins_in s)
    (begins_next l)
begins_next (Layout.added l) = all_or_none_first (AreMembersOf l) (next_firsts l) (begins_next l)
begins_next (Layout.others excluded) = λ t ts p r. raw_outside_first excluded t p.0 r
