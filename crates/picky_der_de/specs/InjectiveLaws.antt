-- A tree determines its value.
use Rattle.std.specs.Prelude.{◌≡◌, ℕ, ℤ, List, [], ◌∷◌, Bool, true, false, ◌&&◌, map, length, nat_eq, Some, None}
use Rattle.std.specs.Prelude.{encode_utf8, refl}
use Rattle.std.specs.Option.{option_eq}
use Rattle.std.specs.Ordering.{int_eq}
use Rattle.std.proofs.lemmas.Bool.Decides.{Decides-int_eq}
use mathlib.Core.Bool.{beq}
use lib.Pointwise.{pointwise}
use lib.Dec.{eqb}
use Rattle.std.proofs.Common.{eq-eqb, ap, subst, sym, inr, ◌++◌, append-nil}
use Rattle.std.proofs.lemmas.Str.{encode_same, chars_from_encodes}
use Rattle.picky_der_core.specs.Primitive.{Primitive, PrimitiveShape}
use Rattle.picky_der_core.specs.Tree.{ListKind, Tree, Trees, trees}
use Rattle.picky_der_core.specs.Integer.{content_within, int_tree, unsigned_tree}
use Rattle.picky_der_core.specs.IntLaws.{same_within}
use Rattle.picky_der_core.specs.UnsignedTreeLaws.{unsigned_tree-same}
use Rattle.picky_der_core.specs.Readable.{IsReadable, AreReadable}
use Rattle.picky_der_core.specs.Shape.{Shape, IsOf, EachIs}
use Rattle.picky_der_core.specs.FirstLaws.{is_of-optional}
use Rattle.picky_der_ser.specs.Meaning.{option_meaning}

-- two readable values of the type with one tree are equal
abbrev pub IsInjective : {V : Type 0} → (V → Tree) → Shape → (V → V → Bool) → Type 0
IsInjective {V} meaning s eq = (x y : V) → IsOf s (meaning x) → IsOf s (meaning y) → IsReadable (meaning x)
    → meaning x ≡ meaning y → eq x y ≡ true

-- a readable value of the type is of its shape
abbrev pub HasShape : {V : Type 0} → (V → Tree) → Shape → Type 0
HasShape {V} meaning s = (v : V) → IsReadable (meaning v) → IsOf s (meaning v)

pub boolean_injective : (x y : Bool) → Tree.primitive (Primitive.boolean x) ≡ Tree.primitive (Primitive.boolean y)
    → beq x y ≡ true
boolean_injective true true e = refl
boolean_injective false false e = refl
boolean_injective true false e = let q : true ≡ false = cc in cc
boolean_injective false true e = let q : false ≡ true = cc in cc

pub unsigned_injective : (most x y : ℕ) → unsigned_tree most x ≡ unsigned_tree most y → nat_eq x y ≡ true
unsigned_injective most x y e = eq-eqb x y (unsigned_tree-same most x y e)

pub int_injective : (fits : ℤ → Bool) (x y : ℤ) → int_tree fits x ≡ int_tree fits y → int_eq x y ≡ true
int_injective fits x y e = let q : content_within fits x ≡ content_within fits y = cc in
    (Decides-int_eq x y).1 (same_within fits x y q)

same_bytes : (x y : List ℕ) → x ≡ y → pointwise eqb x y ≡ true
same_bytes [] [] e = refl
same_bytes [] (b ∷ y) e = cc
same_bytes (a ∷ x) [] e = cc
same_bytes (a ∷ x) (b ∷ y) e =
    let p : a ≡ b = cc in
    let q = same_bytes x y (cc) in
    rw (eq-eqb a b p, q) refl

pub bytes_injective : {tag other : ℕ} (x y : List ℕ)
    → Tree.primitive (Primitive.bytes tag x) ≡ Tree.primitive (Primitive.bytes other y) → pointwise eqb x y ≡ true
bytes_injective x y e = let q : x ≡ y = cc in same_bytes x y q

pub raw_injective : (x y : List ℕ) → Tree.raw x ≡ Tree.raw y → pointwise eqb x y ≡ true
raw_injective x y e = let q : x ≡ y = cc in same_bytes x y q

pub text_injective : (x y : List ℕ) → Tree.primitive (Primitive.text x) ≡ Tree.primitive (Primitive.text y)
    → pointwise eqb x y ≡ true
text_injective x y e = let q : x ≡ y = cc in same_bytes x y q

pub character_injective : (x y : ℕ)
    → Tree.primitive (Primitive.text (encode_utf8 x)) ≡ Tree.primitive (Primitive.text (encode_utf8 y))
    → nat_eq x y ≡ true
character_injective x y e =
    let q : encode_utf8 x ≡ encode_utf8 y = cc in
    eq-eqb x y (encode_same x y [] [] (ap (λ bs. bs ++ []) q)).0

-- what is read isn't missing
pub option_injective : {V : Type 0} (meaning : V → Tree) (s : Shape) (eq : V → V → Bool) → IsInjective meaning s eq
    → IsInjective (option_meaning meaning) (Shape.optional s) (option_eq eq)
option_injective meaning s eq known None y p q r e = absurd r
option_injective meaning s eq known (Some x) None p q r e = absurd (subst IsReadable e r)
option_injective meaning s eq known (Some x) (Some y) p q r e =
    known x y (is_of-optional (IsOf s) (meaning x) p r) (is_of-optional (IsOf s) (meaning y) q (subst IsReadable e r)) r
    e

pub option_has_shape : {V : Type 0} (meaning : V → Tree) (s : Shape) → HasShape meaning s
    → HasShape (option_meaning meaning) (Shape.optional s)
option_has_shape meaning s has None r = absurd r
option_has_shape meaning s has (Some x) r = inr (has x r)

-- ---- characters

-- a readable one is a text of one character
pub character_has_shape : HasShape (λ c. Tree.primitive (Primitive.text (encode_utf8 c)))
    (Shape.primitive PrimitiveShape.character)
character_has_shape c r =
    (r, ap length (sym (chars_from_encodes (c ∷ []) (encode_utf8 c) r (append-nil (encode_utf8 c)))))

-- ---- lists

pub items_of_shape : {V : Type 0} (meaning : V → Tree) (s : Shape) → HasShape meaning s → (vs : List V)
    → AreReadable (trees (map meaning vs)) → EachIs (IsOf s) (trees (map meaning vs))
items_of_shape meaning s has [] r = tt
items_of_shape meaning s has (v ∷ vs) r = (has v r.0, items_of_shape meaning s has vs r.1)

-- values of which P holds are known by their trees, so lists of such values are
module _ {V : Type 0} (meaning : V → Tree) (eq : V → V → Bool) (P : V → Type 0) (All : List V → Type 0)
    (parted : (v : V) (vs : List V) → All (v ∷ vs) → P v × All vs) (known : (x y : V) → P x → P y
    → meaning x ≡ meaning y → eq x y ≡ true) where
  same_items : (xs ys : List V) → All xs → All ys → trees (map meaning xs) ≡ trees (map meaning ys)
      → pointwise eq xs ys ≡ true
  same_items [] [] p q e = refl
  same_items [] (y ∷ ys) p q e = cc
  same_items (x ∷ xs) [] p q e = cc
  same_items (x ∷ xs) (y ∷ ys) p q e =
      let f : meaning x ≡ meaning y = cc in
      let g : trees (map meaning xs) ≡ trees (map meaning ys) = cc in
      let h = parted x xs p in
      let k = parted y ys q in
      rw (known x y h.0 k.0 f, same_items xs ys h.1 k.1 g) refl

-- lists of values that are known by their trees
pub list_injective : {V : Type 0} (meaning : V → Tree) (s : Shape) (eq : V → V → Bool) → IsInjective meaning s eq
    → {k l : ListKind} (xs ys : List V) → EachIs (IsOf s) (trees (map meaning xs))
    → EachIs (IsOf s) (trees (map meaning ys)) → AreReadable (trees (map meaning xs))
    → Tree.list k (trees (map meaning xs)) ≡ Tree.list l (trees (map meaning ys)) → pointwise eq xs ys ≡ true
list_injective {V} meaning s eq known xs ys p q r e =
    let f : trees (map meaning xs) ≡ trees (map meaning ys) = cc in
    same_items meaning eq (λ v. IsOf s (meaning v) × IsReadable (meaning v))
    (λ vs. EachIs (IsOf s) (trees (map meaning vs)) × AreReadable (trees (map meaning vs)))
    (λ v vs h. ((h.0.0, h.1.0), (h.0.1, h.1.1)))
    (λ x y h k g. known x y h.0 k.0 h.1 g) xs ys (p, r) (q, subst AreReadable f r) f

-- ---- members, each of which is known

pub list_members : {k l : ListKind} {ts us : Trees} → Tree.list k ts ≡ Tree.list l us → ts ≡ us
list_members e = cc

-- the first member and the others
pub first_member : {t u : Tree} {ts us : Trees} → Trees.more t ts ≡ Trees.more u us → t ≡ u
first_member e = cc

pub other_members : {t u : Tree} {ts us : Trees} → Trees.more t ts ≡ Trees.more u us → ts ≡ us
other_members e = cc

pub both : {p q : Bool} → p ≡ true → q ≡ true → (p && q) ≡ true
both h k = rw (h, k) refl
