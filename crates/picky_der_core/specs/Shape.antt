-- The shapes of types, which trees are of a shape, and with which bytes their encodings begin.
use Rattle.std.specs.Prelude.{◌≡◌, ℕ, zero, suc, Bool, true, not, ◌⊎◌, List, [], ◌∷◌, ◌++◌, ◌==◌, ⊤, IsTrue}
use Rattle.std.specs.Prelude.{if◌then◌else◌}
use Rattle.std.specs.List.{list_any, list_all, filter}
use Rattle.picky_der_core.specs.declared.asn1.wrapper.Wrapper.{Wrapper}
use Rattle.picky_der_core.specs.Tag.{number_of, is_tag_number}
use Rattle.picky_der_core.specs.Element.{AreBytes}
use Rattle.picky_der_core.specs.Primitive.{PrimitiveShape, IsPrimitive, shape_tag}
use Rattle.picky_der_core.specs.Wrapper.{wrapper_tag, wrapper_number}
use Rattle.picky_der_core.specs.Tree.{ListKind, Tree, Trees}
use Rattle.picky_der_core.specs.Encoding.{list_tag}

mutual
  pub data Shape : Type 0 where
    primitive : PrimitiveShape → Shape
    -- a list whose members are all of one shape
    list_of : ListKind → Shape → Shape
    -- a list of these members, of which some may be missing
    fields : ListKind → Layout → Shape
    wrapped : Wrapper → Shape → Shape
    optional : Shape → Shape
    raw : Shape
    -- one of these shapes
    choice : Shapes → Shape

  -- which alternatives a choice has
  pub data Shapes : Type 0 where
    none : Shapes
    more : Shape → Shapes → Shapes

  -- which members a list has, in order
  pub data Layout : Type 0 where
    empty : Layout
    required : Shape → Layout → Layout
    -- a member that may be missing, and the members after it
    maybe : Shape → Layout → Layout
    -- members that an extension added, or nothing more: a value of an earlier version ends before them (X.680, 25.1)
    added : Layout → Layout
    -- any further elements, of which the first begins with none of these bytes: elements of a later version
    others : List ℕ → Layout

abbrev pub shapes : List Shape → Shapes
shapes [] = Shapes.none
shapes (s ∷ ss) = Shapes.more s (shapes ss)

abbrev pub contains : List ℕ → ℕ → Bool
contains xs x = list_any (λ y. x == y) xs

-- ---- trees of a shape

-- the tree is of that kind, and its parts are as said

abbrev pub IsPrimitiveTree : PrimitiveShape → Tree → Type 0
IsPrimitiveTree k (Tree.primitive p) = IsPrimitive k p
IsPrimitiveTree k _ = ⊥

abbrev pub IsList : ListKind → (Trees → Type 0) → Tree → Type 0
IsList kind P (Tree.list x ts) = (x ≡ kind) × P ts
IsList kind P _ = ⊥

abbrev pub IsWrapped : Wrapper → (Tree → Type 0) → Tree → Type 0
IsWrapped w P (Tree.wrapped v t) = (v ≡ w) × P t
IsWrapped w P _ = ⊥

abbrev pub IsOptional : (Tree → Type 0) → Tree → Type 0
IsOptional P t = (t ≡ Tree.absent) ⊎ P t

abbrev pub IsRaw : Tree → Type 0
IsRaw (Tree.raw s) = AreBytes s
IsRaw _ = ⊥

abbrev pub IsChoice : (Tree → Type 0) → Tree → Type 0
IsChoice P (Tree.choice t) = P t
IsChoice P _ = ⊥

-- P of each member
abbrev pub EachIs : (Tree → Type 0) → Trees → Type 0
EachIs P Trees.none = ⊤
EachIs P (Trees.more t ts) = P t × EachIs P ts

-- P of the first member, and Q of the others
abbrev pub FirstAndRest : (Tree → Type 0) → (Trees → Type 0) → Trees → Type 0
FirstAndRest P Q Trees.none = ⊥
FirstAndRest P Q (Trees.more t ts) = P t × Q ts

-- P of the first member, and Q of the others, or Q of all
abbrev pub FirstOrNone : (Tree → Type 0) → (Trees → Type 0) → Trees → Type 0
FirstOrNone P Q ts = FirstAndRest P Q ts ⊎ Q ts

abbrev pub IsEmpty : Trees → Type 0
IsEmpty Trees.none = ⊤
IsEmpty (Trees.more t ts) = ⊥

-- P of all, or there are none
abbrev pub AllOrNone : (Trees → Type 0) → Trees → Type 0
AllOrNone P ts = P ts ⊎ IsEmpty ts

-- these bytes begin with none of the excluded ones
abbrev pub begins_outside : List ℕ → List ℕ → Bool
begins_outside excluded [] = true
begins_outside excluded (b ∷ bs) = not (contains excluded b)

abbrev pub IsRawOutside : List ℕ → Tree → Type 0
IsRawOutside excluded (Tree.raw s) = AreBytes s × IsTrue (begins_outside excluded s)
IsRawOutside excluded _ = ⊥

-- raw parts, of which the first begins with none of these bytes
abbrev pub AreOthers : List ℕ → Trees → Type 0
AreOthers excluded Trees.none = ⊤
AreOthers excluded (Trees.more t ts) = IsRawOutside excluded t × EachIs IsRaw ts

-- the tree is of the shape
abbrev mutual
  pub IsOf : Shape → Tree → Type 0
  IsOf (Shape.primitive k) = IsPrimitiveTree k
  IsOf (Shape.list_of kind s) = IsList kind (EachIs (IsOf s))
  IsOf (Shape.fields kind l) = IsList kind (AreMembersOf l)
  IsOf (Shape.wrapped w s) = IsWrapped w (IsOf s)
  IsOf (Shape.optional s) = IsOptional (IsOf s)
  IsOf Shape.raw = IsRaw
  IsOf (Shape.choice ss) = IsChoice (IsOneOf ss)

  -- the members that are there, in order
  pub AreMembersOf : Layout → Trees → Type 0
  AreMembersOf Layout.empty = IsEmpty
  AreMembersOf (Layout.required s l) = FirstAndRest (IsOf s) (AreMembersOf l)
  AreMembersOf (Layout.maybe s l) = FirstOrNone (IsOf s) (AreMembersOf l)
  AreMembersOf (Layout.added l) = AllOrNone (AreMembersOf l)
  AreMembersOf (Layout.others excluded) = AreOthers excluded

  -- the tree is of one of the shapes
  pub IsOneOf : Shapes → Tree → Type 0
  IsOneOf Shapes.none = λ t. ⊥
  IsOneOf (Shapes.more s ss) = λ t. IsOf s t ⊎ IsOneOf ss t

-- ---- first bytes

-- the tag alone, unless its number is that of the long form
abbrev pub tag_with_number : ℕ → ℕ → List ℕ
tag_with_number number tag = if is_tag_number number then tag ∷ [] else []

-- the bytes below a bound that are no tag of the long form
unfoldable pub tags_below : ℕ → List ℕ
tags_below zero = []
tags_below (suc b) = tag_with_number (number_of b) b ++ tags_below b

-- the bytes with which an encoding of the shape can begin
abbrev mutual
  pub firsts : Shape → List ℕ
  firsts (Shape.primitive k) = tag_with_number (number_of (shape_tag k)) (shape_tag k)
  firsts (Shape.list_of kind s) = list_tag kind ∷ []
  firsts (Shape.fields kind l) = list_tag kind ∷ []
  firsts (Shape.wrapped w s) = tag_with_number (wrapper_number w) (wrapper_tag w)
  firsts (Shape.optional s) = firsts s
  firsts Shape.raw = tags_below 256
  firsts (Shape.choice ss) = firsts_of ss

  pub firsts_of : Shapes → List ℕ
  firsts_of Shapes.none = []
  firsts_of (Shapes.more s ss) = firsts s ++ firsts_of ss

-- the bytes with which the first member that is there can begin
abbrev pub next_firsts : Layout → List ℕ
next_firsts Layout.empty = []
next_firsts (Layout.required s l) = firsts s
next_firsts (Layout.maybe s l) = firsts s ++ next_firsts l
next_firsts (Layout.added l) = next_firsts l
next_firsts (Layout.others excluded) = filter (λ b. not (contains excluded b)) (tags_below 256)

-- an encoding of the shape can begin with this byte
abbrev pub IsFirst : Shape → ℕ → Type 0
IsFirst s b = IsTrue (contains (firsts s) b)

-- no byte in common
abbrev pub are_disjoint : List ℕ → List ℕ → Bool
are_disjoint xs ys = list_all (λ x. not (contains ys x)) xs

-- ---- shapes whose choices and missing members are distinguished

-- each of the shapes is distinguished from those after it by the first byte
abbrev pub AreDistinct : Shapes → Type 0
AreDistinct Shapes.none = ⊤
AreDistinct (Shapes.more s ss) = IsTrue (are_disjoint (firsts s) (firsts_of ss)) × AreDistinct ss

-- each member that may be missing is distinguished by the first byte from what may come instead of it
abbrev pub AreMembersDistinct : Layout → Type 0
AreMembersDistinct Layout.empty = ⊤
AreMembersDistinct (Layout.required s l) = AreMembersDistinct l
AreMembersDistinct (Layout.maybe s l) = IsTrue (are_disjoint (firsts s) (next_firsts l)) × AreMembersDistinct l
AreMembersDistinct (Layout.added l) = AreMembersDistinct l
AreMembersDistinct (Layout.others excluded) = ⊤

-- inside, the alternatives of every choice and the members of every layout are distinguished by their first byte
abbrev mutual
  pub IsSound : Shape → Type 0
  IsSound (Shape.list_of kind s) = IsSound s
  IsSound (Shape.fields kind l) = AreMembersSound l × AreMembersDistinct l
  IsSound (Shape.wrapped w s) = IsSound s
  IsSound (Shape.optional s) = IsSound s
  IsSound (Shape.choice ss) = AreSound ss × AreDistinct ss
  IsSound _ = ⊤

  pub AreSound : Shapes → Type 0
  AreSound Shapes.none = ⊤
  AreSound (Shapes.more s ss) = IsSound s × AreSound ss

  pub AreMembersSound : Layout → Type 0
  AreMembersSound Layout.empty = ⊤
  AreMembersSound (Layout.required s l) = IsSound s × AreMembersSound l
  AreMembersSound (Layout.maybe s l) = IsSound s × AreMembersSound l
  AreMembersSound (Layout.added l) = AreMembersSound l
  AreMembersSound (Layout.others excluded) = ⊤
