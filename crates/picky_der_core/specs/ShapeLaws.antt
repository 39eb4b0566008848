-- The readable trees of a shape that are directly under an implicit tag are all plain, or none is.
use Rattle.std.proofs.Common.{◌≡◌, Bool, true, false, refl}
use Rattle.picky_der_core.specs.declared.asn1.wrapper.Wrapper.{Wrapper}
use Rattle.picky_der_core.specs.Primitive.{PrimitiveShape}
use Rattle.picky_der_core.specs.Tree.{ListKind, Tree, Trees, is_plain}
use Rattle.picky_der_core.specs.Readable.{IsReadable, IsNoChoice}
use Rattle.picky_der_core.specs.Shape.{Shape, IsOf, IsPrimitiveTree, IsRaw, IsList, IsWrapped, IsChoice}
use Rattle.picky_der_core.specs.FirstLaws.{is_of-optional}

abbrev pub is_plain_shape : Shape → Bool
is_plain_shape (Shape.primitive k) = true
is_plain_shape (Shape.list_of kind s) = true
is_plain_shape (Shape.fields kind l) = true
is_plain_shape (Shape.optional s) = is_plain_shape s
is_plain_shape _ = false

-- each readable tree with P that is no choice is plain, or each isn't
abbrev ArePlain : Bool → (Tree → Type 0) → Type 0
ArePlain plain P = (t : Tree) → P t → IsReadable t → IsNoChoice t → is_plain t ≡ plain

primitive_plain : (k : PrimitiveShape) → ArePlain true (IsPrimitiveTree k)
primitive_plain k (Tree.primitive q) p r n = refl
primitive_plain k _ p r n = absurd p

list_plain : (kind : ListKind) (Q : Trees → Type 0) → ArePlain true (IsList kind Q)
list_plain kind Q (Tree.list x ts) p r n = refl
list_plain kind Q _ p r n = absurd p

wrapped_plain : (w : Wrapper) (P : Tree → Type 0) → ArePlain false (IsWrapped w P)
wrapped_plain w P (Tree.wrapped v t) p r n = refl
wrapped_plain w P _ p r n = absurd p

raw_plain : ArePlain false IsRaw
raw_plain (Tree.raw s) p r n = refl
raw_plain _ p r n = absurd p

choice_plain : (P : Tree → Type 0) → ArePlain false (IsChoice P)
choice_plain P (Tree.choice t) p r n = absurd n
choice_plain P _ p r n = absurd p

pub plain_by_shape : (s : Shape) → ArePlain (is_plain_shape s) (IsOf s)
plain_by_shape (Shape.primitive k) = primitive_plain k
plain_by_shape (Shape.list_of kind s) = list_plain kind _
plain_by_shape (Shape.fields kind l) = list_plain kind _
plain_by_shape (Shape.wrapped w s) = wrapped_plain w _
plain_by_shape (Shape.optional s) = λ t p r n. plain_by_shape s t (is_of-optional (IsOf s) t p r) r n
plain_by_shape Shape.raw = raw_plain
plain_by_shape (Shape.choice ss) = choice_plain _
