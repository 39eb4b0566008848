-- Worked examples of shapes, and what the laws would fail without.
use Rattle.std.proofs.Common.{◌≡◌, ℕ, false, List, [], ◌∷◌, ◌++◌, inl, inr, refl, arith}
use Rattle.picky_der_core.specs.declared.asn1.wrapper.Wrapper.TheVariants.{Implicit}
use Rattle.picky_der_core.specs.Primitive.{Primitive, PrimitiveShape}
use Rattle.picky_der_core.specs.Tree.{ListKind, Tree, trees}
use Rattle.picky_der_core.specs.Order.{is_less}
use Rattle.picky_der_core.specs.OrderLaws.{IsSortedBy-one, IsSortedBy-cons, IsSortedBy-broken}
use Rattle.picky_der_core.specs.Encoding.{der, implicit_content}
use Rattle.picky_der_core.specs.Readable.{IsReadable}
use Rattle.picky_der_core.specs.Shape.{Shape, Layout, shapes, IsOf, IsSound, tags_below}
use Rattle.picky_der_core.proofs.OnLiterals.{der_on_literals}

-- ---- choices that are distinguished by the first byte, and one that isn't

number_or_flag : IsSound
    (Shape.choice
    (shapes (Shape.primitive (PrimitiveShape.unsigned 255) ∷ (Shape.primitive PrimitiveShape.boolean) ∷ [])))
number_or_flag = ((tt, (tt, tt)), (refl, (refl, tt)))

raw_or_long_tag : IsSound (Shape.choice (shapes (Shape.raw ∷ Shape.primitive (PrimitiveShape.bytes 0x1F) ∷ [])))
unfolding tags_below
raw_or_long_tag = ((tt, (tt, tt)), (refl, (refl, tt)))

two_numbers : IsSound
    (Shape.choice
    (shapes (Shape.primitive (PrimitiveShape.unsigned 255) ∷ Shape.primitive (PrimitiveShape.unsigned 65535) ∷ []))) → ⊥
two_numbers sound = let indistinct = sound.1.0 in cc

-- ---- a struct of a number, bytes, and a pair

abbrev struct : Tree
struct = Tree.list ListKind.sequence
    (trees (Tree.primitive (Primitive.unsigned 7) ∷ Tree.primitive (Primitive.bytes 0x04 (0x54 ∷ 0x65 ∷ []))
    ∷ Tree.list ListKind.sequence (trees (Tree.primitive (Primitive.unsigned 4) ∷ (Tree.primitive Primitive.null) ∷ []))
    ∷ []))

abbrev pair_shape : Shape
pair_shape =
    Shape.fields ListKind.sequence (Layout.required (Shape.primitive (PrimitiveShape.unsigned 0xFFFF_FFFF_FFFF_FFFF))
    (Layout.required (Shape.primitive PrimitiveShape.null) Layout.empty))

abbrev struct_shape : Shape
struct_shape =
    Shape.fields ListKind.sequence (Layout.required (Shape.primitive (PrimitiveShape.unsigned 255))
    (Layout.required (Shape.primitive (PrimitiveShape.bytes 0x04)) (Layout.required pair_shape Layout.empty)))

struct_is_of : IsOf struct_shape struct
struct_is_of =
    ((
      refl,
      (
        (omega arith, omega arith),
        ((refl, (omega arith, (omega arith, tt))), ((refl, ((omega arith, omega arith), (tt, tt))), tt)),
      ),
    ))

struct_is_readable : IsReadable struct
struct_is_readable = (tt, (tt, ((omega arith, (omega arith, (omega arith, tt))), ((tt, (tt, (tt, tt))), tt))))

-- ---- a struct of an identifier, a flag that may be missing, and bytes

abbrev flagged_shape : Shape
flagged_shape =
    Shape.fields ListKind.sequence
    (Layout.required (Shape.primitive (PrimitiveShape.bytes 0x06))
    (Layout.maybe (Shape.primitive PrimitiveShape.boolean)
    (Layout.required (Shape.primitive (PrimitiveShape.bytes 0x04)) Layout.empty)))

flagged_is_sound : IsSound flagged_shape
flagged_is_sound = ((tt, (tt, (tt, tt))), (refl, tt))

flagged_is_of : IsOf flagged_shape
    (Tree.list ListKind.sequence
    (trees (Tree.primitive (Primitive.bytes 0x06 []) ∷ Tree.primitive (Primitive.boolean false)
    ∷ Tree.primitive (Primitive.bytes 0x04 []) ∷ [])))
flagged_is_of = (refl, ((refl, tt), inl (tt, ((refl, tt), tt))))

unflagged_is_of : IsOf flagged_shape
    (Tree.list ListKind.sequence
    (trees (Tree.primitive (Primitive.bytes 0x06 []) ∷ Tree.primitive (Primitive.bytes 0x04 []) ∷ [])))
unflagged_is_of = (refl, ((refl, tt), inr ((refl, tt), tt)))

-- ---- members that may be missing and aren't distinguished: from the next one, and from the one after another that may be missing

indistinct_member : IsSound
    (Shape.fields ListKind.sequence
    (Layout.maybe (Shape.primitive (PrimitiveShape.unsigned 255))
    (Layout.required (Shape.primitive (PrimitiveShape.unsigned 65535)) Layout.empty))) → ⊥
indistinct_member sound = let indistinct = sound.1.0 in cc

indistinct_after : IsSound
    (Shape.fields ListKind.sequence
    (Layout.maybe (Shape.primitive PrimitiveShape.null)
    (Layout.maybe (Shape.primitive PrimitiveShape.boolean)
    (Layout.required (Shape.primitive PrimitiveShape.null) Layout.empty)))) → ⊥
indistinct_after sound = let indistinct = sound.1.0 in cc

-- after a member that is always there it may come again
distinct_after_required : IsSound
    (Shape.fields ListKind.sequence
    (Layout.maybe (Shape.primitive PrimitiveShape.null)
    (Layout.required (Shape.primitive PrimitiveShape.boolean)
    (Layout.maybe (Shape.primitive PrimitiveShape.null) Layout.empty))))
distinct_after_required = ((tt, (tt, (tt, tt))), (refl, (refl, tt)))

-- ---- further elements, of which the first isn't a null: so a null that may be missing before them is distinguished

abbrev extensible_shape : Shape
extensible_shape =
    Shape.fields ListKind.sequence (Layout.maybe (Shape.primitive PrimitiveShape.null) (Layout.others (0x05 ∷ [])))

extensible_is_sound : IsSound extensible_shape
unfolding tags_below
extensible_is_sound = ((tt, tt), (refl, tt))

extended_is_of : IsOf extensible_shape
    (Tree.list ListKind.sequence
    (trees (Tree.primitive Primitive.null ∷ Tree.raw (0x04 ∷ 0x00 ∷ []) ∷ Tree.raw (0x05 ∷ 0x00 ∷ []) ∷ [])))
extended_is_of = (refl, inl (tt, (((omega arith, (omega arith, tt)), refl), ((omega arith, (omega arith, tt)), tt))))

-- nor are there two nulls
twice_is_not : IsOf extensible_shape
    (Tree.list ListKind.sequence (trees (Tree.primitive Primitive.null ∷ Tree.raw (0x05 ∷ 0x00 ∷ []) ∷ []))) → ⊥
twice_is_not (e, inl p) = let excluded = p.1.0.1 in cc
twice_is_not (e, inr p) = absurd p.0

-- without that it isn't distinguished
indistinct_others : IsSound
    (Shape.fields ListKind.sequence (Layout.maybe (Shape.primitive PrimitiveShape.null) (Layout.others []))) → ⊥
unfolding tags_below
indistinct_others sound = let indistinct = sound.1.0 in cc

-- ---- alternatives that aren't distinguished: null, and an element

abbrev null_or_raw : Shape
null_or_raw = Shape.choice (shapes ((Shape.primitive PrimitiveShape.null) ∷ Shape.raw ∷ []))

as_null : IsOf null_or_raw (Tree.choice (Tree.primitive Primitive.null))
as_null = inl tt

as_raw : IsOf null_or_raw (Tree.choice (Tree.raw (0x05 ∷ 0x00 ∷ [])))
as_raw = inr (inl (omega arith, (omega arith, tt)))

raw_is_readable : IsReadable (Tree.choice (Tree.raw (0x05 ∷ 0x00 ∷ [])))
unfolding der_on_literals
raw_is_readable =
    (record { tag = 0x05; content = []; number = omega arith; is = refl }, (omega arith, (omega arith, tt)))

same_encoding : der (Tree.choice (Tree.primitive Primitive.null)) ≡ der (Tree.choice (Tree.raw (0x05 ∷ 0x00 ∷ [])))
unfolding der_on_literals
same_encoding = refl

-- ---- a choice directly under an implicit tag: its first byte isn't there

no_first_byte : der (Tree.wrapped (Implicit 1) (Tree.choice (Tree.primitive (Primitive.boolean false))))
    ≡ der (Tree.wrapped (Implicit 1) (Tree.choice (Tree.primitive (Primitive.unsigned 0))))
unfolding der_on_literals
no_first_byte = refl

-- ---- a plain value that needn't fill its implicit tag

begins_another : implicit_content (Tree.primitive (Primitive.unsigned 7)) ++ (0x07 ∷ [])
    ≡ implicit_content (Tree.primitive (Primitive.unsigned 0x0707))
unfolding der_on_literals
begins_another = refl

-- ---- a raw part that is no element

no_element : der (Tree.list ListKind.sequence (trees (Tree.raw [] ∷ []))) ≡ der (Tree.list ListKind.sequence (trees []))
unfolding der_on_literals
no_element = refl

-- ---- a set in two orders, of which one is readable

abbrev ascending_set : Tree
ascending_set =
    Tree.list ListKind.set
    (trees (Tree.primitive (Primitive.unsigned 3) ∷ Tree.primitive (Primitive.unsigned 5)
    ∷ Tree.primitive (Primitive.unsigned 5) ∷ []))

abbrev other_set : Tree
other_set =
    Tree.list ListKind.set
    (trees (Tree.primitive (Primitive.unsigned 5) ∷ Tree.primitive (Primitive.unsigned 3)
    ∷ Tree.primitive (Primitive.unsigned 5) ∷ []))

-- the encodings of 3 and 5
abbrev three : List ℕ
three = 0x02 ∷ 0x01 ∷ 0x03 ∷ []

abbrev five : List ℕ
five = 0x02 ∷ 0x01 ∷ 0x05 ∷ []

one_encoding : der ascending_set ≡ der other_set
unfolding der_on_literals
one_encoding = refl

ascending_is_readable : IsReadable ascending_set
unfolding der_on_literals
ascending_is_readable = (
  IsSortedBy-cons is_less three five (five ∷ []) refl
      (IsSortedBy-cons is_less five five [] refl (IsSortedBy-one is_less five)),
  (tt, (tt, (tt, tt))),
)

other_is_not : IsReadable other_set → ⊥
unfolding der_on_literals
other_is_not readable = IsSortedBy-broken is_less [] five three (five ∷ []) refl readable.0
