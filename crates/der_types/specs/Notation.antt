-- Types of ASN.1 (X.680), as the types of these crates have them, and the shapes that they denote. `ContentForms` and
-- `NotationForms` have the forms of modules.
use Rattle.std.specs.Prelude.{ℕ, ◌-◌, ◌^◌, ℤ, List}
use Rattle.picky_der_core.specs.declared.asn1.wrapper.Wrapper.{Wrapper}
use Rattle.picky_der_core.specs.Primitive.{PrimitiveShape}
use Rattle.picky_der_core.specs.Tree.{ListKind, Tree}
use Rattle.picky_der_core.specs.Shape.{Shape, Shapes, Layout}
use Rattle.picky_asn1_der.specs.LaterTags.{numbered_below}
use Rattle.der_types.specs.ContentTypes.{ContentType, tag_of}
use Rattle.der_types.specs.PrimitiveForm.{primitive_form}

mutual
  pub data Notation : Type 0 where
    -- 18
    BOOLEAN : Notation
    -- a content under a tag of its own that passes a test (19, 20, 22, 32, 33, 46, 47)
    checked-content : ContentType → Notation
    -- 19.1: one of these numbers, each of which has a name
    INTEGER-named : List ℕ → Notation
    -- from 0, in so many bits
    unsigned : ℕ → Notation
    -- of either sign, in so many bits with that of the sign
    signed : ℕ → Notation
    -- 20: with these numbers
    ENUMERATED : List ℕ → Notation
    -- 23
    OCTET-STRING : Notation
    -- 24
    NULL : Notation
    -- 41: a restricted string by its tag
    UTF8String : Notation
    -- 41, 51.5: a UTF8String of one character
    character : Notation
    restricted-string : ℕ → Notation
    -- any content under this tag; and any element, as of an open type (X.681, 14.2)
    any-content : ℕ → Notation
    any-element : Notation
    -- one in which there are elements at every depth, if it is constructed
    well-formed-element : Notation
    -- 25, 29
    sequence : Members → Notation
    choice : Alternatives → Notation
    -- 26, 28
    list-of : ListKind → Notation → Notation
    -- 31: one in a tag or a string, or with a tag in place of its own
    wrapped : Wrapper → Notation → Notation
    -- 31: a content under this tag in place of its own
    content-under : ℕ → Notation → Notation
    -- 51.4: a number of a range, one from the least on, one up to the most, and one that isn't of a range
    in-range : ℤ → ℤ → Notation → Notation
    at-least : ℤ → Notation → Notation
    at-most : ℤ → Notation → Notation
    outside : ℤ → ℤ → Notation → Notation
    -- 51.5, 51.7: a size of a range, and characters of some ranges
    sized : ℕ → ℕ → Notation → Notation
    permitted : List (ℕ × ℕ) → Notation → Notation
    -- 51.2: a content that is one of these, and one that is none of these
    listed : List (List ℕ) → Notation → Notation
    unlisted : List (List ℕ) → Notation → Notation
    -- an element that begins with none of these bytes, as that of an alternative of a later version (29.1)
    begun-otherwise : List ℕ → Notation
    -- an element that is the encoding of a value of this type, as in an open type whose type is known (X.681, 14.2)
    encoded : Notation → Notation
    -- an element that is one of several types of elements, which all of it decides (X.682, 10.3)
    element-of : Alternatives → Notation

  -- 25.1: a member that is always there, one that may be absent, and one that is absent where it means this tree
  pub data Member : Type 0 where
    required : Notation → Member
    optional : Notation → Member
    defaulted : Tree → Notation → Member

  pub data Members : Type 0 where
    end : Members
    member : Member → Members → Members
    -- the members that an extension added and those after them, or none in a value of an earlier version
    added : Members → Members
    -- the members of later versions, of which the first begins with none of these bytes
    others : List ℕ → Members
    -- the same, of which each has an automatic tag whose number isn't below this one
    others-from : ℕ → Members
    -- members of later versions in which there are elements at every depth, if they are constructed
    well-formed : Members → Members

  pub data Alternatives : Type 0 where
    none : Alternatives
    alternative : Notation → Alternatives → Alternatives

-- which trees its values are, but for what its content says and for ranges
abbrev mutual
  pub shape_of : Notation → Shape
  shape_of Notation.BOOLEAN = Shape.primitive PrimitiveShape.boolean
  shape_of (Notation.unsigned bits) = Shape.primitive (PrimitiveShape.unsigned (2 ^ bits - 1))
  shape_of (Notation.checked-content c) = Shape.primitive (PrimitiveShape.bytes (tag_of c))
  shape_of (Notation.INTEGER-named numbers) = Shape.primitive (PrimitiveShape.bytes 0x02)
  shape_of (Notation.signed bits) = Shape.primitive (PrimitiveShape.bytes 0x02)
  shape_of (Notation.ENUMERATED numbers) = Shape.primitive (PrimitiveShape.bytes 0x0A)
  shape_of Notation.OCTET-STRING = Shape.primitive (PrimitiveShape.bytes 0x04)
  shape_of Notation.NULL = Shape.primitive PrimitiveShape.null
  shape_of Notation.UTF8String = Shape.primitive PrimitiveShape.text
  shape_of Notation.character = Shape.primitive PrimitiveShape.character
  shape_of (Notation.restricted-string tag) = Shape.primitive (PrimitiveShape.bytes tag)
  shape_of (Notation.any-content tag) = Shape.primitive (PrimitiveShape.bytes tag)
  shape_of Notation.any-element = Shape.raw
  shape_of Notation.well-formed-element = Shape.raw
  shape_of (Notation.sequence ms) = Shape.fields ListKind.sequence (layout_of ms)
  shape_of (Notation.choice ts) = Shape.choice (shapes_of ts)
  shape_of (Notation.list-of kind t) = Shape.list_of kind (shape_of t)
  shape_of (Notation.wrapped w t) = Shape.wrapped w (shape_of t)
  shape_of (Notation.content-under tag t) = Shape.primitive (PrimitiveShape.bytes (primitive_form tag))
  shape_of (Notation.in-range least most t) = shape_of t
  shape_of (Notation.at-least least t) = shape_of t
  shape_of (Notation.at-most most t) = shape_of t
  shape_of (Notation.outside least most t) = shape_of t
  shape_of (Notation.sized least most t) = shape_of t
  shape_of (Notation.permitted ranges t) = shape_of t
  shape_of (Notation.listed contents t) = shape_of t
  shape_of (Notation.unlisted contents t) = shape_of t
  shape_of (Notation.begun-otherwise bytes) = Shape.raw
  shape_of (Notation.encoded t) = Shape.raw
  shape_of (Notation.element-of ts) = Shape.raw

  -- a member before others
  pub member_then : Member → Layout → Layout
  member_then (Member.required t) = Layout.required (shape_of t)
  member_then (Member.optional t) = Layout.maybe (shape_of t)
  member_then (Member.defaulted value t) = Layout.maybe (shape_of t)

  pub layout_of : Members → Layout
  layout_of Members.end = Layout.empty
  layout_of (Members.member m ms) = member_then m (layout_of ms)
  layout_of (Members.added ms) = Layout.added (layout_of ms)
  layout_of (Members.others excluded) = Layout.others excluded
  layout_of (Members.others-from least) = Layout.others (numbered_below least)
  layout_of (Members.well-formed ms) = layout_of ms

  pub shapes_of : Alternatives → Shapes
  shapes_of Alternatives.none = Shapes.none
  shapes_of (Alternatives.alternative t ts) = Shapes.more (shape_of t) (shapes_of ts)
