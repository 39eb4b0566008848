-- The primitive kinds: their tags and contents (X.690, 8.2, 8.3, 8.7, 8.8, 8.23), and which values a type has.
use Rattle.std.specs.Prelude.{◌≡◌, ℕ, ◌^◌, ◌<◌, ◌≤◌, Bool, true, false, List, [], ◌∷◌, length, nat_lt, IsUtf8, chars, ⊤}
use Rattle.std.specs.Prelude.{if◌then◌else◌}
use Rattle.picky_der_core.specs.Tag.{number_of, IsTagNumber}
use Rattle.picky_der_core.specs.Element.{AreBytes, big_endian}

pub data Primitive : Type 0 where
  boolean : Bool → Primitive
  -- a number that isn't negative; a shape bounds it
  unsigned : ℕ → Primitive
  null : Primitive
  -- the UTF-8 bytes of a text
  text : List ℕ → Primitive
  -- a tag, and a content under it that isn't looked at
  bytes : ℕ → List ℕ → Primitive

-- ---- the table of X.690: a tag and a content for each kind

abbrev pub primitive_tag : Primitive → ℕ
primitive_tag (Primitive.boolean b) = 0x01
primitive_tag (Primitive.unsigned n) = 0x02
primitive_tag Primitive.null = 0x05
primitive_tag (Primitive.text s) = 0x0C
primitive_tag (Primitive.bytes tag s) = tag

-- a bool (8.2, 11.1)
abbrev pub boolean_content : Bool → List ℕ
boolean_content false = 0x00 ∷ []
boolean_content true = 0xFF ∷ []

-- a byte 00 in front where the first byte would be 80 or more, and where there is none
abbrev pub as_positive : List ℕ → List ℕ
as_positive [] = 0x00 ∷ []
as_positive (b ∷ bs) = if nat_lt b 0x80 then b ∷ bs else 0x00 ∷ b ∷ bs

-- a number: the fewest bytes that aren't read as a negative one (8.3)
unfoldable pub unsigned_content : ℕ → List ℕ
unsigned_content n = as_positive (big_endian n)

abbrev pub primitive_content : Primitive → List ℕ
primitive_content (Primitive.boolean b) = boolean_content b
primitive_content (Primitive.unsigned n) = unsigned_content n
primitive_content Primitive.null = []
primitive_content (Primitive.text s) = s
primitive_content (Primitive.bytes tag s) = s

-- A tag number is at most 30. As in every value that a program has, each byte of a content is a byte and each text is
-- UTF-8.
abbrev pub IsReadablePrimitive : Primitive → Type 0
IsReadablePrimitive (Primitive.boolean b) = ⊤
IsReadablePrimitive (Primitive.unsigned n) = ⊤
IsReadablePrimitive Primitive.null = ⊤
IsReadablePrimitive (Primitive.text s) = IsUtf8 s
IsReadablePrimitive (Primitive.bytes tag s) = IsTagNumber (number_of tag) × AreBytes s

-- ---- the values of a type

pub data PrimitiveShape : Type 0 where
  boolean : PrimitiveShape
  -- with the greatest number
  unsigned : ℕ → PrimitiveShape
  null : PrimitiveShape
  character : PrimitiveShape
  text : PrimitiveShape
  -- with the tag
  bytes : ℕ → PrimitiveShape

abbrev pub IsPrimitive : PrimitiveShape → Primitive → Type 0
IsPrimitive PrimitiveShape.boolean (Primitive.boolean b) = ⊤
IsPrimitive (PrimitiveShape.unsigned most) (Primitive.unsigned n) = (n ≤ most) × (n < 2 ^ 128)
IsPrimitive PrimitiveShape.null Primitive.null = ⊤
IsPrimitive PrimitiveShape.character (Primitive.text s) = IsUtf8 s × (length (chars s) ≡ 1)
IsPrimitive PrimitiveShape.text (Primitive.text s) = IsUtf8 s
IsPrimitive (PrimitiveShape.bytes tag) (Primitive.bytes x s) = (x ≡ tag) × AreBytes s
IsPrimitive _ _ = ⊥

abbrev pub shape_tag : PrimitiveShape → ℕ
shape_tag PrimitiveShape.boolean = 0x01
shape_tag (PrimitiveShape.unsigned most) = 0x02
shape_tag PrimitiveShape.null = 0x05
shape_tag PrimitiveShape.character = 0x0C
shape_tag PrimitiveShape.text = 0x0C
shape_tag (PrimitiveShape.bytes tag) = tag
