-- What holds of each primitive kind: a line for each in each law.
use Rattle.std.proofs.Common.{◌≡◌, ℕ, ◌≤◌, Bool, true, false, cond, List, [], ◌∷◌, nat_lt, refl, sym, ap, ◌∙◌, arith}
use Rattle.std.specs.Int.Digits.{number_from_digits}
use Rattle.picky_der_core.specs.Tag.{number_of, IsTagNumber}
use Rattle.picky_der_core.specs.Element.{big_endian}
use Rattle.picky_der_core.specs.BigEndianLaws.{number-big_endian}
use Rattle.picky_der_core.specs.Primitive.{Primitive, PrimitiveShape, primitive_tag, primitive_content, IsPrimitive}
use Rattle.picky_der_core.specs.Primitive.{IsReadablePrimitive, shape_tag, boolean_content, as_positive}
use Rattle.picky_der_core.specs.Primitive.{unsigned_content}

-- ---- contents

padded : (p : Bool) (b : ℕ) (bs : List ℕ) → number_from_digits 256 (cond p (b ∷ bs) (0 ∷ b ∷ bs)) ≡ number_from_digits
    256 (b ∷ bs)
padded true b bs = refl
padded false b bs = refl

number-as_positive : (bs : List ℕ) → number_from_digits 256 (as_positive bs) ≡ number_from_digits 256 bs
number-as_positive [] = refl
number-as_positive (b ∷ bs) = padded (nat_lt b 0x80) b bs

-- the content of a number gives the number back
pub number-unsigned_content : (n : ℕ) → number_from_digits 256 (unsigned_content n) ≡ n
unfolding unsigned_content
number-unsigned_content n = number-as_positive (big_endian n) ∙ number-big_endian n

pub unsigned_content-same : (m n : ℕ) → unsigned_content m ≡ unsigned_content n → m ≡ n
unsigned_content-same m n e = sym (number-unsigned_content m) ∙ ap (number_from_digits 256) e
    ∙ number-unsigned_content n

boolean_content-same : (b c : Bool) → boolean_content b ≡ boolean_content c → b ≡ c
boolean_content-same true true e = refl
boolean_content-same false false e = refl
boolean_content-same true false e = cc
boolean_content-same false true e = cc

-- ---- each kind

pub primitive_tag_number : (p : Primitive) → IsReadablePrimitive p → IsTagNumber (number_of (primitive_tag p))
primitive_tag_number (Primitive.bytes tag s) r = r.0
primitive_tag_number _ r = omega arith

-- it has the tag of its shape
pub primitive_tag-shape : (k : PrimitiveShape) (p : Primitive) → IsPrimitive k p → primitive_tag p ≡ shape_tag k
primitive_tag-shape PrimitiveShape.boolean (Primitive.boolean b) h = refl
primitive_tag-shape (PrimitiveShape.unsigned most) (Primitive.unsigned n) h = refl
primitive_tag-shape PrimitiveShape.null Primitive.null h = refl
primitive_tag-shape PrimitiveShape.character (Primitive.text s) h = refl
primitive_tag-shape PrimitiveShape.text (Primitive.text s) h = refl
primitive_tag-shape (PrimitiveShape.bytes tag) (Primitive.bytes x s) h = h.0
primitive_tag-shape _ _ h = absurd h

-- values of one shape with the same content are the same
pub primitive_content-same : (k : PrimitiveShape) (p q : Primitive) → IsPrimitive k p → IsPrimitive k q
    → primitive_content p ≡ primitive_content q → p ≡ q
primitive_content-same PrimitiveShape.boolean (Primitive.boolean b) (Primitive.boolean c) h j e =
    ap Primitive.boolean (boolean_content-same b c e)
primitive_content-same PrimitiveShape.boolean (Primitive.boolean b) _ h j e = absurd j
primitive_content-same (PrimitiveShape.unsigned most) (Primitive.unsigned m) (Primitive.unsigned n) h j e =
    ap Primitive.unsigned (unsigned_content-same m n e)
primitive_content-same (PrimitiveShape.unsigned most) (Primitive.unsigned m) _ h j e = absurd j
primitive_content-same PrimitiveShape.null Primitive.null Primitive.null h j e = refl
primitive_content-same PrimitiveShape.null Primitive.null _ h j e = absurd j
primitive_content-same PrimitiveShape.character (Primitive.text b) (Primitive.text c) h j e = ap Primitive.text e
primitive_content-same PrimitiveShape.character (Primitive.text b) _ h j e = absurd j
primitive_content-same PrimitiveShape.text (Primitive.text b) (Primitive.text c) h j e = ap Primitive.text e
primitive_content-same PrimitiveShape.text (Primitive.text b) _ h j e = absurd j
primitive_content-same (PrimitiveShape.bytes tag) (Primitive.bytes x b) (Primitive.bytes y c) h j e = let f : x ≡ y =
    h.0 ∙ sym j.0 in cc
primitive_content-same (PrimitiveShape.bytes tag) (Primitive.bytes x b) _ h j e = absurd j
primitive_content-same _ _ _ h j e = absurd h
