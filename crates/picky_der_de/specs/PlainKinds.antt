-- The kinds of plain values, as reading asks of them.
use Rattle.std.specs.Prelude.{◌≡◌, ℕ, ◌<◌, List, length, take, None}
use Rattle.picky_der_core.specs.Tag.{number_of, IsTagNumber}
use Rattle.picky_der_core.specs.Primitive.{Primitive, PrimitiveShape, primitive_content, IsPrimitive}
use Rattle.picky_der_core.specs.Primitive.{IsReadablePrimitive, shape_tag}
use Rattle.picky_der_core.specs.Refusal.{Judge}

-- a kind of plain values: with a tag that can be read, and contents that distinguish them
pub record IsPlainKind {V : Type 0} (meaning : V → Primitive) (k : PrimitiveShape) (judge : Judge) : Type 0 where
  pub number : IsTagNumber (number_of (shape_tag k))
  pub judged : (v : V) → IsPrimitive k (meaning v) → judge (primitive_content (meaning v)) ≡ None

-- one of the kind, whose content is shorter than what is kept of one
pub record IsShort (k : PrimitiveShape) (p : Primitive) : Type 0 where
  pub of_shape : IsPrimitive k p
  pub readable : IsReadablePrimitive p
  pub short : length (primitive_content p) < 18

-- a kind of plain values that are read from the first 18 bytes of their contents
pub record IsShortKind {V : Type 0} (meaning : V → Primitive) (k : PrimitiveShape) (judge : Judge) : Type 0 where
  pub plain : IsPlainKind meaning k judge
  pub by_front : (c : List ℕ) → judge (take 18 c) ≡ judge c
  pub short : (v : V) → judge (primitive_content (meaning v)) ≡ None → IsShort k (meaning v)
