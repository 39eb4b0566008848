-- What holds of each kind of plain value.
use Rattle.std.proofs.Common.{◌≡◌, ℕ, ℤ, ◌^◌, ◌<◌, ◌≤◌, Bool, cond, inl, inr, List, [], ◌∷◌, length, take, nat_lt, ◌==◌}
use Rattle.std.proofs.Common.{Option, Some, None, true, false, encode_utf8, refl, sym, ◌∙◌, ap, subst, arith, lt-ltb}
use Rattle.std.proofs.lemmas.Bool.{cases_lt}
use Rattle.std.proofs.lemmas.Grind.{common_steps}
use Rattle.picky_der_core.specs.declared.error.Asn1DerError.{Asn1DerError}
use Rattle.picky_der_core.specs.declared.error.Asn1DerError.TheVariants.{InvalidData, UnsupportedValue}
use Rattle.picky_der_core.specs.Tag.{number_of, IsTagNumber}
use Rattle.picky_der_core.specs.Element.{AreBytes}
use Rattle.picky_der_core.specs.Primitive.{Primitive, PrimitiveShape, primitive_content, boolean_content}
use Rattle.picky_der_core.specs.Primitive.{unsigned_content, IsPrimitive, shape_tag}
use Rattle.picky_der_core.specs.PrimitiveLaws.{number-unsigned_content}
use Rattle.picky_der_core.specs.Refusal.{Judge, boolean_error, number_error, unsigned_error, int_error, null_error}
use Rattle.picky_der_core.specs.Refusal.{text_error, character_error, bytes_error, content_error}
use Rattle.picky_der_core.specs.BooleanLaws.{boolean_error-content}
use Rattle.picky_der_core.specs.UnsignedLaws.{unsigned_error-content, content-unsigned_error, AreBytes-unsigned_content}
use Rattle.picky_der_core.specs.UnsignedLaws.{length-unsigned_content}
use Rattle.picky_der_core.specs.Integer.{is_integer, bits_of, content_within}
use Rattle.picky_der_core.specs.IntegerLaws.{AreBytes-content}
use Rattle.picky_der_core.specs.IntLaws.{within-fits, fits-within, length-integer_content, int_error-content}
use Rattle.picky_der_core.specs.IntLaws.{content-int_error}
use Rattle.picky_der_de.specs.PlainKinds.{IsPlainKind, IsShort, IsShortKind}
use Rattle.picky_der_de.specs.TextLaws.{text_good, character_good, character_by_front, length_character, one_character}

-- a content of a primitive kind isn't refused
content_judged : (k : PrimitiveShape) (p : Primitive) → IsPrimitive k p → content_error k (primitive_content p) ≡ None
content_judged PrimitiveShape.boolean (Primitive.boolean b) o = boolean_error-content b
content_judged (PrimitiveShape.unsigned most) (Primitive.unsigned n) o = unsigned_error-content most n o.0 o.1
content_judged PrimitiveShape.null Primitive.null o = refl
content_judged PrimitiveShape.character (Primitive.text s) o = character_good s o.0 o.1
content_judged PrimitiveShape.text (Primitive.text s) o = text_good s o
content_judged (PrimitiveShape.bytes tag) (Primitive.bytes x s) o = refl
content_judged _ _ o = absurd o

-- a primitive kind is one of plain values
pub primitive_kind : {V : Type 0} (meaning : V → Primitive) (k : PrimitiveShape) → IsTagNumber (number_of (shape_tag k))
    → IsPlainKind meaning k (content_error k)
primitive_kind meaning k n = record { number = n; judged = λ v o. content_judged k (meaning v) o }

pub text_kind : IsPlainKind Primitive.text PrimitiveShape.text text_error
text_kind = primitive_kind Primitive.text PrimitiveShape.text (omega arith)

pub bytes_kind : (tag : ℕ) → IsTagNumber (number_of tag)
    → IsPlainKind (Primitive.bytes tag) (PrimitiveShape.bytes tag) bytes_error
bytes_kind tag n = primitive_kind (Primitive.bytes tag) (PrimitiveShape.bytes tag) n

-- ---- the first bytes decide

boolean_by_front : (c : List ℕ) → boolean_error (take 18 c) ≡ boolean_error c
boolean_by_front [] = refl
boolean_by_front (b ∷ []) = refl
boolean_by_front (b ∷ d ∷ bs) = refl

null_by_front : (c : List ℕ) → null_error (take 18 c) ≡ null_error c
null_by_front [] = refl
null_by_front (b ∷ bs) = refl

number_too_long : (most : ℕ) (bs : List ℕ) → 16 < length bs → number_error most bs ≡ Some UnsupportedValue
number_too_long most bs h = rw (lt-ltb 16 (length bs) h) refl

-- a content of 18 bytes or more is refused by its first two
unsigned_too_long : (most b d : ℕ) (bs : List ℕ) → 16 ≤ length bs
    → unsigned_error most (b ∷ d ∷ bs) ≡ cond (nat_lt b 0x80)
    (cond (b == 0) (cond (nat_lt d 0x80) (Some InvalidData) (Some UnsupportedValue)) (Some UnsupportedValue))
    (Some UnsupportedValue)
unsigned_too_long most b d bs h =
    rw (number_too_long most (d ∷ bs) (omega arith), number_too_long most (b ∷ d ∷ bs) (omega arith)) refl

int_too_long : (fits : ℤ → Bool) (b d : ℕ) (bs : List ℕ) → 16 ≤ length bs
    → int_error fits (b ∷ d ∷ bs) ≡ cond (is_integer (b ∷ d ∷ [])) (Some UnsupportedValue) (Some InvalidData)
int_too_long fits b d bs h = rw (lt-ltb 17 (length (b ∷ d ∷ bs)) (omega arith)) refl

-- such a judge needs no more than 16 bytes after these
few_after : (judge : Judge) (e : Option Asn1DerError) (b d : ℕ) (bs : List ℕ)
    → ((xs : List ℕ) → 16 ≤ length xs → judge (b ∷ d ∷ xs) ≡ e) → judge (b ∷ d ∷ take 16 bs) ≡ judge (b ∷ d ∷ bs)
few_after judge e b d bs h = elim (cases_lt (length bs) 16) [
  | inl few ↦ let all : take 16 bs ≡ bs = grind (arith, common_steps) in ap (λ x. judge (b ∷ d ∷ x)) all
  | inr many ↦ let long : length (take 16 bs) ≡ 16 = grind (arith, common_steps) in h (take 16 bs) (omega arith)
      ∙ sym (h bs many)
]

unsigned_by_front : (most : ℕ) (c : List ℕ) → unsigned_error most (take 18 c) ≡ unsigned_error most c
unsigned_by_front most [] = refl
unsigned_by_front most (b ∷ []) = refl
unsigned_by_front most (b ∷ d ∷ bs) = few_after (unsigned_error most) _ b d bs (unsigned_too_long most b d)

int_by_front : (fits : ℤ → Bool) (c : List ℕ) → int_error fits (take 18 c) ≡ int_error fits c
int_by_front fits [] = refl
int_by_front fits (b ∷ []) = refl
int_by_front fits (b ∷ d ∷ bs) = few_after (int_error fits) _ b d bs (int_too_long fits b d)

-- ---- kinds that are read from their first bytes

pub short_boolean : IsShortKind Primitive.boolean PrimitiveShape.boolean boolean_error
short_boolean = record {
  plain = primitive_kind _ PrimitiveShape.boolean (omega arith);
  by_front = boolean_by_front;
  short = λ b e. record { of_shape = tt; readable = tt; short = size b };
}
  where
    size : (b : Bool) → length (boolean_content b) < 18
    size false = omega arith
    size true = omega arith

-- a content that is read is that of a number of the type
unsigned_short : (most n : ℕ) → unsigned_error most (unsigned_content n) ≡ None
    → IsShort (PrimitiveShape.unsigned most) (Primitive.unsigned n)
unsigned_short most n e =
    let h = content-unsigned_error most (unsigned_content n) (AreBytes-unsigned_content n) e in
    let few : n < 2 ^ 128 = omega (arith, h.2, number-unsigned_content n) in
    record {
      of_shape = (omega (arith, h.1, number-unsigned_content n), few);
      readable = tt;
      short =
          omega (arith, length-unsigned_content n few);
    }

pub short_unsigned : (most : ℕ) → IsShortKind Primitive.unsigned (PrimitiveShape.unsigned most) (unsigned_error most)
short_unsigned most = record {
  plain = primitive_kind _ (PrimitiveShape.unsigned most) (omega arith);
  by_front =
      unsigned_by_front most;
  short = unsigned_short most;
}

pub short_null : IsShortKind (λ (_ : Unit {0}). Primitive.null) PrimitiveShape.null null_error
short_null = record {
  plain = primitive_kind _ PrimitiveShape.null (omega arith);
  by_front = null_by_front;
  short =
      λ _ e. record { of_shape = tt; readable = tt; short = omega arith };
}

pub short_character : IsShortKind (λ c. Primitive.text (encode_utf8 c)) PrimitiveShape.character character_error
short_character = record {
  plain = primitive_kind _ PrimitiveShape.character (omega arith);
  by_front = character_by_front;
  short = λ c e. let one = one_character (encode_utf8 c) e in
      record { of_shape = one; readable = one.0; short = length_character c };
}

-- ---- integers of any type

module _ (fits : ℤ → Bool) (narrow : (z : ℤ) → fits z ≡ true → bits_of z < 2 ^ 128) where
  int_judged : (z : ℤ) → fits z ≡ true → int_error fits (content_within fits z) ≡ None
  int_judged z f = ap (int_error fits) (within-fits fits z f) ∙ int_error-content fits z f (narrow z f)

  int_short : (z : ℤ) → int_error fits (content_within fits z) ≡ None
      → IsShort (PrimitiveShape.bytes 0x02) (Primitive.bytes 0x02 (content_within fits z))
  int_short z e =
      let f = content-int_error fits z e in
      let is = within-fits fits z f in
      let bytes = subst AreBytes (sym is) (AreBytes-content z) in
      record {
        of_shape = (refl, bytes);
        readable = (omega arith, bytes);
        short =
            omega (arith, ap length is, length-integer_content z (narrow z f));
      }

  pub short_int : IsShortKind (λ z. Primitive.bytes 0x02 (content_within fits z)) (PrimitiveShape.bytes 0x02)
      (int_error fits)
  short_int = record {
    plain = record { number = omega arith; judged = λ z o. int_judged z (fits-within fits z o.1) };
    by_front = int_by_front fits;
    short = int_short;
  }
