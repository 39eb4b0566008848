-- Values that lines name, and the answers to their bytes.
use Rattle.std.specs.Prelude.{◌≡◌, ℕ, ◌-◌, ◌^◌, Bool, true, false, List, ◌++◌, length, codes, decimal, encode_utf8}
use Rattle.std.specs.Prelude.{Some}
use Rattle.hex.specs.Hex.{encode_lower}
use Rattle.picky_der_core.specs.Primitive.{Primitive, PrimitiveShape, shape_tag}
use Rattle.picky_der_core.specs.declared.error.Asn1DerError.{Asn1DerError}
use Rattle.picky_der_core.specs.declared.error.Asn1DerError.TheVariants.{TruncatedData, OutOfMemory}
use Rattle.picky_der_core.specs.Element.{IsPrefix}
use Rattle.picky_der_core.specs.Tree.{Tree}
use Rattle.picky_der_core.specs.Encoding.{der}
use Rattle.picky_der_core.specs.Readable.{IsReadable, IsWritable}
use Rattle.picky_der_core.specs.Shape.{Shape, IsOf}
use Rattle.picky_der_core.specs.Reading.{ReadsFrom}
use Rattle.picky_der_core.specs.Refusal.{Judge, content_error, plain_refusal, element_refusal, error_of}
use Rattle.picky_der_de.specs.Steps.{IsOfContent}
use Rattle.der_tool_lib.specs.declared.test_struct.TestStruct.{TestStruct}
use Rattle.der_tool_lib.specs.declared.subject_public_key_info.SubjectPublicKeyInfo.{SubjectPublicKeyInfo}
use Rattle.der_tool_lib.specs.declared.value.ValueType.{ValueType}
use Rattle.der_tool_lib.specs.declared.value.ValueType.TheVariants as named
use Rattle.der_tool_lib.specs.contracts.test_struct.TestStructSerialize.TheImpl as test_written
use Rattle.der_tool_lib.specs.contracts.test_struct.TestStructDeserialize.TheImpl as test_read
use Rattle.der_tool_lib.specs.contracts.subject_public_key_info.SubjectPublicKeyInfoSerialize.TheImpl as spki_written
use Rattle.der_tool_lib.specs.contracts.subject_public_key_info.SubjectPublicKeyInfoDeserialize.TheImpl as spki_read
use Rattle.der_tool_lib.specs.Words.{word_of}

-- ---- the types

-- how it is known with which error bytes are refused
pub data RefusalRule : Type 0 where
  -- exactly as a plain read with this tag, whose contents are judged in this way
  plain : ℕ → Judge → RefusalRule
  -- exactly as an element that is read whole
  element : RefusalRule
  -- with `TruncatedData` where more bytes could complete a value
  mendable : RefusalRule

-- what the values of a type mean, of which shape, and how its refusals are known
pub record Description : Type 1 where
  pub Value : Type 0
  pub meaning : Value → Tree
  pub shape : Shape
  pub rule : RefusalRule

-- that of a primitive kind
abbrev primitive_of : {V : Type 0} → (V → Primitive) → PrimitiveShape → Description
primitive_of {V} meaning k = record {
  Value = V;
  meaning = λ v. Tree.primitive (meaning v);
  shape = Shape.primitive k;
  rule = plain (shape_tag k) (content_error k);
}

abbrev unsigned_of : ℕ → Description
unsigned_of bits = primitive_of Primitive.unsigned (PrimitiveShape.unsigned (2 ^ bits - 1))

abbrev pub description_of : ValueType → Description
description_of named.Bool = primitive_of Primitive.boolean PrimitiveShape.boolean
description_of named.U8 = unsigned_of 8
description_of named.U16 = unsigned_of 16
description_of named.U32 = unsigned_of 32
description_of named.U64 = unsigned_of 64
description_of named.U128 = unsigned_of 128
description_of named.Null = primitive_of (λ (v : Unit {0}). Primitive.null) PrimitiveShape.null
description_of named.Char = primitive_of (λ c. Primitive.text (encode_utf8 c)) PrimitiveShape.character
description_of named.Text = primitive_of Primitive.text PrimitiveShape.text
description_of named.Octets = primitive_of (Primitive.bytes 0x04) (PrimitiveShape.bytes 0x04)
description_of named.Raw = record { Value = List ℕ; meaning = Tree.raw; shape = Shape.raw; rule = element }
description_of named.Test = record {
  Value = TestStruct;
  meaning = test_written.ghosts.meaning;
  shape =
      test_read.ghosts.shape;
  rule = mendable;
}
description_of named.Spki = record {
  Value = SubjectPublicKeyInfo;
  meaning = spki_written.ghosts.meaning;
  shape =
      spki_read.ghosts.shape;
  rule = mendable;
}

-- ---- the answers

module _ (d : Description) (bytes : List ℕ) where
  -- a value of the type is at the front of the bytes
  abbrev pub IsFirstValue : d.Value → Type 0
  IsFirstValue v = ReadsFrom d.meaning d.shape bytes (length bytes) v

  -- with more bytes after them the bytes would be the encoding of a value that is read and written
  pub record BeginsValue : Type 0 where
    pub value : d.Value
    pub of_shape : IsOf d.shape (d.meaning value)
    pub readable : IsReadable (d.meaning value)
    pub writable : IsWritable (d.meaning value)
    pub begins : IsPrefix bytes (der (d.meaning value))

  -- the error with which the bytes are refused
  abbrev pub IsErrorBy : RefusalRule → Asn1DerError → Type 0
  IsErrorBy (plain tag judge) e = error_of (plain_refusal tag judge false (length bytes) bytes) ≡ Some e
  IsErrorBy element e = error_of (element_refusal false (length bytes) bytes) ≡ Some e
  IsErrorBy mendable e = IsOfContent e × (BeginsValue → e ≡ TruncatedData)

abbrev pub is_memory : Asn1DerError → Bool
is_memory OutOfMemory = true
is_memory _ = false

-- the answer to bytes to be read as a value of the type
pub data AnswersRead (type : ValueType) (bytes answer : List ℕ) : Type 0 where
  read : (v : (description_of type).Value) → IsFirstValue (description_of type) bytes v
      → answer ≡ codes "ok " ++ (decimal (length (der ((description_of type).meaning v)))
      ++ (codes " " ++ encode_lower (der ((description_of type).meaning v)))) → AnswersRead type bytes answer
  refused : (e : Asn1DerError) → ((v : (description_of type).Value) → IsFirstValue (description_of type) bytes v → ⊥)
      → IsErrorBy (description_of type) bytes (description_of type).rule e → answer ≡ codes "refused " ++ word_of e
      → AnswersRead type bytes answer
