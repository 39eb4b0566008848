-- Whole inputs: bytes that are the encoding of one value and nothing else.
use Rattle.std.specs.Prelude.{◌≡◌, ◌≢◌, ℕ, ◌+◌, ◌≤◌, List, ◌∷◌, ◌++◌, length, take, Bool, true}
use Rattle.picky_der_core.specs.declared.error.Asn1DerError.{Asn1DerError}
use Rattle.picky_der_core.specs.declared.error.Asn1DerError.TheVariants.{TruncatedData, InvalidData, OutOfMemory}
use Rattle.picky_der_core.specs.Tree.{Tree}
use Rattle.picky_der_core.specs.Encoding.{der}
use Rattle.picky_der_core.specs.Readable.{IsReadable}
use Rattle.picky_der_core.specs.Shape.{Shape, IsOf, IsFirst}
use Rattle.picky_der_core.specs.Reading.{ReadsFrom}
use Rattle.picky_der_de.specs.Steps.{IsOther}
use Rattle.picky_der_de.specs.Entry.{any_length}

-- the bytes are the encoding of a value v of a type, known by what it means
pub record IsEncodingOf {V : Type 0} (meaning : V → Tree) (s : Shape) (bytes : List ℕ) (v : V) : Type 0 where
  pub of_shape : IsOf s (meaning v)
  pub readable : IsReadable (meaning v)
  pub encoding : bytes ≡ der (meaning v)

-- the value whose encoding the bytes are, and the only one: any other means the same tree, and is equal by `==`
pub record IsWhole {V : Type 0} (meaning : V → Tree) (s : Shape) (eq : V → V → Bool) (bytes : List ℕ) (v : V) : Type 0
  where
    pub is : IsEncodingOf meaning s bytes v
    pub only : (w : V) → IsEncodingOf meaning s bytes w → eq v w ≡ true
    pub same : (w : V) → IsEncodingOf meaning s bytes w → meaning v ≡ meaning w

-- an allocation failed, or the bytes are no value's encoding, as was found after so many of them
pub record IsNoEncoding {V : Type 0} (meaning : V → Tree) (s : Shape) (bytes : List ℕ) (e : Asn1DerError)
    (position : ℕ) : Type 0 where
  pub none : e ≢ OutOfMemory → (v : V) → IsEncodingOf meaning s bytes v → ⊥
  -- the bytes before the position, and the byte there, begin no value's encoding, unless the bytes are cut short
  pub final : e ≢ OutOfMemory → e ≢ TruncatedData → (more : List ℕ) (v : V)
      → IsEncodingOf meaning s (take (position + 1) bytes ++ more) v → length (der (meaning v)) ≤ any_length → ⊥
  -- where a value is at their front, others follow it, and are found there
  pub left_over : e ≢ OutOfMemory → (v : V) → ReadsFrom meaning s bytes (length bytes) v
      → (e ≡ InvalidData) × (position ≡ length (der (meaning v)))
  -- they aren't called cut short at a byte with which no value begins
  pub first : e ≡ TruncatedData → (b : ℕ) (left : List ℕ) → bytes ≡ b ∷ left → IsFirst s b
  pub within : position ≤ length bytes
  pub no_fault : IsOther e → ⊥
