-- Why bytes aren't kept as an element.
use Rattle.std.specs.Prelude.{◌≡◌, ℕ, List}
use Rattle.picky_der_core.specs.declared.error.Asn1DerError.{Asn1DerError}
use Rattle.picky_der_core.specs.declared.error.Asn1DerError.TheVariants.{InvalidData, OutOfMemory}
use Rattle.picky_der_core.specs.Encoding.{der}
use Rattle.picky_der_core.specs.Readable.{IsWritable}
use Rattle.picky_der_core.specs.Tree.{Tree}
use Rattle.picky_der_ser.specs.Calls.{MemoryExcuse}
use Rattle.der_types.specs.WellFormed.{IsWellFormed}

-- an allocation failed, or they aren't a well-formed element
pub data RefusesElement (bytes : List ℕ) (e : Asn1DerError) : Type 0 where
  no_memory : e ≡ OutOfMemory → RefusesElement bytes e
  not_formed : e ≡ InvalidData → (IsWellFormed bytes → ⊥) → RefusesElement bytes e

-- the value can't be written or an allocation fails, or it can be written and its encoding is refused
pub data RefusesValue (t : Tree) (e : Asn1DerError) : Type 0 where
  not_written : MemoryExcuse (IsWritable t) e → RefusesValue t e
  refused : IsWritable t → RefusesElement (der t) e → RefusesValue t e
