-- What the entry calls leave.
use Rattle.std.specs.Prelude.{◌≡◌, ℕ, ◌<◌, List, [], ◌++◌, length, take, drop}
use Rattle.picky_der_core.specs.declared.error.Asn1DerError.{Asn1DerError}
use Rattle.picky_der_core.specs.declared.error.Asn1DerError.TheVariants.{UnsupportedValue, InvalidSink, OutOfMemory}
use Rattle.picky_der_core.specs.Element.{IsPrefix}
use Rattle.picky_der_core.specs.Tree.{Tree}
use Rattle.picky_der_core.specs.Encoding.{der}
use Rattle.picky_der_core.specs.Readable.{IsWritable}
use Rattle.picky_der_core.specs.SliceSink.{HoldsBeginning}
use Rattle.picky_der_ser.specs.Calls.{MemoryExcuse}

-- n bytes are the tree's encoding, and after it is what was there before
pub record Overwrites (t : Tree) (old : List ℕ) (n : ℕ) (new : List ℕ) : Type 0 where
  pub writable : IsWritable t
  pub count : n ≡ length (der t)
  pub holds : new ≡ der t ++ drop (length (der t)) old

-- A beginning of the encoding was written over a vector, and why no more. Nothing is written of a tree that can't be.
pub record VecRefuses (t : Tree) (old : List ℕ) (e : Asn1DerError) (new : List ℕ) : Type 0 where
  pub front : List ℕ
  pub begins : IsPrefix front (der t)
  pub holds : new ≡ front ++ drop (length front) old
  pub nothing : e ≡ UnsupportedValue → front ≡ []
  pub excuse : MemoryExcuse (IsWritable t) e

-- why a tree isn't written into a slice
pub data SliceExcuse (t : Tree) (old : List ℕ) (e : Asn1DerError) (new : List ℕ) : Type 0 where
  without_memory : e ≡ OutOfMemory → SliceExcuse t old e new
  without_form : e ≡ UnsupportedValue → ¬ IsWritable t → new ≡ old → SliceExcuse t old e new
  without_room : e ≡ InvalidSink → IsWritable t → length old < length (der t) → new ≡ take (length old) (der t)
      → SliceExcuse t old e new

-- a beginning of the encoding was written over a slice, and why no more
pub record SliceRefuses (t : Tree) (old : List ℕ) (e : Asn1DerError) (new : List ℕ) : Type 0 where
  pub begins : HoldsBeginning old new (der t)
  pub excuse : SliceExcuse t old e new
