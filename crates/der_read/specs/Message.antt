-- Which bytes are a message of a type, and why others aren't.
use Rattle.std.specs.Prelude.{◌≢◌, ℕ, List, Option, Some, None}
use Rattle.picky_der_core.specs.declared.error.Asn1DerError.TheVariants.{OutOfMemory}
use Rattle.picky_der_de.specs.declared.whole_input.DecodeError.{DecodeError}
use Rattle.picky_der_de.specs.Whole.{IsEncodingOf, IsNoEncoding}
use Rattle.der_read.specs.Described.{Description}

-- the bytes are the encoding of a value of the type
abbrev pub IsMessageOf : Description → List ℕ → Type 0
IsMessageOf d bytes = (v : d.Value) × IsEncodingOf d.meaning d.shape bytes v

-- they aren't, as was found with this error after so many of them
pub record IsRefused (d : Description) (bytes : List ℕ) (r : DecodeError) : Type 0 where
  pub none : IsMessageOf d bytes → ⊥
  pub found : IsNoEncoding d.meaning d.shape bytes r.error r.position
  pub memory : r.error ≢ OutOfMemory

-- why the bytes aren't a message of the type; or nothing, if they are
abbrev pub IsRefusalOf : Description → List ℕ → Option DecodeError → Type 0
IsRefusalOf d bytes None = IsMessageOf d bytes
IsRefusalOf d bytes (Some r) = IsRefused d bytes r
