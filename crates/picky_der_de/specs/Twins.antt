-- Values that are converted from values of another type.
use Rattle.std.specs.Prelude.{◌≡◌, ◌⊎◌}
use Rattle.picky_der_core.specs.declared.error.Asn1DerError.{Asn1DerError}
use Rattle.picky_der_core.specs.declared.error.Asn1DerError.TheVariants.{InvalidData, OutOfMemory}
use Rattle.picky_der_core.specs.Tree.{Tree}

-- this value of the twin is none of the type, unless an allocation failed
abbrev pub IsNoValue : {V W : Type 0} → (W → Tree) → (V → W) → W → Asn1DerError → Type 0
IsNoValue {V} meaning parts w e = (e ≡ OutOfMemory) ⊎ (e ≡ InvalidData) × ((v : V) → meaning (parts v) ≡ meaning w → ⊥)
