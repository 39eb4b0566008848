-- Calls with a tag number that no identifier of one byte holds.
use Rattle.std.specs.Prelude.{◌≡◌, None, Result, Err}
use Rattle.picky_der_core.specs.declared.error.Asn1DerError.{Asn1DerError}
use Rattle.picky_der_core.specs.declared.error.Asn1DerError.TheVariants.{UnsupportedValue}
use Rattle.picky_der_de.specs.State.{State}
use Rattle.picky_der_de.specs.Steps.{failed_with}

-- the call refuses the number, unless an earlier one failed, and nothing else changed
abbrev pub RefusesNumber : {T : Type 0} → State → Result T Asn1DerError → State → Type 0
RefusesNumber old r new = old.failed ≡ None → (r ≡ Err UnsupportedValue) × (new ≡ failed_with old UnsupportedValue)
