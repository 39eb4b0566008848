-- Refusals that no byte decides.
use Rattle.std.specs.Prelude.{◌≡◌, Result, Err}
use Rattle.picky_der_core.specs.declared.error.Asn1DerError.{Asn1DerError}
use Rattle.picky_der_core.specs.Failure.{IsAnswer}
use Rattle.picky_der_core.specs.declared.error.Asn1DerError.TheVariants.{UnsupportedType}
use Rattle.picky_der_de.specs.State.{State}
use Rattle.picky_der_de.specs.Steps.{failed_with}

-- it has failed with this error, unless it had failed before, and returns what it has failed with; nothing else changed
abbrev pub FailsAs : Asn1DerError → State → Asn1DerError → State → Type 0
FailsAs kind old e new = IsAnswer old.failed kind e × (new ≡ failed_with old e)

-- the call refuses what isn't supported, whatever is there
abbrev pub IsUnsupported : {T : Type 0} → State → Result T Asn1DerError → State → Type 0
IsUnsupported old r new = (e : Asn1DerError) × (r ≡ Err e) × FailsAs UnsupportedType old e new
