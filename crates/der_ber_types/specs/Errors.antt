-- Errors of BER, whatever the type is.
use Rattle.std.specs.Prelude.{List, ℕ, ⊤}
use Rattle.der_ber.specs.declared.error.BerError.{BerError}
use Rattle.der_ber.specs.declared.error.BerError.TheVariants as ber
use Rattle.der_ber.specs.WholeStrings.{IsRefusedWhole}
use Rattle.der_ber_types.specs.declared.error.TypeError.{TypeError}
use Rattle.der_ber_types.specs.declared.error.TypeError.TheVariants as type
use Rattle.der_ber_types.specs.declared.error.ToDerError.{ToDerError}
use Rattle.der_ber_types.specs.declared.error.ToDerError.TheVariants.{OutOfMemory, Broken, OtherType}

abbrev pub same_error : BerError → ToDerError
same_error ber.OutOfMemory = OutOfMemory
same_error (ber.Broken position r) = Broken position r

abbrev pub type_error : TypeError → ToDerError
type_error type.OutOfMemory = OutOfMemory
type_error type.OtherType = OtherType

-- the error has the first element that breaks a rule, at its index
abbrev pub IsRefusedByType : List ℕ → ToDerError → Type 0
IsRefusedByType bytes OutOfMemory = ⊤
IsRefusedByType bytes (Broken position r) = IsRefusedWhole bytes (ber.Broken position r)
IsRefusedByType bytes OtherType = ⊤
