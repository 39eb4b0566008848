-- The same elements with the lengths of DER and whole strings, for contracts of crates that call `with_whole_strings`.
use Rattle.std.specs.Prelude.{List, ℕ}
use Rattle.der_ber.specs.declared.error.BerError.{BerError}
use Rattle.der_ber.specs.declared.strings.Strings.TheVariants.{Whole}
use Rattle.der_ber.specs.InDer.{IsInDer, IsRefusedWith, AreNoneWith}

-- the bytes are elements in BER, and the others are the same with the lengths of DER and whole strings
abbrev pub IsMadeWhole : List ℕ → List ℕ → Type 0
IsMadeWhole bytes der = IsInDer Whole bytes der

-- the error has the first element that breaks a rule, at its index
abbrev pub IsRefusedWhole : List ℕ → BerError → Type 0
IsRefusedWhole bytes e = IsRefusedWith Whole bytes e

-- the bytes are no elements in BER
abbrev pub AreNoneWhole : List ℕ → Type 0
AreNoneWhole bytes = AreNoneWith Whole bytes
