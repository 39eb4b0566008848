-- The words for errors.
use Rattle.std.specs.Prelude.{List, ℕ, codes}
use Rattle.picky_der_core.specs.declared.error.Asn1DerError.{Asn1DerError}
use Rattle.picky_der_core.specs.declared.error.Asn1DerError.TheVariants as error

-- the name of an error's variant
abbrev pub word_of : Asn1DerError → List ℕ
word_of error.TruncatedData = codes "TruncatedData"
word_of error.InvalidData = codes "InvalidData"
word_of error.UnsupportedValue = codes "UnsupportedValue"
word_of error.UnsupportedType = codes "UnsupportedType"
word_of error.InvalidSink = codes "InvalidSink"
word_of (error.Message text) = codes "Message"
word_of (error.Other kind) = codes "Other"
word_of error.OutOfMemory = codes "OutOfMemory"
