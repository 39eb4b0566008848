-- Which error an I/O error of a reader becomes.
use Rattle.std.specs.declared.io.ErrorKind.{ErrorKind}
use Rattle.std.specs.declared.io.ErrorKind.TheVariants as kind
use Rattle.picky_der_core.specs.declared.error.Asn1DerError.{Asn1DerError}
use Rattle.picky_der_core.specs.declared.error.Asn1DerError.TheVariants as error

unfoldable pub error_of_kind : ErrorKind → Asn1DerError
error_of_kind kind.UnexpectedEof = error.TruncatedData
error_of_kind kind.WriteZero = error.InvalidSink
error_of_kind kind.OutOfMemory = error.OutOfMemory
error_of_kind other = error.Other other
