-- What is kept of an error by what has failed with it.
use Rattle.std.specs.Prelude.{◌≡◌, Option, None, Some}
use Rattle.picky_der_core.specs.declared.error.Asn1DerError.{Asn1DerError}
use Rattle.picky_der_core.specs.declared.error.Asn1DerError.TheVariants as error
use Rattle.picky_der_core.specs.declared.failure.Failure.{Failure}
use Rattle.picky_der_core.specs.declared.failure.Failure.TheVariants as failure

-- the kind of an error
unfoldable pub failure_of : Asn1DerError → Failure
failure_of error.TruncatedData = failure.TruncatedData
failure_of error.InvalidData = failure.InvalidData
failure_of error.UnsupportedValue = failure.UnsupportedValue
failure_of error.UnsupportedType = failure.UnsupportedType
failure_of error.InvalidSink = failure.InvalidSink
failure_of (error.Message text) = failure.Message
failure_of (error.Other kind) = failure.Other kind
failure_of error.OutOfMemory = failure.OutOfMemory

-- this error, unless it had failed before, and then one of the kind that it has failed with
abbrev pub IsAnswer : Option Failure → Asn1DerError → Asn1DerError → Type 0
IsAnswer None kind e = e ≡ kind
IsAnswer (Some f) kind e = failure_of e ≡ f
