use Rattle.std.proofs.Common.{◌≡◌, pos, ◌-ℤ◌, arith}
use Rattle.jiff_core.specs.DateTime.{civil_nanos}
use Rattle.jiff_core.specs.Timestamp.{nanos_of_seconds}
use Rattle.jiff_core.proofs.SignedLemmas.{signed_arith}
use Rattle.der_jiff.proofs.SameDays.{same_nanos}
use Rattle.der_jiff.specs.JiffTimes.{unix_nanoseconds}
use Rattle.der_jiff.proofs.times.to_timestamp.Goals as goal

pub returns-clause-succeeds : goal.returns-clause-succeeds
returns-clause-succeeds c =
    let e : civil_nanos c.to_civil.result -ℤ nanos_of_seconds (pos 0) ≡ unix_nanoseconds c.args.at =
    omega (arith, signed_arith, same_nanos c.args.at c.to_civil.result c.to_civil.ensures) in
    rw e at c.to_timestamp.ensures.succeeds

pub returns-clause-value : goal.returns-clause-value
returns-clause-value c =
    let e : civil_nanos c.to_civil.result -ℤ nanos_of_seconds (pos 0) ≡ unix_nanoseconds c.args.at =
    omega (arith, signed_arith, same_nanos c.args.at c.to_civil.result c.to_civil.ensures) in
    rw e at c.to_timestamp.ensures.value
