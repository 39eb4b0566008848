use Rattle.std.proofs.Common.{◌≡◌, ◌∙◌, sym, arith}
use Rattle.std.proofs.lemmas.Option.{IfSome_then}
use Rattle.jiff_core.specs.DateTime.{civil_nanos}
use Rattle.jiff_core.proofs.SignedLemmas.{signed_arith}
use Rattle.der_jiff.proofs.SameDays.{none_then, same_nanos, shows_none}
use Rattle.der_jiff.proofs.times.from_timestamp.Goals as goal

pub returns-clause-some : goal.returns-clause-some
returns-clause-some c =
    let shown : civil_nanos c.to_datetime.result ≡ c.args.instant.nanosecond =
    omega (arith, signed_arith, c.to_datetime.ensures) in
    IfSome_then c.from_civil.result c.from_civil.ensures.some (λ it same. sym (same_nanos it c.to_datetime.result same)
    ∙ shown)

pub returns-clause-none : goal.returns-clause-none
returns-clause-none c =
    let shown : civil_nanos c.to_datetime.result ≡ c.args.instant.nanosecond =
    omega (arith, signed_arith, c.to_datetime.ensures) in
    none_then c.from_civil.result (λ none it e. shows_none c.to_datetime.result none it (shown ∙ sym e))
    c.from_civil.ensures.none
