use Rattle.std.proofs.Common.{sym, ap, subst, ◌∙◌}
use Rattle.der_types.specs.TimeContents.{number_at, full_year}
use Rattle.der_types.specs.TimeLaws.{IsStamp, utc_of, stamp_of, utc-read}
use Rattle.der_types.specs.TimeValues.{IsReadAt}
use Rattle.der_types.proofs.utc_time.UtcTime.of.Goals as goal

pub number_at-requires-clause-digits : goal.number_at-requires-clause-digits
number_at-requires-clause-digits c =
    (utc_of c.args.content.now (sym c.is_utc_time.ensures ∙ c.if-is_utc_time.true)).year

pub date_time_at-at-requires-clause-stamp : goal.date_time_at-at-requires-clause-stamp
date_time_at-at-requires-clause-stamp c =
    let bs = c.args.content.now in
    let w = utc_of bs (sym c.is_utc_time.ensures ∙ c.if-is_utc_time.true) in
    subst (λ y. IsStamp y bs 2) (sym (c.full_year-year.ensures ∙ ap full_year c.number_at.ensures.value))
    (stamp_of (full_year (number_at bs 0)) bs 2 w.valid)

pub returns-then-is_utc_time-clause-some : goal.returns-then-is_utc_time-clause-some
returns-then-is_utc_time-clause-some c =
    let bs = c.args.content.now in
    let w = utc_of bs (sym c.is_utc_time.ensures ∙ c.if-is_utc_time.true) in
    utc-read bs c.date_time_at-at.result w
    (subst (λ y. IsReadAt y bs 2 c.date_time_at-at.result) (c.full_year-year.ensures
    ∙ ap full_year c.number_at.ensures.value) c.date_time_at-at.ensures)
