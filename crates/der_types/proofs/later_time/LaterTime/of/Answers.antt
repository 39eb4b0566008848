use Rattle.std.proofs.Common.{◌<◌, ◌≤◌, sym, ap, subst, ◌∙◌, arith}
use Rattle.der_types.specs.TimeContents.{year_at_first}
use Rattle.der_types.specs.TimeLaws.{IsStamp, IsLater, later_of, stamp_of, later-read}
use Rattle.der_types.specs.TimeValues.{IsReadAt}
use Rattle.der_types.proofs.later_time.LaterTime.of.Goals as goal

pub year_at_first-requires-clause-year : goal.year_at_first-requires-clause-year
year_at_first-requires-clause-year c =
    (later_of c.args.content.now (sym c.is_later_time.ensures ∙ c.if-is_later_time.true)).seconds.year

pub date_time_at-at-requires-clause-stamp : goal.date_time_at-at-requires-clause-stamp
date_time_at-at-requires-clause-stamp c =
    let bs = c.args.content.now in
    let w = later_of bs (sym c.is_later_time.ensures ∙ c.if-is_later_time.true) in
    subst (λ y. IsStamp y bs 4) (sym c.year_at_first.ensures) (stamp_of (year_at_first bs) bs 4 w.seconds.valid)

pub invariant_of-result : goal.invariant_of-result
invariant_of-result c =
    let bs = c.args.content.now in
    let w = later_of bs (sym c.is_later_time.ensures ∙ c.if-is_later_time.true) in
    let year = c.date_time_at-at.ensures.at.same_year ∙ c.year_at_first.ensures in
    let late : 2050 ≤ year_at_first bs = omega (arith, w.late) in
    record { later = subst (λ y. 2050 ≤ y) (sym year) late }

pub returns-then-is_later_time-clause-some : goal.returns-then-is_later_time-clause-some
returns-then-is_later_time-clause-some c =
    let bs = c.args.content.now in
    let w = later_of bs (sym c.is_later_time.ensures ∙ c.if-is_later_time.true) in
    later-read bs c.date_time_at-at.result w
    (subst (λ y. IsReadAt y bs 4 c.date_time_at-at.result) c.year_at_first.ensures c.date_time_at-at.ensures)
