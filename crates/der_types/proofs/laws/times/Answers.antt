use Rattle.std.proofs.Common.{◌≡◌, ◌==◌, ◌≤◌, ◌<◌, refl, sym, ◌∙◌, true≢false, eqb-true, arith}
use Rattle.std.proofs.lemmas.Bool.{and_parts}
use Rattle.std.specs.Ordering.{nat_cmp}
use Rattle.der_types.specs.declared.date_time.DateTime.{DateTime}
use Rattle.der_types.specs.declared.time.Time.{Time}
use Rattle.der_types.specs.declared.time.Time.TheVariants.{Utc, Generalized}
use Rattle.der_types.specs.CalendarLaws.{civil_of, time_of, same_seconds}
use Rattle.der_types.specs.DateTimes.{seconds_of}
use Rattle.der_types.specs.TimeChoice.{date_time_of}
use Rattle.der_types.specs.TimeChoiceLaws.{cmp_dates_and_times, earlier, later}
use Rattle.der_types.proofs.laws.times.Goals as goal

pub returns-clause-order : goal.returns-clause-order
returns-clause-order c = elim [
  | Utc x ↦ elim [
    | Utc y ↦ sym (cmp_dates_and_times x.at y.at)
    | Generalized y
        ↦ sym (earlier x.at y.at (omega (arith, x.last, y.later)))
  ]
  | Generalized x ↦ elim [
    | Utc y ↦ sym (later x.at y.at (omega (arith, y.last, x.later)))
    | Generalized y
        ↦ sym (cmp_dates_and_times x.at y.at)
  ]
]

-- two are of one year where they are one second
same_year : (t u : DateTime) → seconds_of t ≡ seconds_of u → t.year ≡ u.year
same_year t u e =
    let fields =
    (same_seconds t.year t.month t.day t.hour t.minute t.second u.year u.month u.day u.hour u.minute u.second
    (civil_of t.year t.month t.day t.date) (time_of t.hour t.minute t.second t.time)
    (civil_of u.year u.month u.day u.date) (time_of u.hour u.minute u.second u.time)).1 e in
    eqb-true t.year u.year (and_parts _ _ fields).0

pub returns-clause-equality : goal.returns-clause-equality
returns-clause-equality c (Utc x) (Utc y) =
    same_seconds x.at.year x.at.month x.at.day x.at.hour x.at.minute x.at.second y.at.year y.at.month y.at.day y.at.hour
    y.at.minute y.at.second (civil_of x.at.year x.at.month x.at.day x.at.date)
    (time_of x.at.hour x.at.minute x.at.second x.at.time) (civil_of y.at.year y.at.month y.at.day y.at.date)
    (time_of y.at.hour y.at.minute y.at.second y.at.time)
returns-clause-equality c (Utc x) (Generalized y) = (
  λ h. absurd (true≢false (sym h)),
  λ e. let year = same_year x.at y.at e in
      absurd (omega (arith, year, x.last, y.later)),
)
returns-clause-equality c (Generalized x) (Utc y) = (
  λ h. absurd (true≢false (sym h)),
  λ e. let year = same_year x.at y.at e in
      absurd (omega (arith, year, y.last, x.later)),
)
returns-clause-equality c (Generalized x) (Generalized y) =
    same_seconds x.at.year x.at.month x.at.day x.at.hour x.at.minute x.at.second y.at.year y.at.month y.at.day y.at.hour
    y.at.minute y.at.second (civil_of x.at.year x.at.month x.at.day x.at.date)
    (time_of x.at.hour x.at.minute x.at.second x.at.time) (civil_of y.at.year y.at.month y.at.day y.at.date)
    (time_of y.at.hour y.at.minute y.at.second y.at.time)
