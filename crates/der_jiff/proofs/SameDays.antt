-- The calendars of der_types and jiff count the same days.
use Rattle.std.proofs.Common.{◌≡◌, ℕ, zero, suc, ◌+◌, ◌-◌, ◌<◌, ◌≤◌, ◌<ℤ◌, ◌⊎◌, inl, inr, Option, Some, None, IfNone}
use Rattle.std.proofs.Common.{refl, sym, subst, ◌∙◌, arith, pos, ◌-ℤ◌}
use Rattle.std.proofs.lemmas.Bool.Decides.{nat_tests}
use Rattle.jiff_core.specs.declared.civil.date.Date.{Date}
use Rattle.jiff_core.specs.declared.civil.datetime.DateTime.{DateTime as Civil}
use Rattle.jiff_core.specs.Calendar.{day_count, days_of_months, days_in_month}
use Rattle.jiff_core.specs.Date.{epoch_day}
use Rattle.jiff_core.specs.DateTime.{civil_nanos}
use Rattle.jiff_core.proofs.SignedLemmas.{signed_arith}
use Rattle.jiff_core.proofs.MarchLemmas.{day_count-early}
use Rattle.jiff_core.proofs.CalendarLemmas.{day_count-next_year, day_count-day_of_year, days_from_civil-day_count}
use Rattle.jiff_core.proofs.DateLemmas.{epoch_day_injective}
use Rattle.jiff_core.proofs.DateTimeLemmas.{civil_nanos-parts, civil_nanos_injective, time_nanos_injective}
use Rattle.der_types.specs.Calendar.{days_in, days_before_year, days_before_month, days_before}
use Rattle.der_types.specs.CalendarLaws.{civil_of, time_of}
use Rattle.der_types.specs.declared.date_time.DateTime.{DateTime}
use Rattle.der_jiff.specs.JiffTimes.{Shows, unix_nanoseconds}

years : (y : ℕ) → day_count (pos y) 1 1 ≡ days_before_year y + 3_652_425
years zero = day_count-early (pos 0) 9999 1 1 refl (omega arith) (omega arith) (omega arith)
years (suc y) =
    omega (
      arith,
      years y,
      day_count-next_year (pos y) (pos (suc y)) (omega (arith, signed_arith))
          (omega (arith, signed_arith)),
    )

lengths : (y m : ℕ) → 1 ≤ m → m ≤ 12 → days_in_month (pos y) m ≡ days_in y m
lengths y m a b = grind (arith, nat_tests)

months : (y m : ℕ) → m ≤ 12 → days_of_months (pos y) m ≡ days_before_month y (suc m)
unfolding days_of_months
months y zero h = refl
months y (suc m) h = omega (arith, months y m (omega arith), lengths y (suc m) (omega arith) h)

days : (y m d : ℕ) → 1 ≤ m → m ≤ 12 → 1 ≤ d → day_count (pos y) m d ≡ days_before y m d + 3_652_425
days y m d a b first =
    let back : suc (m - 1) ≡ m = omega arith in
    let before : days_of_months (pos y) (m - 1) ≡ days_before_month y m =
    subst (λ n. days_of_months (pos y) (m - 1) ≡ days_before_month y n) back (months y (m - 1) (omega arith)) in
    omega (arith, years y, day_count-day_of_year (pos y) m d first)

-- jiff has the day at the same distance from the first of January 1970
same_day : (at : DateTime) (date : Date) → date.year ≡ pos at.year → date.month ≡ at.month → date.day ≡ at.day
    → epoch_day date ≡ pos (days_before at.year at.month at.day) -ℤ pos 719_528
same_day at date year month day =
    rw (year, month, day) (omega (
      arith,
      signed_arith,
      days_from_civil-day_count (pos at.year) at.month at.day,
      days at.year at.month at.day (omega (arith, date.month_in.0)) (omega (arith, date.month_in.1))
          (omega (arith, date.day_in.0)),
    ))

pub same_nanos : (at : DateTime) (civil : Civil) → Shows civil at 0 → civil_nanos civil ≡ unix_nanoseconds at
same_nanos at civil same =
    let day = same_day at civil.date same.date.0 (omega (arith, signed_arith, same.date.1))
    (omega (arith, signed_arith, same.date.2)) in
    omega (arith, signed_arith, civil_nanos-parts civil, day, same.time)

-- what jiff has of a second of der_types
from_january : (y m d : ℕ) → 0 < d → d ≤ days_in y m → 1 ≤ m
from_january y zero d a b = absurd (omega (arith, a, b))
from_january y (suc m) d a b = omega arith

civil_of_date : (at : DateTime) → (civil : Civil) × Shows civil at 0
civil_of_date at =
    let date = civil_of at.year at.month at.day at.date in
    let time = time_of at.hour at.minute at.second at.time in
    let first = from_january at.year at.month at.day date.first date.last in
    let last : at.month ≤ 12 = omega (arith, date.month) in (
      record {
        date = record {
          year = pos at.year;
          month = at.month;
          day = at.day;
          year_in = omega (arith, signed_arith, date.year);
          month_in = (first, last);
          day_in = omega (arith, date.first, date.last, lengths at.year at.month first last);
        };
        time = record {
          hour = at.hour;
          minute = at.minute;
          second = at.second;
          subsec_nanosecond = 0;
          hour_in = time.hour;
          minute_in = time.minute;
          second_in = time.second;
          subsec_in = omega arith;
        };
      },
      record { date = (refl, refl, refl); time = (refl, refl, refl, refl) },
    )

-- a datetime of jiff at the same instant shows the same
pub shown : (at : DateTime) (civil : Civil) → civil_nanos civil ≡ unix_nanoseconds at
    → (civil.date.year ≡ pos at.year) × (civil.time.subsec_nanosecond ≡ 0)
shown at civil e =
    let one = civil_of_date at in
    let same = civil_nanos_injective civil one.0 (e ∙ sym (same_nanos at one.0 one.1)) in
    let date = epoch_day_injective civil.date one.0.date same.0 in
    let time = time_nanos_injective civil.time one.0.time same.1 in
    (date.0 ∙ one.1.date.0, time.3 ∙ (omega (arith, signed_arith, one.1.time.3)))

-- one that is before the year 0 or has a fraction shows no second of der_types
pub shows_none : (civil : Civil) → (civil.date.year <ℤ pos 0) ⊎ (0 < civil.time.subsec_nanosecond) → (at : DateTime)
    → civil_nanos civil ≡ unix_nanoseconds at → ⊥
shows_none civil (inl before) at e = omega (arith, signed_arith, before, (shown at civil e).0)
shows_none civil (inr fraction) at e = omega (arith, fraction, (shown at civil e).1)

pub none_then : {X P Q : Type 0} (r : Option X) → (P → Q) → IfNone r P → IfNone r Q
none_then None f p = f p
none_then (Some x) f p = p
