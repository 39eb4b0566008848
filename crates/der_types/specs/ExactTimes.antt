-- Each content of a UTCTime is that of a value, and so is each content of a time from 2050 on.
use Rattle.std.specs.Prelude.{◌≡◌, ◌≤◌, ℕ, true, List, [], refl}
use Rattle.std.proofs.Common.{arith}
use Rattle.der_types.specs.declared.date_time.DateTime.{DateTime}
use Rattle.der_types.specs.declared.later_time.LaterTime.{LaterTime}
use Rattle.der_types.specs.declared.utc_time.UtcTime.{UtcTime}
use Rattle.der_types.specs.TimeContents.{is_utc_time, is_later_time, full_year, number_at, year_at_first}
use Rattle.der_types.specs.TimeLaws.{utc_of, later_of, stamp_of, year_range, below_hundred, utc-read, later-read}
use Rattle.der_types.specs.TimeValues.{utc_content, generalized_content}

pub utc_made : (bs : List ℕ) → is_utc_time bs ≡ true → (t : UtcTime) × (utc_content t.at ≡ bs)
utc_made bs e =
    let w = utc_of bs e in
    let year : ℕ = full_year (number_at bs 0) in
    let s = stamp_of year bs 2 w.valid in
    let at : DateTime = record {
      year = year;
      month = number_at bs 2;
      day = number_at bs 4;
      hour = number_at bs 6;
      minute = number_at bs 8;
      second = number_at bs 10;
      date = s.date;
      time = s.time;
    } in
    let years = year_range (number_at bs 0) (below_hundred bs 0 w.year) in (
      record { at = at; first = years.0; last = years.1 },
      utc-read bs at w
          (record {
            digits = s.ten;
            at = record {
              same_year = refl;
              same_month = refl;
              same_day = refl;
              same_hour =
                  refl;
              same_minute = refl;
              same_second = refl;
            };
          }),
    )

pub later_made : (bs : List ℕ) → is_later_time bs ≡ true → (t : LaterTime) × (generalized_content t.at [] ≡ bs)
later_made bs e =
    let w = later_of bs e in
    let year : ℕ = year_at_first bs in
    let s = stamp_of year bs 4 w.seconds.valid in
    let at : DateTime = record {
      year = year;
      month = number_at bs 4;
      day = number_at bs 6;
      hour = number_at bs 8;
      minute = number_at bs 10;
      second = number_at bs 12;
      date = s.date;
      time = s.time;
    } in
    let late : 2050 ≤ year = omega (arith, w.late) in (
      record { at = at; later = late },
      later-read bs at w
          (record {
            digits = s.ten;
            at = record {
              same_year = refl;
              same_month = refl;
              same_day = refl;
              same_hour =
                  refl;
              same_minute = refl;
              same_second = refl;
            };
          }),
    )
