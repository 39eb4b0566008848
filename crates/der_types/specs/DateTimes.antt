-- What a date and time is.
use Rattle.std.specs.Prelude.{◌≡◌, ℕ, ◌+◌, ◌/◌, ◌%◌, List, [], ◌∷◌, ◌++◌}
use Rattle.der_types.specs.declared.date_time.DateTime.{DateTime}
use Rattle.der_types.specs.Calendar.{seconds_before}

-- it has these fields
pub record IsAt (year month day hour minute second : ℕ) (t : DateTime) : Type 0 where
  pub same_year : t.year ≡ year
  pub same_month : t.month ≡ month
  pub same_day : t.day ≡ day
  pub same_hour : t.hour ≡ hour
  pub same_minute : t.minute ≡ minute
  pub same_second : t.second ≡ second

-- how many seconds it is since the year 0 began
abbrev pub seconds_of : DateTime → ℕ
seconds_of t = seconds_before t.year t.month t.day t.hour t.minute t.second

-- a number below 100 in two digits
abbrev pub two_digits : ℕ → List ℕ
two_digits n = (0x30 + n / 10) ∷ (0x30 + n % 10) ∷ []

-- as 2026-11-27T23:12:00Z (ISO 8601)
unfoldable pub date_time_text : DateTime → List ℕ
date_time_text t =
    two_digits (t.year / 100)
    ++ (two_digits (t.year % 100)
    ++ (0x2D ∷ (two_digits t.month
    ++ (0x2D ∷ (two_digits t.day
    ++ (0x54 ∷ (two_digits t.hour
    ++ (0x3A ∷ (two_digits t.minute ++ (0x3A ∷ (two_digits t.second ++ (0x5A ∷ []))))))))))))
