-- The Gregorian calendar (ISO 8601), and times of day.
use Rattle.std.specs.Prelude.{ℕ, zero, suc, ◌+◌, ◌-◌, ◌*◌, ◌%◌, Bool, not, ◌&&◌, ◌||◌, ◌==◌, nat_lt, if◌then◌else◌}

-- ---- which dates and times there are

-- each fourth year, but of the full centuries only each fourth
abbrev pub is_leap_year : ℕ → Bool
is_leap_year y = (y % 4 == 0) && (not (y % 100 == 0) || (y % 400 == 0))

-- how many days the month of this number has: none if there is no such month
abbrev pub days_in : ℕ → ℕ → ℕ
days_in y m = if m == 2 then (if is_leap_year y then 29 else 28) else if (m == 4) || (m == 6) || (m == 9) ||
    (m == 11) then 30 else if nat_lt 0 m && nat_lt m 13 then 31 else 0

-- a day of a year of up to four digits
abbrev pub is_date : ℕ → ℕ → ℕ → Bool
is_date y m d = nat_lt y 10000 && nat_lt 0 d && nat_lt d (days_in y m + 1)

abbrev pub is_time_of_day : ℕ → ℕ → ℕ → Bool
is_time_of_day h mi s = nat_lt h 24 && nat_lt mi 60 && nat_lt s 60

-- ---- how many seconds there were before

abbrev pub days_in_year : ℕ → ℕ
days_in_year y = if is_leap_year y then 366 else 365

-- from the first day of the year 0 to the first day of this year
abbrev pub days_before_year : ℕ → ℕ
days_before_year zero = 0
days_before_year (suc y) = days_before_year y + days_in_year y

-- from the first day of the year to the first day of this month
abbrev pub days_before_month : ℕ → ℕ → ℕ
days_before_month y zero = 0
days_before_month y (suc m) = days_before_month y m + days_in y m

abbrev pub days_before : ℕ → ℕ → ℕ → ℕ
days_before y m d = days_before_year y + (days_before_month y m + (d - 1))

-- since the year 0 began
abbrev pub seconds_before : ℕ → ℕ → ℕ → ℕ → ℕ → ℕ → ℕ
seconds_before y m d h mi s = ((days_before y m d * 24 + h) * 60 + mi) * 60 + s
