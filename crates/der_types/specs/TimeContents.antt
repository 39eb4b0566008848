-- The contents of a UTCTime (X.690, 11.8; X.680, 47) and of a GeneralizedTime (X.690, 11.7; X.680, 46): which there
-- are, and what they say.
use Rattle.std.specs.Prelude.{ℕ, ◌+◌, ◌-◌, ◌*◌, Bool, true, not, ◌&&◌, ◌==◌, nat_lt, List, [], ◌∷◌, length, take, drop}
use Rattle.std.specs.Prelude.{slice_index, if◌then◌else◌}
use Rattle.der_types.specs.Calendar.{is_date, is_time_of_day, seconds_before}

-- ---- digits

abbrev pub is_digit : ℕ → Bool
is_digit b = nat_lt 0x2F b && nat_lt b 0x3A

-- of the byte with this index and the next
abbrev pub are_digits_at : List ℕ → ℕ → Bool
are_digits_at bs i = is_digit (slice_index bs i) && is_digit (slice_index bs (i + 1))

abbrev pub number_at : List ℕ → ℕ → ℕ
number_at bs i = (slice_index bs i - 0x30) * 10 + (slice_index bs (i + 1) - 0x30)

abbrev pub are_digits : List ℕ → Bool
are_digits [] = true
are_digits (b ∷ bs) = is_digit b && are_digits bs

-- ---- MMDDHHMMSS

abbrev pub are_ten_digits_at : List ℕ → ℕ → Bool
are_ten_digits_at bs i = are_digits_at bs i && are_digits_at bs (i + 2) && are_digits_at bs (i + 4) && are_digits_at bs
    (i + 6) && are_digits_at bs (i + 8)

-- they are a date of this year and a time of day
abbrev pub is_date_time_at : ℕ → List ℕ → ℕ → Bool
is_date_time_at y bs i =
    are_ten_digits_at bs i && is_date y (number_at bs i) (number_at bs (i + 2)) && is_time_of_day (number_at bs (i + 4))
    (number_at bs (i + 6)) (number_at bs (i + 8))

abbrev pub seconds_at : ℕ → List ℕ → ℕ → ℕ
seconds_at y bs i = seconds_before y (number_at bs i) (number_at bs (i + 2)) (number_at bs (i + 4))
    (number_at bs (i + 6)) (number_at bs (i + 8))

-- ---- YYMMDDHHMMSSZ

-- 50 to 99 are of the 20th century, 00 to 49 of the 21st (RFC 5280, 4.1.2.5.1)
abbrev pub full_year : ℕ → ℕ
full_year n = if nat_lt n 50 then 2000 + n else 1900 + n

abbrev pub is_utc_time : List ℕ → Bool
is_utc_time bs = (length bs == 13) && are_digits_at bs 0 && (slice_index bs 12 == 0x5A) && is_date_time_at
    (full_year (number_at bs 0)) bs 2

-- ---- YYYYMMDDHHMMSSZ, where a point and digits may be before the Z

abbrev pub year_at_first : List ℕ → ℕ
year_at_first bs = number_at bs 0 * 100 + number_at bs 2

abbrev pub are_whole_seconds : List ℕ → Bool
are_whole_seconds bs = are_digits_at bs 0 && are_digits_at bs 2 && is_date_time_at (year_at_first bs) bs 4

-- digits of which the last isn't 0 (X.690, 11.7.2)
abbrev pub is_fraction : List ℕ → Bool
is_fraction bs = are_digits bs && not (slice_index bs (length bs - 1) == 0x30)

-- what is between the point and the Z
abbrev pub fraction_of : List ℕ → List ℕ
fraction_of bs = take (length bs - 1 - 15) (drop 15 bs)

-- the Z, or a point (11.7.3), at least one digit and the Z (11.7.1)
abbrev pub is_ended : List ℕ → Bool
is_ended bs = if length bs == 15 then slice_index bs 14 == 0x5A else nat_lt 16 (length bs) &&
    (slice_index bs 14 == 0x2E) && (slice_index bs (length bs - 1) == 0x5A) && is_fraction (fraction_of bs)

abbrev pub is_generalized_time : List ℕ → Bool
is_generalized_time bs = nat_lt 14 (length bs) && are_whole_seconds bs && is_ended bs

-- of RFC 5280 (4.1.2.5): no fraction, and a year from 2050 on
abbrev pub is_later_time : List ℕ → Bool
is_later_time bs = (length bs == 15) && are_whole_seconds bs && (slice_index bs 14 == 0x5A) && nat_lt 2049
    (year_at_first bs)
