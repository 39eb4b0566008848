-- What is written of a date and time, and what a date and time was read from.
use Rattle.std.specs.Prelude.{◌≡◌, ℕ, ◌+◌, ◌/◌, ◌%◌, true, List, [], ◌∷◌, ◌++◌}
use Rattle.der_types.specs.declared.date_time.DateTime.{DateTime}
use Rattle.der_types.specs.DateTimes.{IsAt, two_digits}
use Rattle.der_types.specs.TimeContents.{number_at, are_ten_digits_at}

-- MMDDHHMMSS
unfoldable pub month_to_second : DateTime → List ℕ
month_to_second t =
    two_digits t.month ++ (two_digits t.day ++ (two_digits t.hour ++ (two_digits t.minute ++ two_digits t.second)))

-- the content of a UTCTime: YYMMDDHHMMSSZ
unfoldable pub utc_content : DateTime → List ℕ
utc_content t = two_digits (t.year % 100) ++ (month_to_second t ++ (0x5A ∷ []))

-- a fraction of no digits has no point
abbrev pub after_point : List ℕ → List ℕ
after_point [] = []
after_point (d ∷ ds) = 0x2E ∷ d ∷ ds

-- the content of a GeneralizedTime, with the digits of its fraction: YYYYMMDDHHMMSS, the fraction, Z
unfoldable pub generalized_content : DateTime → List ℕ → List ℕ
generalized_content t ds =
    two_digits (t.year / 100) ++ (two_digits (t.year % 100) ++ (month_to_second t ++ (after_point ds ++ (0x5A ∷ []))))

-- the date and time of this year, of which the bytes from here on are the ten other digits
pub record IsReadAt (y : ℕ) (bs : List ℕ) (i : ℕ) (t : DateTime) : Type 0 where
  pub digits : are_ten_digits_at bs i ≡ true
  pub at : IsAt y (number_at bs i) (number_at bs (i + 2)) (number_at bs (i + 4)) (number_at bs (i + 6))
      (number_at bs (i + 8)) t
