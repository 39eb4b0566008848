-- Dates and times of der_types as dates and times of jiff.
use Rattle.std.specs.Prelude.{◌≡◌, ℕ, ℤ, pos, ◌-ℤ◌, ◌*ℤ◌, zero, suc, ◌+◌, ◌/◌, ◌%◌, ◌^◌, List, [], ◌∷◌}
use Rattle.jiff_core.specs.declared.civil.datetime.DateTime.{DateTime as Civil}
use Rattle.jiff.specs.Words.{IsYmd, IsHms}
use Rattle.der_types.specs.declared.date_time.DateTime.{DateTime}
use Rattle.der_types.specs.DateTimes.{seconds_of}
use Rattle.der_types.specs.GeneralizedTimes.{scaled}
use Rattle.der_types.specs.TimeContents.{fraction_of}
use Rattle.der_types.specs.TimeValues.{generalized_content}

-- jiff's value shows this second, and so many nanoseconds after it
pub record Shows (civil : Civil) (at : DateTime) (nanoseconds : ℕ) : Type 0 where
  pub date : IsYmd (pos at.year) (pos at.month) (pos at.day) civil.date
  pub time : IsHms (pos at.hour) (pos at.minute) (pos at.second) (pos nanoseconds) civil.time

-- jiff's value shows the second and the fraction of this content of a GeneralizedTime
pub record ShowsContent (civil : Civil) (content : List ℕ) : Type 0 where
  pub at : DateTime
  pub is : generalized_content at (fraction_of content) ≡ content
  pub shows : Shows civil at (scaled 9 (fraction_of content))

-- in nanoseconds since 1970 began; the year 0 began 719,528 days before
abbrev pub unix_nanoseconds : DateTime → ℤ
unix_nanoseconds at = (pos (seconds_of at) -ℤ pos 62_167_219_200) *ℤ pos 1_000_000_000

-- the fewest digits that are this number of k digits; missing digits are 0
abbrev pub fewest_digits : ℕ → ℕ → List ℕ
fewest_digits zero n = []
fewest_digits k zero = []
fewest_digits (suc k) n = (0x30 + n / 10 ^ k) ∷ fewest_digits k (n % 10 ^ k)
