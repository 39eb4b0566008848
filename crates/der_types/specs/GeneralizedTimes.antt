-- What a GeneralizedTime is compared by.
use Rattle.std.specs.Prelude.{ℕ, zero, suc, ◌+◌, ◌-◌, ◌*◌, ◌^◌, List, [], ◌∷◌, length, take}
use Rattle.der_types.specs.declared.generalized_time.GeneralizedTime.{GeneralizedTime}
use Rattle.der_types.specs.TimeContents.{seconds_at, year_at_first, fraction_of}

-- the content without the Z
abbrev pub time_key : GeneralizedTime → List ℕ
time_key t = take (length t.content.items - 1) t.content.items

-- digits as a number of k digits; missing digits are 0
abbrev pub scaled : ℕ → List ℕ → ℕ
scaled zero ds = 0
scaled (suc k) [] = 0
scaled (suc k) (d ∷ ds) = (d - 0x30) * 10 ^ k + scaled k ds

-- how many 10^k-ths of a second it is since the year 0 began, where its fraction has k digits at most
abbrev pub ticks : ℕ → GeneralizedTime → ℕ
ticks k t = seconds_at (year_at_first t.content.items) t.content.items 4 * 10 ^ k + scaled k
    (fraction_of t.content.items)
