-- The order of times of RFC 5280.
use Rattle.std.proofs.Common.{◌≡◌, ◌<◌, ◌≤◌, sym, ap, ◌∙◌, arith}
use Rattle.std.specs.Ordering.{nat_cmp, ordering_then}
use Rattle.der_types.specs.declared.date_time.DateTime.{DateTime}
use Rattle.der_types.specs.CalendarLaws.{civil_of, time_of, cmp_seconds, same_seconds, when_less, when_greater}
use Rattle.der_types.specs.DateTimes.{seconds_of}
use Rattle.std.specs.declared.cmp.Ordering.TheVariants.{Less, Greater}
use Rattle.der_types.specs.TimeLaws.{same_fields, utc-same}
use Rattle.der_types.specs.TimeValues.{utc_content}

pub cmp_dates_and_times : (t u : DateTime)
    → nat_cmp (seconds_of t) (seconds_of u) ≡ ordering_then (nat_cmp t.year u.year)
    (ordering_then (nat_cmp t.month u.month)
    (ordering_then (nat_cmp t.day u.day)
    (ordering_then (nat_cmp t.hour u.hour) (ordering_then (nat_cmp t.minute u.minute) (nat_cmp t.second u.second)))))
cmp_dates_and_times t u = cmp_seconds t.year t.month t.day t.hour t.minute t.second u.year u.month u.day u.hour u.minute
    u.second (civil_of t.year t.month t.day t.date) (time_of t.hour t.minute t.second t.time)
    (civil_of u.year u.month u.day u.date) (time_of u.hour u.minute u.second u.time)

-- an earlier year decides
pub earlier : (t u : DateTime) → t.year < u.year → nat_cmp (seconds_of t) (seconds_of u) ≡ Less
earlier t u h = cmp_dates_and_times t u
    ∙ when_less t.year u.year
    (ordering_then (nat_cmp t.month u.month)
    (ordering_then (nat_cmp t.day u.day)
    (ordering_then (nat_cmp t.hour u.hour) (ordering_then (nat_cmp t.minute u.minute) (nat_cmp t.second u.second))))) h

pub later : (t u : DateTime) → u.year < t.year → nat_cmp (seconds_of t) (seconds_of u) ≡ Greater
later t u h = cmp_dates_and_times t u
    ∙ when_greater t.year u.year
    (ordering_then (nat_cmp t.month u.month)
    (ordering_then (nat_cmp t.day u.day)
    (ordering_then (nat_cmp t.hour u.hour) (ordering_then (nat_cmp t.minute u.minute) (nat_cmp t.second u.second))))) h

-- one content is that of one second
pub utc-one : (t u : DateTime) → 1950 ≤ t.year → t.year ≤ 2049 → 1950 ≤ u.year → u.year ≤ 2049
    → utc_content t ≡ utc_content u → seconds_of t ≡ seconds_of u
utc-one t u a b c d e =
    (same_seconds t.year t.month t.day t.hour t.minute t.second u.year u.month u.day u.hour u.minute u.second
    (civil_of t.year t.month t.day t.date) (time_of t.hour t.minute t.second t.time)
    (civil_of u.year u.month u.day u.date) (time_of u.hour u.minute u.second u.time)).0 (utc-same t u a b c d e)
