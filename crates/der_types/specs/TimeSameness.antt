-- Equal dates and times have one content.
use Rattle.std.specs.Prelude.{◌≡◌, ◌%◌, ◌/◌, ◌&&◌, ◌==◌, true, List, []}
use Rattle.std.proofs.Common.{ap, ap₂, ◌∙◌, eqb-true}
use Rattle.std.proofs.lemmas.Bool.{and_parts}
use Rattle.der_types.specs.contracts.date_time.DateTimePartialEq.TheImpl as compared
use Rattle.der_types.specs.declared.date_time.DateTime.{DateTime}
use Rattle.der_types.specs.DateTimes.{two_digits}
use Rattle.der_types.specs.TimeValues.{month_to_second, utc_content, generalized_content}

record AreSame (t u : DateTime) : Type 0 where
  year : t.year ≡ u.year
  month : t.month ≡ u.month
  day : t.day ≡ u.day
  hour : t.hour ≡ u.hour
  minute : t.minute ≡ u.minute
  second : t.second ≡ u.second

same_numbers : (t u : DateTime) → compared.ghosts.eq t u ≡ true → AreSame t u
same_numbers t u h =
    let p = and_parts (t.year == u.year)
    ((t.month == u.month) &&
    ((t.day == u.day) && ((t.hour == u.hour) && ((t.minute == u.minute) && (t.second == u.second))))) h in
    let q = and_parts (t.month == u.month)
    ((t.day == u.day) && ((t.hour == u.hour) && ((t.minute == u.minute) && (t.second == u.second)))) p.1 in
    let r = and_parts (t.day == u.day) ((t.hour == u.hour) && ((t.minute == u.minute) && (t.second == u.second))) q.1 in
    let s = and_parts (t.hour == u.hour) ((t.minute == u.minute) && (t.second == u.second)) r.1 in
    let v = and_parts (t.minute == u.minute) (t.second == u.second) s.1 in
    record {
      year = eqb-true t.year u.year p.0;
      month = eqb-true t.month u.month q.0;
      day = eqb-true t.day u.day r.0;
      hour = eqb-true t.hour u.hour s.0;
      minute = eqb-true t.minute u.minute v.0;
      second = eqb-true t.second u.second v.1;
    }

same_month_to_second : (t u : DateTime) → AreSame t u → month_to_second t ≡ month_to_second u
unfolding month_to_second
same_month_to_second t u s =
    let month = s.month in
    let day = s.day in
    let hour = s.hour in
    let minute = s.minute in
    let second = s.second in
    cc

pub same_utc : (t u : DateTime) → compared.ghosts.eq t u ≡ true → utc_content t ≡ utc_content u
unfolding utc_content
same_utc t u h =
    let s = same_numbers t u h in
    let year = s.year in
    let others = same_month_to_second t u s in
    cc

pub same_generalized : (t u : DateTime) → compared.ghosts.eq t u ≡ true
    → generalized_content t [] ≡ generalized_content u []
unfolding generalized_content
same_generalized t u h =
    let s = same_numbers t u h in
    let year = s.year in
    let others = same_month_to_second t u s in
    cc
