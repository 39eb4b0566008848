use Rattle.std.proofs.Common.{◌≡◌, ◌∙◌, sym, true≢false, arith, ◌+◌, ◌*◌}
use Rattle.std.proofs.lemmas.Option.{IfSome_then}
use Rattle.der_types.specs.DateTimes.{date_time_text, IsAt}
use Rattle.der_types.specs.declared.date_time.DateTime.{DateTime}
use Rattle.der_types.proofs.DateTimeReads.{are_of_text, same_text, is_dated, none_then}
use Rattle.der_types.proofs.date_time_from.read_from.Goals as goal

-- it has the numbers that were read
abbrev IsRead : goal.After-new → DateTime → Type 0
IsRead c = IsAt (c.from.result * 100 + c.from-2.result) c.number_of-month.result c.number_of-day.result
    c.number_of-hour.result c.number_of-minute.result c.number_of-second.result

-- each date and time with the text has them
read : (c : goal.After-new) (t : DateTime) → date_time_text t ≡ c.args.text.now → IsRead c t
read c t e =
    let is : IsAt (c.number_of-century.result * 100 + c.number_of-year.result) c.number_of-month.result
    c.number_of-day.result c.number_of-hour.result c.number_of-minute.result c.number_of-second.result t =
    are_of_text c.args.text.now c.number_of-century.result c.number_of-year.result c.number_of-month.result
    c.number_of-day.result c.number_of-hour.result c.number_of-minute.result c.number_of-second.result
    c.number_of-century.ensures c.number_of-year.ensures c.number_of-month.ensures c.number_of-day.ensures
    c.number_of-hour.ensures c.number_of-minute.ensures c.number_of-second.ensures t e in
    record {
      same_year = omega (arith, is.same_year, c.from.ensures, c.from-2.ensures);
      same_month = is.same_month;
      same_day = is.same_day;
      same_hour = is.same_hour;
      same_minute = is.same_minute;
      same_second = is.same_second;
    }

pub returns-clause-some : goal.returns-clause-some
returns-clause-some c =
    IfSome_then c.new.result c.new.ensures.some
    (λ it is. λ t e. same_text (c.from.result * 100 + c.from-2.result) c.number_of-month.result c.number_of-day.result
    c.number_of-hour.result c.number_of-minute.result c.number_of-second.result it t is (read c t e) ∙ e)

pub returns-clause-none : goal.returns-clause-none
returns-clause-none c =
    none_then c.new.result c.new.ensures.none
    (λ wrong. λ t e. true≢false (sym (is_dated (c.from.result * 100 + c.from-2.result) c.number_of-month.result
    c.number_of-day.result c.number_of-hour.result c.number_of-minute.result c.number_of-second.result t (read c t e))
    ∙ wrong))
