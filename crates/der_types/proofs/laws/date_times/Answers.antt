use Rattle.std.proofs.Common.{sym}
use Rattle.der_types.specs.CalendarLaws.{civil_of, time_of, cmp_seconds, same_seconds}
use Rattle.der_types.proofs.laws.date_times.Goals as goal

pub returns-clause-order : goal.returns-clause-order
returns-clause-order c x y =
    sym (cmp_seconds x.year x.month x.day x.hour x.minute x.second y.year y.month y.day y.hour y.minute y.second
    (civil_of x.year x.month x.day x.date) (time_of x.hour x.minute x.second x.time)
    (civil_of y.year y.month y.day y.date) (time_of y.hour y.minute y.second y.time))

pub returns-clause-equality : goal.returns-clause-equality
returns-clause-equality c x y =
    same_seconds x.year x.month x.day x.hour x.minute x.second y.year y.month y.day y.hour y.minute y.second
    (civil_of x.year x.month x.day x.date) (time_of x.hour x.minute x.second x.time)
    (civil_of y.year y.month y.day y.date) (time_of y.hour y.minute y.second y.time)
