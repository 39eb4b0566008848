use Rattle.std.proofs.Common.{ap, ap₂, ◌∙◌, ◌+◌}
use Rattle.der_types.specs.Calendar.{is_date, is_time_of_day}
use Rattle.der_types.specs.TimeContents.{number_at}
use Rattle.der_types.proofs.time_contents.date_time_at.Goals as goal

pub invariant_of-result : goal.invariant_of-result
invariant_of-result c =
    let s = c.requires.stamp in
    let bs = c.args.bytes.now in
    let i = c.args.at in
    record {
      date = ap₂ (is_date c.args.year) c.number_at.ensures.value c.number_at-2.ensures.value ∙ s.date;
      time = ap₂ (λ h mi. is_time_of_day h mi c.number_at-5.result) c.number_at-3.ensures.value
          c.number_at-4.ensures.value ∙ ap (is_time_of_day (number_at bs (i + 4)) (number_at bs (i + 6)))
          c.number_at-5.ensures.value ∙ s.time;
    }
