use Rattle.std.proofs.Common.{ap, ◌∙◌}
use Rattle.std.proofs.lemmas.Result.{IfOk-weaker}
use Rattle.der_types.specs.DateTimes.{date_time_text}
use Rattle.der_read.proofs.certificate.time_text.Goals as goal

pub returns-in-UtcTime : goal.returns-in-UtcTime
returns-in-UtcTime c =
    rw c.in-UtcTime.is (IfOk-weaker c.date_time_text.result _ _ (λ text e. e ∙ ap date_time_text c.date_time.ensures)
    c.date_time_text.ensures)

pub returns-in-GeneralTime : goal.returns-in-GeneralTime
returns-in-GeneralTime c =
    let is = rw c.get.ensures.value at c.whole_seconds.ensures in
    rw c.in-GeneralTime.is
    (IfOk-weaker c.date_time_text-in-GeneralTime.result _ _ (λ text e. (c.whole_seconds.result, is, e))
    c.date_time_text-in-GeneralTime.ensures)
