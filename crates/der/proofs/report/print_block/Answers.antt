use Rattle.std.proofs.Common.{sym}
use Rattle.std.proofs.lemmas.Result.{IfOk-weaker}
use Rattle.der.proofs.Reports.{prints_after}
use Rattle.der.proofs.report.print_block.Goals as goal

pub returns-in_ok-print_heading-in-Ok : goal.returns-in_ok-print_heading-in-Ok
returns-in_ok-print_heading-in-Ok g c =
    rw (c.in-Ok.is, sym c.as_slice.ensures.value, sym c.deref.ensures.value)
    (IfOk-weaker c.print_message.result _ _ (λ status h. prints_after _ _ _ _ _ c.in_ok-print_heading-in-Ok.ensures h)
    c.print_message.ensures)
