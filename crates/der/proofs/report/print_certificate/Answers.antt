use Rattle.std.proofs.lemmas.Result.{IfOk-weaker}
use Rattle.der.proofs.Reports.{certificates_printed}
use Rattle.der.proofs.report.print_certificate.Goals as goal

pub returns : goal.returns
returns g c =
    IfOk-weaker c.print_lines.result _ _
    (λ status h. certificates_printed c.args.format c.args.source.now c.args.bytes.now c.in_ok-printed.printed status _
    _ c.in_ok-printed.ensures h)
    c.print_lines.ensures
