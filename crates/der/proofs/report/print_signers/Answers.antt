use Rattle.std.proofs.lemmas.Result.{IfOk-weaker}
use Rattle.der.proofs.Reports.{cms_printed}
use Rattle.der.proofs.report.print_signers.Goals as goal

pub returns : goal.returns
returns g c =
    IfOk-weaker c.print_lines.result _ _
    (λ status h. cms_printed c.args.format c.args.source.now c.args.bytes.now c.in_ok-printed.printed status _ _
    c.args.signers.now c.in_ok-printed.ensures.ok h)
    c.print_lines.ensures
