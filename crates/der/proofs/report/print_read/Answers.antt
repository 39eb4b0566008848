use Rattle.std.specs.Option.{option_copied}
use Rattle.std.proofs.lemmas.Result.{IfOk-weaker}
use Rattle.der.proofs.Reports.{read_printed}
use Rattle.der.proofs.report.print_read.Goals as goal

pub returns : goal.returns
returns g c =
    IfOk-weaker c.print_lines.result _ _
    (λ status h. read_printed c.args.format c.args.source.now c.args.bytes.now c.in_ok-printed.printed status _ _
    c.args.wanted (option_copied c.args.label) c.in_ok-printed.ensures h)
    c.print_lines.ensures
