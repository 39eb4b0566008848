use Rattle.std.specs.Option.{option_copied}
use Rattle.std.proofs.lemmas.Result.{IfOk-weaker}
use Rattle.der.proofs.Reports.{printed_in_ber, printed_in_der}
use Rattle.der.proofs.report.print_message.Goals as goal

pub returns-in-Some : goal.returns-in-Some
returns-in-Some g c =
    IfOk-weaker c.print_in_ber.result _ _
    (λ status h. printed_in_ber c.args.request.now c.args.view c.args.source.now (option_copied c.args.label)
    c.args.bytes.now status _ _ c.in-Some.named c.in-Some.is h)
    c.print_in_ber.ensures

pub returns-in-None : goal.returns-in-None
returns-in-None g c =
    IfOk-weaker c.print_in_der.result _ _
    (λ status h. printed_in_der c.args.request.now c.args.view c.args.source.now (option_copied c.args.label)
    c.args.bytes.now status _ _ c.in-None.is h)
    c.print_in_der.ensures
