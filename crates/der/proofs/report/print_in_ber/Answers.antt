use Rattle.std.proofs.Common.{subst}
use Rattle.std.specs.Option.{option_copied}
use Rattle.std.proofs.lemmas.Result.{IfOk-weaker}
use Rattle.der_read.specs.BerPrinted.{IsReadBer}
use Rattle.der.proofs.Reports.{ber_printed, no_ber_printed}
use Rattle.der.proofs.report.print_in_ber.Goals as goal

pub returns-in_ok-write_exact-in-Message : goal.returns-in_ok-write_exact-in-Message
returns-in_ok-write_exact-in-Message g c =
    let r = c.args.request.now in
    let source = c.args.source.now in
    let is =
    subst (IsReadBer r.format source.file.now source.block c.args.named c.args.bytes.now) c.in-Message.is
    c.in_ok-line.ensures in
    let line = rw c.as_bytes.ensures.value at c.in_ok-write_exact-in-Message.ensures.appends in
    IfOk-weaker c.print_in_der.result _ _
    (λ status h. ber_printed r c.args.view source (option_copied c.args.label) c.args.named c.args.bytes.now status
    _ _ _ _ _ is line h)
    (rw c.deref.ensures.value at c.print_in_der.ensures)

pub returns-in-Refused : goal.returns-in-Refused
returns-in-Refused g c =
    let r = c.args.request.now in
    let source = c.args.source.now in
    let is =
    subst (IsReadBer r.format source.file.now source.block c.args.named c.args.bytes.now) c.in-Refused.is
    c.in_ok-line.ensures in
    IfOk-weaker c.print_lines.result _ _
    (λ status h. no_ber_printed r c.args.view source (option_copied c.args.label) c.args.named c.args.bytes.now status
    c.in-Refused.printed _ _ is h)
    c.print_lines.ensures
