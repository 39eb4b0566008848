use Rattle.std.proofs.Common.{◌≡◌, ℕ, ◌<◌, List, length, ◌++◌, take, get_or, sym, ap, ◌∙◌}
use Rattle.std.specs.List.{enumerate_from, flat_map}
use Rattle.der_signers.specs.declared.report.Report.{Report}
use Rattle.der_signers.specs.Printed.{signer_text}
use Rattle.der_signers.proofs.Lists.{numbered_more}
use Rattle.der_signers.proofs.printed.signers_text.Goals as goal

pub loop-index-preserved : goal.loop-index-preserved
loop-index-preserved c =
    let message = c.args.message.now in
    let items = message.reports.items in
    let i = c.loop-index.index in
    let report = c.report-item.result in
    let line : ℕ × Report → List ℕ = λ numbered. signer_text c.args.format c.args.file.now c.args.block message.content
    numbered.0 numbered.1 in
    let same : c.deref-report-items.result.now ≡ items = c.deref-report-items.ensures.value in
    let inside : i < length items = rw (← same) c.loop-index-test.true in
    let is : report ≡ get_or items i report = rw (← same) c.report-item.is in
    c.in_ok-push_str.ensures.bytes
    ∙ (ap (λ text. text ++ c.deref.result.now) c.loop-index.invariant
    ∙ (ap (λ text. flat_map line (enumerate_from 0 (take i items)) ++ text) (c.deref.ensures ∙ c.in_ok-line.ensures)
    ∙ sym (numbered_more line items i report inside is)))
