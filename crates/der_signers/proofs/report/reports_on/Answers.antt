use Rattle.der_signers.proofs.Values.{zip_more}
use Rattle.der_signers.proofs.report.reports_on.Goals as goal

pub loop-signer-preserved : goal.loop-signer-preserved
loop-signer-preserved c =
    rw c.in_ok-push.ensures.items (zip_more _ c.args.signers.now c.loop-signer.reports.items c.loop-signer.signer-index
    c.signer-item.result c.in_ok-report.report
    c.loop-signer-test.true c.signer-item.is c.loop-signer.invariant c.in_ok-report.ensures.ok)
