use Rattle.std.proofs.Common.{take}
use Rattle.std.specs.List.{AllZip}
use Rattle.std.specs.Option.{option_copied}
use Rattle.der_signers.specs.Report.{IsReport}
use Rattle.der_signers.proofs.report.reports_on.Given as goal

abbrev pub invariant-loop-signer : goal.invariant-loop-signer
invariant-loop-signer l = AllZip (IsReport l.signed_data (option_copied l.content)) (take l.signer-index l.signers)
    l.reports.items
