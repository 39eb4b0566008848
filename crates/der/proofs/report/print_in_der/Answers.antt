use Rattle.std.proofs.lemmas.Result.{IfOk-weaker}
use Rattle.der.specs.Report.{IsDerPrinted}
use Rattle.der.proofs.Reports.{prints_as}
use Rattle.der.proofs.report.print_in_der.Goals as goal

pub returns-in-Show : goal.returns-in-Show
returns-in-Show g c =
    IfOk-weaker c.print_shown.result _ _
    (λ status h. prints_as _ _ _ _ (λ text p. IsDerPrinted.show c.in-Show.options c.in-Show.is p) h)
    c.print_shown.ensures

pub returns-in-Read : goal.returns-in-Read
returns-in-Read g c =
    IfOk-weaker c.print_read.result _ _
    (λ status h. prints_as _ _ _ _ (λ text p. IsDerPrinted.read c.in-Read.wanted c.in-Read.is p) h)
    c.print_read.ensures

pub returns-in-Cms : goal.returns-in-Cms
returns-in-Cms g c =
    IfOk-weaker c.print_signers.result _ _
    (λ status h. prints_as _ _ _ _ (λ text p. IsDerPrinted.cms c.in-Cms.signers c.in-Cms.is p) h)
    c.print_signers.ensures
