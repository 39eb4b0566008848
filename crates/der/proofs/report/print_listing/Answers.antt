use Rattle.der.proofs.Reports.{listing_printed}
use Rattle.der.proofs.report.print_listing.Goals as goal

pub returns : goal.returns
returns g c = listing_printed c.args.form.now c.args.options.now c.args.bytes.now c.in_ok-shown.shown _ _ _
    c.in_ok-shown.ensures.ok c.status_of.ensures
