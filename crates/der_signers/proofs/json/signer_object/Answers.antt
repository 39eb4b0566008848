use Rattle.der_signers.proofs.NoFloat.{signer_no_float}
use Rattle.der_signers.proofs.json.signer_object.Goals as goal

pub line_of-requires : goal.line_of-requires
line_of-requires c =
    rw c.in_ok-value.ensures (signer_no_float c.args.file.now c.args.block c.args.content c.args.index
    c.args.report.now)
