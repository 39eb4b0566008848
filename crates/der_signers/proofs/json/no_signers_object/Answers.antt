use Rattle.der_signers.proofs.NoFloat.{no_signers_no_float}
use Rattle.der_signers.proofs.json.no_signers_object.Goals as goal

pub line_of-requires : goal.line_of-requires
line_of-requires c = rw c.in_ok-value.ensures (no_signers_no_float c.args.file.now c.args.block c.args.message.now)
