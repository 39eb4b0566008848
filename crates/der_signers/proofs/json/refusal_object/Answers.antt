use Rattle.der_signers.proofs.NoFloat.{refused_no_float}
use Rattle.der_signers.proofs.json.refusal_object.Goals as goal

pub line_of-requires : goal.line_of-requires
line_of-requires c = rw c.in_ok-value.ensures (refused_no_float c.args.file.now c.args.block c.args.reason.now)
