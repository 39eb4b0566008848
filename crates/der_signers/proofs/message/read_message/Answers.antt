use Rattle.std.proofs.Common.{arith}
use Rattle.der_signers.proofs.Signers.{read_writable}
use Rattle.der_signers.proofs.message.read_message.Goals as goal

pub message_of-requires : goal.message_of-requires
message_of-requires c = read_writable c.args.bytes.now c.args.signed_data.now c.requires (omega arith)

pub message_of_text-requires : goal.message_of_text-requires
message_of_text-requires c = read_writable c.args.bytes.now c.args.signed_data.now c.requires (omega arith)
