use Rattle.std.proofs.Common.{subst}
use Rattle.der_read.specs.BerMessages.{IsInDer}
use Rattle.der_read.proofs.from_ber.message_from_ber.Goals as goal

pub accepted-requires : goal.accepted-requires
accepted-requires c = subst (IsInDer c.args.named c.args.bytes.now) c.in-Message.is c.in_ok-der.ensures
