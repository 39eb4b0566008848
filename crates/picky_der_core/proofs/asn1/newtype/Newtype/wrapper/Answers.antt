use Rattle.std.proofs.Common.{rules}
use Rattle.picky_der_core.proofs.asn1.newtype.Newtype.wrapper.Goals as goal

pub returns-in-OctetContainer : goal.returns-in-OctetContainer
returns-in-OctetContainer c = search rules
