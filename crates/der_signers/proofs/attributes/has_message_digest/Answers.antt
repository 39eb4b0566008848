use Rattle.der_signers.proofs.Writable.{octets_writable}
use Rattle.der_signers.proofs.attributes.has_message_digest.Goals as goal

pub encoding_of-requires : goal.encoding_of-requires
encoding_of-requires c = octets_writable c.args.digest.now c.requires
