use Rattle.std.proofs.Common.{arith}
use Rattle.picky_der_de.proofs.PlainReads.{bytes_by_index}
use Rattle.picky_der_de.proofs.deserializer.ahead.copied.Goals as goal

pub returns-clause-bytes : goal.returns-clause-bytes
returns-clause-bytes c = bytes_by_index c.args.bytes.now (λ i. omega (arith, c.type_inv.bytes i))
