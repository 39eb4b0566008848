use Rattle.std.proofs.Common.{arith}
use Rattle.picky_der_core.proofs.DigitLaws.{bytes_by_index}
use Rattle.der_json.proofs.laws.are_bytes.Goals as goal

pub returns : goal.returns
returns c = bytes_by_index c.args.bytes.now (λ i. omega (arith, c.type_inv.bytes i))
