use Rattle.der_types.specs.BitStringLaws.{valid-named_bits, named-bit_string}
use Rattle.der_types.proofs.laws.named_bits.Goals as goal

pub returns-clause-made : goal.returns-clause-made
returns-clause-made c = valid-named_bits

pub returns-clause-all : goal.returns-clause-all
returns-clause-all c = named-bit_string
