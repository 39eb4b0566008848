use Rattle.der_types.specs.BitStringLaws.{valid-bit_string_content, content-bits_of, bits_of-content, same_bit_strings}
use Rattle.der_types.proofs.laws.bit_strings.Goals as goal

pub returns-clause-made : goal.returns-clause-made
returns-clause-made c = valid-bit_string_content

pub returns-clause-all : goal.returns-clause-all
returns-clause-all c = content-bits_of

pub returns-clause-bits : goal.returns-clause-bits
returns-clause-bits c = bits_of-content

pub returns-clause-one : goal.returns-clause-one
returns-clause-one c = same_bit_strings
