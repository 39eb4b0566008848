use Rattle.std.proofs.Common.{◌∙◌, ap}
use Rattle.der_types.specs.BitString.{is_bit_string}
use Rattle.der_types.specs.BitStringLaws.{valid-bit_string_content}
use Rattle.der_types.proofs.bit_string.BitString.from_bits.Goals as goal

pub invariant_of-result : goal.invariant_of-result
invariant_of-result c =
    record { canonical = ap is_bit_string c.in_ok-content.ensures ∙ valid-bit_string_content c.args.bits.now }
