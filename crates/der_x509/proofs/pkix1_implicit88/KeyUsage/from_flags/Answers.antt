use Rattle.std.proofs.Common.{◌∙◌, ap}
use Rattle.der_types.specs.BitString.{bit_string_content, without_zeros}
use Rattle.der_x509.proofs.by_hand.KeyUsageBits.{bits_listed, flag_in}
use Rattle.der_x509.proofs.pkix1_implicit88.KeyUsage.from_flags.Goals as goal

pub returns-clause-content : goal.returns-clause-content
returns-clause-content c =
    let bits = bits_listed c.args.flags.now c.contains.ensures.value c.contains-2.ensures.value
    c.contains-3.ensures.value c.contains-4.ensures.value c.contains-5.ensures.value c.contains-6.ensures.value
    c.contains-7.ensures.value c.contains-8.ensures.value c.contains-9.ensures.value in
    c.in_ok-from_bits.ensures.ok ∙ ap (λ bits. bit_string_content (without_zeros bits)) bits

pub returns-clause-flags : goal.returns-clause-flags
returns-clause-flags c = flag_in c.args.flags.now (returns-clause-content c)
