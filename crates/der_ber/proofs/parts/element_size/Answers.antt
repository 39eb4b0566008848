use Rattle.std.proofs.Common.{arith}
use Rattle.picky_der_core.specs.ElementLaws.{length-length_octets}
use Rattle.der_ber.proofs.parts.element_size.Goals as goal

pub overflow_add-encoded_len : goal.overflow_add-encoded_len
overflow_add-encoded_len c =
    omega (arith, c.encoded_len.ensures, length-length_octets c.args.content_len (omega arith))
