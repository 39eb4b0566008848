use Rattle.std.proofs.Common.{sym, arith}
use Rattle.picky_der_core.specs.BigEndianLaws.{big_endian-zeros}
use Rattle.picky_der_core.specs.LengthLaws.{length-length_octets-short, length-length_octets-long}
use Rattle.picky_der_core.proofs.misc.length.Length.encoded_len.Goals as goal

pub returns-then-len-lt128 : goal.returns-then-len-lt128
returns-then-len-lt128 c = sym (length-length_octets-short c.args.len (omega arith))

pub returns : goal.returns
returns c =
    omega (
      arith,
      length-length_octets-long c.args.len (omega arith),
      big_endian-zeros c.args.len (omega arith) (omega arith),
    )
