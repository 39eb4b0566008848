use Rattle.std.proofs.Common.{arith}
use Rattle.der_types.specs.BitStringLaws.{length-bits_of-content}
use Rattle.der_types.proofs.bits.len_of.Goals as goal

pub returns-in-len1-up : goal.returns-in-len1-up
returns-in-len1-up c =
    let count = length-bits_of-content c.args.content.now c.requires in
    omega (arith, count.1)
