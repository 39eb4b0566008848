use Rattle.std.proofs.Common.{◌≡◌, ◌-◌, length, take, vec_len}
use Rattle.der_types.specs.BitString.{bits_of}
use Rattle.der_types.proofs.bits.bits_of.Given as goal

abbrev pub decreases-loop-bit : goal.decreases-loop-bit
decreases-loop-bit l = length (bits_of l.content) - vec_len l.bits

abbrev pub invariant-loop-bit : goal.invariant-loop-bit
invariant-loop-bit l = l.bits.items ≡ take (vec_len l.bits) (bits_of l.content)
