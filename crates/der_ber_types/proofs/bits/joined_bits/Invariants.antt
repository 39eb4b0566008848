use Rattle.std.proofs.Common.{length}
use Rattle.der_ber_types.proofs.BitLemmas.{BitsSoFar}
use Rattle.der_ber_types.proofs.Refusals.{SomeBits}
use Rattle.der_ber_types.proofs.bits.joined_bits.Given as goal

abbrev pub invariant-loop-rest : goal.invariant-loop-rest
invariant-loop-rest l = record {
  so_far : BitsSoFar l.unused l.fn.bytes l.rest l.bits.items;
  left : SomeBits 0 l.fn.bytes → SomeBits l.unused l.rest;
}

abbrev pub decreases-loop-rest : goal.decreases-loop-rest
decreases-loop-rest l = length l.rest
