use Rattle.std.proofs.Common.{◌≡◌, ◌++◌}
use Rattle.std.specs.Slice.Iter.{chunks_rest, chunks_size}
use Rattle.der_types.specs.BitString.{octets}
use Rattle.der_types.proofs.bits.push_octets.Given as goal

-- what is written so far, and the bytes of the bits that are left
abbrev pub invariant-loop-chunk : goal.invariant-loop-chunk
invariant-loop-chunk l = (chunks_size l.chunk-iterator ≡ 8)
    × (l.bytes.items ++ octets (chunks_rest l.chunk-iterator) ≡ l.initial.bytes.items ++ octets l.bits)
