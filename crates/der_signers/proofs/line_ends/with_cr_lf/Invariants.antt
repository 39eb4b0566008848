use Rattle.std.proofs.Common.{◌≡◌, ◌++◌, drop}
use Rattle.der_signers.specs.LineEnds.{canonical, canonical_after}
use Rattle.der_signers.proofs.line_ends.with_cr_lf.Given as goal

abbrev pub invariant-loop-byte : goal.invariant-loop-byte
invariant-loop-byte l = l.text.items ++ canonical_after l.is_after_cr (drop l.byte-index l.bytes) ≡ canonical l.bytes
