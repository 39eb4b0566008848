use Rattle.std.proofs.Common.{◌≡◌, true, ◌++◌, take, drop}
use Rattle.picky_der_core.specs.Integer.{turned_if}
use Rattle.picky_der_core.proofs.integer.turn.Given as goal

abbrev pub invariant-loop-byte : goal.invariant-loop-byte
invariant-loop-byte l = l.bytes ≡ turned_if true (take l.byte-index l.initial.bytes)
    ++ drop l.byte-index l.initial.bytes
