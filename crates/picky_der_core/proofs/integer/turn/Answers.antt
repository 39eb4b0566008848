use Rattle.std.proofs.Common.{true, get_or, arith}
use Rattle.std.proofs.lemmas.List.Edits.{map_over_more}
use Rattle.std.proofs.lemmas.List.{get_or_default}
use Rattle.picky_der_core.specs.Integer.{turned_byte}
use Rattle.picky_der_core.proofs.integer.turn.Goals as goal

pub loop-byte-preserved : goal.loop-byte-preserved
loop-byte-preserved c =
    map_over_more (turned_byte true) c.args.bytes.now c.loop-byte.bytes c.loop-byte.byte-index
    (get_or c.loop-byte.bytes c.loop-byte.byte-index 0) (omega arith) c.loop-byte.invariant
    (get_or_default c.loop-byte.bytes c.loop-byte.byte-index 0 _ (omega arith))
