use Rattle.std.proofs.Common.{◌≡◌, length}
use Rattle.picky_der_core.specs.Writer.{AppendsSoFar}
use Rattle.picky_der_core.proofs.misc.watched.WatchedWriteExt.write_exact.Given as goal

abbrev pub invariant-loop-rest : goal.invariant-loop-rest
invariant-loop-rest g l =
    (l.self.faults ≡ l.initial.self.faults)
    × AppendsSoFar (g.T.Write.contents l.initial.self.inner) (g.T.Write.contents l.self.inner) l.bytes l.rest

abbrev pub decreases-loop-rest : goal.decreases-loop-rest
decreases-loop-rest g l = length l.rest
