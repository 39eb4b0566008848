use Rattle.std.proofs.Common.{◌≡◌, ◌<◌, ℕ, List, length, take, Some, Result, Ok, Err, OnErr, refl}
use Rattle.picky_der_core.specs.Writer.{AppendsTooFew, Appends-keeps, too_few_none}
use Rattle.picky_der_core.proofs.misc.buf_sink.BufSinkWriteExt.write_exact.Goals as goal

none_written : {T E : Type 0} (r : Result T E) (i j : ℕ) (old new bs : List ℕ) → OnErr r (j ≡ i) → OnErr r (new ≡ old)
    → OnErr r (0 < length bs) → OnErr r (AppendsTooFew (Some (take i old)) (Some (take j new)) bs)
none_written (Ok v) i j old new bs stays same some = tt
none_written (Err e) i j old new bs stays same some =
    too_few_none _ _ bs some (Appends-keeps (Some (take i old)) (Some (take j new)) (rw (stays, same) refl))

pub returns-clause-beginning : goal.returns-clause-beginning
returns-clause-beginning c = none_written c.push.result _ _ _ _ _ c.push.ensures.stays c.push.ensures.nothing
    c.push.ensures.some
