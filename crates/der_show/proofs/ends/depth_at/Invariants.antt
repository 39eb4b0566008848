use Rattle.std.proofs.Common.{◌≡◌, ◌≤◌, length, take}
use Rattle.std.specs.Prelude.{reverse}
use Rattle.der_show.specs.Ends.{without_reached}
use Rattle.der_show.proofs.ends.depth_at.Given as goal

abbrev pub invariant-loop-depth : goal.invariant-loop-depth
invariant-loop-depth l = record {
  within : l.depth ≤ length l.ends;
  same : without_reached l.offset (reverse (take l.depth l.ends)) ≡ without_reached l.offset (reverse l.ends);
}

abbrev pub decreases-loop-depth : goal.decreases-loop-depth
decreases-loop-depth l = l.depth
