use Rattle.std.proofs.Common.{◌<◌, ◌≤◌, length}
use Rattle.der_path.specs.Members.{ArePassed}
use Rattle.der_path.proofs.member.member_at.Given as goal

abbrev pub invariant-loop-after : goal.invariant-loop-after
invariant-loop-after l = record {
  passed : ArePassed l.bytes l.index l.offset l.rest;
  at : l.offset ≤ l.place;
  there : l.place < length l.bytes;
}

abbrev pub decreases-loop-after : goal.decreases-loop-after
decreases-loop-after l = length l.rest
