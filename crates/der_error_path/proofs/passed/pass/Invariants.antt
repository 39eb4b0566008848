use Rattle.std.proofs.Common.{◌≤◌, ◌-◌}
use Rattle.der_error_path.specs.Awaited.{awaited}
use Rattle.der_error_path.specs.Passed.{ArePassedAs}
use Rattle.der_error_path.proofs.passed.pass.Given as goal

abbrev pub invariant-loop-count : goal.invariant-loop-count
invariant-loop-count l = record {
  are : ArePassedAs l.nodes (awaited l.expected) l.content l.count (awaited l.here) l.rest;
  within : l.count ≤ l.most;
}

abbrev pub decreases-loop-count : goal.decreases-loop-count
decreases-loop-count l = l.most - l.count
