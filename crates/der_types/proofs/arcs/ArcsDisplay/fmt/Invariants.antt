use Rattle.std.proofs.Common.{◌≡◌, ◌++◌, map}
use Rattle.std.specs.Fmt.{HasWritten, IsPlainFormatter}
use Rattle.der_types.specs.Arcs.{arcs_left}
use Rattle.der_types.specs.Dotted.{fitted}
use Rattle.der_types.proofs.DottedLemmas.{after_points}
use Rattle.der_types.proofs.arcs.ArcsDisplay.fmt.Given as goal

pub record Shows (Written AreLeft : Type 0) : Type 0 where
  pub written : Written
  pub left : AreLeft

-- what is written so far of the arcs after the first one, and that the others are left
abbrev pub invariant-loop-arc : goal.invariant-loop-arc
invariant-loop-arc g l = Shows
    (IsPlainFormatter l.initial.f → HasWritten g.W.Write.write_str_gives l.initial.f (after_points l.yielded) l.f)
    (map fitted (arcs_left l.initial.arc-iterator) ≡ l.yielded ++ map fitted (arcs_left l.arc-iterator))
