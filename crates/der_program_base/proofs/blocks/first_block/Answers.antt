use Rattle.std.proofs.Common.{rules, refl, subst}
use Rattle.der_program_base.specs.Lines.{texts}
use Rattle.der_program_base.specs.Boundaries.{IsBoundary}
use Rattle.der_program_base.proofs.Sectioning.{stray_first, begin_first}
use Rattle.der_program_base.proofs.blocks.first_block.Goals as goal

pub returns-in_ok-label-in-End : goal.returns-in_ok-label-in-End
returns-in_ok-label-in-End c =
    let found = rw c.in-Some.is at c.split_at_boundary.ensures in
    stray_first (texts c.split_at_boundary.result.0.now) _ found.1 c.filled_lines-skipped.ensures found.0
    c.in-End.label.now (subst (IsBoundary found.0) c.in-End.is found.2) found.3 (search rules) refl

pub returns-in_ok-label-in-Begin : goal.returns-in_ok-label-in-Begin
returns-in_ok-label-in-Begin c =
    let found = rw c.in-Some.is at c.split_at_boundary.ensures in
    begin_first (texts c.split_at_boundary.result.0.now) _ found.1 c.filled_lines-skipped.ensures found.0
    c.in-Begin.label.now (texts c.in-Some.after.now) (subst (IsBoundary found.0) c.in-Begin.is found.2) found.3
    (search rules) c.in_ok-bytes-in-Begin.ensures
