use Rattle.std.proofs.Common.{sym, ◌∙◌, refl, subst, append-nil}
use Rattle.der_program_base.specs.Lines.{texts}
use Rattle.der_program_base.specs.Boundaries.{IsBoundary, ended, not_ended}
use Rattle.der_program_base.proofs.Sectioning.{begins_after}
use Rattle.der_program_base.proofs.blocks.body_of.Goals as goal

pub returns-in_default : goal.returns-in_default
returns-in_default c =
    let found = rw c.in_default.is at c.split_at_boundary.ensures in
    not_ended (texts c.split_at_boundary.result.0.now) found.0 tt (found.1 ∙ sym (append-nil _)) refl

pub returns-in-Begin : goal.returns-in-Begin
returns-in-Begin c =
    let found = rw c.in-Some.is at c.split_at_boundary.ensures in
    begins_after c.args.lines.now c.split_at_boundary.result.0.now c.args.label.now found.0 c.in-Begin.field-0.now
    (texts c.in-Some.rest.now) found.1 (subst (IsBoundary found.0) c.in-Begin.is found.2) found.3

pub returns-in_ok-decoded-in-End : goal.returns-in_ok-decoded-in-End
returns-in_ok-decoded-in-End c =
    let found = rw c.in-Some.is at c.split_at_boundary.ensures in
    ended (texts c.split_at_boundary.result.0.now) found.0 c.in-End.other.now found.1
    (subst (IsBoundary found.0) c.in-End.is found.2) found.3
    (rw (sym c.eq.ensures ∙ c.if-eq.true) c.in_ok-decoded-in-End.ensures)

pub returns-else-eq : goal.returns-else-eq
returns-else-eq c =
    let found = rw c.in-Some.is at c.split_at_boundary.ensures in
    ended (texts c.split_at_boundary.result.0.now) found.0 c.in-End.other.now found.1
    (subst (IsBoundary found.0) c.in-End.is found.2) found.3 (rw (sym c.eq.ensures ∙ c.if-eq.false) refl)
