use Rattle.std.proofs.Common.{ap, ◌∙◌}
use Rattle.std.proofs.lemmas.Result.{err_from_is_err_and}
use Rattle.der_ber.specs.Parts.{written}
use Rattle.der_ber.proofs.Whole.{in_der, refused_with, no_elements}
use Rattle.der_ber.proofs.in_der.in_der.Goals as goal

pub returns-in_err-size-clause-err : goal.returns-in_err-size-clause-err
returns-in_err-size-clause-err c =
    let p = err_from_is_err_and c.from_residual.result c.from_residual.ensures.1 in
    rw (p.1, p.2) (refused_with c.args.strings c.args.bytes.now _ c.in_err-size.ensures.err)

pub returns-in_err-size-clause-none : goal.returns-in_err-size-clause-none
returns-in_err-size-clause-none c =
    let p = err_from_is_err_and c.from_residual.result c.from_residual.ensures.1 in
    rw (p.1, p.2) (no_elements c.args.strings c.args.bytes.now _
    (refused_with c.args.strings c.args.bytes.now _ c.in_err-size.ensures.err))

pub returns-clause-ok : goal.returns-clause-ok
returns-clause-ok c =
    in_der c.args.strings c.args.bytes.now c.new-parts.result.items c.read_elements.new.parts.items _ _
    c.new-parts.ensures.items c.in_ok-size.ensures.ok _ (c.in_ok-written.ensures ∙ ap written c.deref.ensures.value)
