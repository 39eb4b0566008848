use Rattle.std.proofs.Common.{sym, ap, ◌∙◌, map}
use Rattle.std.specs.Fmt.{decimal}
use Rattle.der_types.specs.Dotted.{dotted}
use Rattle.der_types.proofs.DottedLemmas.{error_passed_on}
use Rattle.der_types.proofs.OidTexts.{if_err, refuses_parts, refuses_arcs}
use Rattle.der_types.proofs.object_identifier.ObjectIdentifier.from_str.Goals as goal

pub returns-in_err-arcs-clause-err : goal.returns-in_err-arcs-clause-err
returns-in_err-arcs-clause-err c =
    error_passed_on _ _ c.from_residual.ensures.1 (refuses_parts c.args.text.now _ c.in_err-arcs.ensures.err)

pub returns-clause-err : goal.returns-clause-err
returns-clause-err c =
    let same = sym c.deref.ensures.value in
    if_err _ _ c.from_arcs.result (refuses_arcs c.args.text.now c.deref.result.now (c.in_ok-arcs.ensures.ok
    ∙ ap dotted same) (c.in_ok-arcs.ensures.parts ∙ ap (map decimal) same)) c.from_arcs.ensures.err
