use Rattle.std.proofs.Common.{◌∙◌, sym, length, inr, lit<}
use Rattle.std.proofs.lemmas.Iterator.Consumers.{YieldsList-turn, YieldsList-end}
use Rattle.std.proofs.lemmas.Iterator.Splits.{YieldsList-from_str_split}
use Rattle.der_types.proofs.DottedLemmas.{refuses_text, error_passed_on}
use Rattle.der_types.proofs.dotted.arcs_of_text.Goals as goal

pub returns-in_err-arc_of_text-clause-err : goal.returns-in_err-arc_of_text-clause-err
returns-in_err-arc_of_text-clause-err c =
    let parts = YieldsList-from_str_split 46 c.args.text.now (lit< tt) (cc) (cc) (cc) in
    let turn = YieldsList-turn parts c.loop-part.yielded _ c.loop-part.yielded_by _ _ c.in-Some.part c.in-Some.is
    c.next.ensures.steps in
    let refused = refuses_text c.args.text.now (length c.loop-part.yielded) c.in-Some.part.now
    c.in_err-arc_of_text.field-0.0 turn.0 turn.1 c.in_err-arc_of_text.ensures.none
    c.in_err-arc_of_text.ensures.err in
    error_passed_on _ _ c.from_residual.ensures.1 (inr refused)

pub returns-clause-parts : goal.returns-clause-parts
returns-clause-parts c =
    let parts = YieldsList-from_str_split 46 c.args.text.now (lit< tt) (cc) (cc) (cc) in
    let all = YieldsList-end parts c.loop-part.yielded _ c.loop-part.yielded_by _ _ c.in-None.is c.next.ensures.steps in
    sym all.0 ∙ c.loop-part.invariant.2
