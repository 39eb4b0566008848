use Rattle.std.proofs.Common.{sym, ◌∙◌, arith}
use Rattle.der_ber.proofs.JoiningLemmas.{in_more, not_in}
use Rattle.der_ber.proofs.joining.are_in.Goals as goal

pub returns-then-not-is_in : goal.returns-then-not-is_in
returns-then-not-is_in c =
    sym (not_in c.args.segment c.args.inside.now c.loop-part.part-index c.part-item.result (omega arith) c.part-item.is
    c.loop-part.invariant (sym c.is_in.ensures ∙ c.if-not-is_in.true))

pub loop-part-preserved : goal.loop-part-preserved
loop-part-preserved c =
    in_more c.args.segment c.args.inside.now c.loop-part.part-index c.part-item.result (omega arith) c.part-item.is
    c.loop-part.invariant (sym c.is_in.ensures ∙ c.if-not-is_in.false)
