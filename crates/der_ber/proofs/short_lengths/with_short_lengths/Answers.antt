use Rattle.std.proofs.lemmas.Result.{IfOk-weaker, IfErr-weaker}
use Rattle.der_ber.proofs.Whole.{shortened, none_shortened}
use Rattle.der_ber.proofs.short_lengths.with_short_lengths.Goals as goal

pub returns-clause-ok : goal.returns-clause-ok
returns-clause-ok c =
    IfOk-weaker c.in_der.result _ _ (λ der h. shortened c.args.bytes.now der.items h) c.in_der.ensures.ok

pub returns-clause-none : goal.returns-clause-none
returns-clause-none c =
    IfErr-weaker c.in_der.result _ _ (λ e h other. none_shortened c.args.bytes.now (h other)) c.in_der.ensures.none
