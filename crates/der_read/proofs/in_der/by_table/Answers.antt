use Rattle.std.proofs.lemmas.Result.{IfOk-weaker}
use Rattle.der_read.specs.BerMessages.{IsBerOf}
use Rattle.der_read.proofs.in_der.by_table.Goals as goal

pub returns-in-Cms-clause-ok : goal.returns-in-Cms-clause-ok
returns-in-Cms-clause-ok c =
    IfOk-weaker c.message_to_der.result _ _ (λ der h. IsBerOf.message _ c.in-Cms.is c.content_types.ensures h)
    c.message_to_der.ensures.ok

pub returns-in_default : goal.returns-in_default
returns-in_default c = record {
  ok = IfOk-weaker c.to_der.result _ _ (λ der h. IsBerOf.value c.args.schema c.in_default.not-Cms c.requires h)
      c.to_der.ensures.ok;
  err = c.to_der.ensures.err;
}
