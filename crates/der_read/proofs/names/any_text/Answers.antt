use Rattle.std.proofs.Common.{subst, string_bytes}
use Rattle.std.specs.Prelude.{IfOk}
use Rattle.der_elements.specs.Elements.{by_meaning}
use Rattle.der_read.specs.Names.{IsValueText}
use Rattle.der_read.proofs.names.any_text.Goals as goal

pub returns : goal.returns
returns c =
    subst (λ s. IfOk c.value_text.result (λ text. IsValueText s (string_bytes text)))
    (by_meaning c.args.value.now c.as_bytes.result.now c.as_bytes.ensures.value) c.value_text.ensures
