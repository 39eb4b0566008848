use Rattle.std.proofs.Common.{ap, ◌∙◌, map, string_bytes, codes}
use Rattle.std.proofs.lemmas.Result.{IfOk-weaker}
use Rattle.der_read.specs.Names.{joined, IsAttributeText}
use Rattle.der_read.proofs.Lists.{zip_right}
use Rattle.der_read.proofs.names.step_text.Goals as goal

pub returns : goal.returns
returns c =
    IfOk-weaker c.joined.result _ _
    (λ text e. record {
      texts = map string_bytes c.in_ok-texts.texts.items;
      each = zip_right IsAttributeText string_bytes c.args.attributes.now c.in_ok-texts.texts.items
          c.in_ok-texts.ensures;
      is = e ∙ ap (λ l. joined (codes " + ") (map string_bytes l)) c.deref.ensures.value;
    })
    c.joined.ensures
