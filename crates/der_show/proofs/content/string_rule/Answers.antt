use Rattle.std.proofs.Common.{◌∙◌, sym}
use Rattle.der_show.proofs.ContentLemmas.{text_tested, text_rule}
use Rattle.der_show.proofs.content.string_rule.Goals as goal

pub returns-in-12 : goal.returns-in-12
returns-in-12 c =
    let tested = text_tested _ _ c.args.content.now c.from_utf8.result c.from_utf8.ensures.cases in
    c.unless.ensures ∙ text_rule c.args.tag c.args.content.now c.is_ok.result (sym c.inner.ensures ∙ c.in-12.is)
    (c.is_ok.ensures.value ∙ tested)
