use Rattle.std.proofs.Common.{rules, sym, ◌∙◌}
use Rattle.std.proofs.lemmas.Iterator.{YieldsList-from_slice}
use Rattle.std.proofs.lemmas.Iterator.Consumers.{YieldsList-from_filter, count_from_yields_List}
use Rattle.std.proofs.lemmas.List.Sums.{length-filter}
use Rattle.der_program_base.proofs.Sectioning.{count_by-map}
use Rattle.der.specs.Request.{is_dash}
use Rattle.der.proofs.request.dashes.Goals as goal

pub returns : goal.returns
returns c =
    count_from_yields_List c.filter.result c.count.result c.count.ensures.ran
    (YieldsList-from_filter _ (λ word. is_dash word.now) (YieldsList-from_slice c.args.words.now cc)
    c.filter.ensures.closure (λ x r q k. search rules))
    ∙ length-filter (λ word. is_dash word.now) c.args.words.now
    ∙ sym (count_by-map is_dash (λ word. word.now) c.args.words.now)
