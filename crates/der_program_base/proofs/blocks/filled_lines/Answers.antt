use Rattle.std.proofs.Common.{rules, tests, sym, ◌∙◌}
use Rattle.std.proofs.lemmas.Iterator.{YieldsList-from_slice}
use Rattle.std.proofs.lemmas.Iterator.Consumers.{YieldsList-from_filter, count_from_yields_List}
use Rattle.std.proofs.lemmas.List.Sums.{length-filter}
use Rattle.der_program_base.specs.Lines.{is_filled}
use Rattle.der_program_base.proofs.Sectioning.{count_by-map}
use Rattle.der_program_base.proofs.blocks.filled_lines.Goals as goal

pub returns : goal.returns
returns c =
    count_from_yields_List c.filter.result c.count.result c.count.ensures.ran
    (YieldsList-from_filter _ (λ line. is_filled line.now) (YieldsList-from_slice c.args.lines.now cc)
    c.filter.ensures.closure (λ x r q k. search (rules, tests)))
    ∙ length-filter (λ line. is_filled line.now) c.args.lines.now
    ∙ sym (count_by-map is_filled (λ line. line.now) c.args.lines.now)
