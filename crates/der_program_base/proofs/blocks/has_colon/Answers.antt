use Rattle.std.proofs.Common.{◌==◌, rules, tests, sym, ◌∙◌}
use Rattle.std.specs.List.{list_any}
use Rattle.std.proofs.lemmas.Iterator.{YieldsList-from_slice}
use Rattle.std.proofs.lemmas.Iterator.Search.{any_from_yields_List}
use Rattle.der_program_base.proofs.Sectioning.{list_any-map}
use Rattle.der_program_base.proofs.blocks.has_colon.Goals as goal

pub returns : goal.returns
returns c =
    any_from_yields_List (λ line. list_any (λ byte. byte == 0x3A) line.now) _ _ c.any.result c.any.ensures.ran
    (YieldsList-from_slice c.args.body.now cc) (λ x b q k. search (rules, tests))
    ∙ sym (list_any-map (λ line. list_any (λ byte. byte == 0x3A) line) (λ line. line.now) c.args.body.now)
