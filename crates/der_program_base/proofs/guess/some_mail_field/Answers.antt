use Rattle.std.proofs.Common.{rules, tests, sym, ◌∙◌}
use Rattle.std.proofs.lemmas.Iterator.{YieldsList-from_slice}
use Rattle.std.proofs.lemmas.Iterator.Search.{any_from_yields_List}
use Rattle.der_program_base.specs.Guess.{is_mail_field}
use Rattle.der_program_base.proofs.Sectioning.{list_any-map}
use Rattle.der_program_base.proofs.guess.some_mail_field.Goals as goal

pub returns : goal.returns
returns c =
    any_from_yields_List (λ line. is_mail_field line.now) _ _ c.any.result c.any.ensures.ran
    (YieldsList-from_slice c.args.lines.now cc) (λ x b q k. search (rules, tests))
    ∙ sym (list_any-map is_mail_field (λ line. line.now) c.args.lines.now)
