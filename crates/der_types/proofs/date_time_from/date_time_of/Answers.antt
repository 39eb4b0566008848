use Rattle.std.proofs.Common.{rules, ◌≡◌, ap, length, sym, ◌∙◌}
use Rattle.std.specs.Cmp.Rules.{comparing}
use Rattle.der_types.specs.DateTimes.{date_time_text}
use Rattle.der_types.proofs.date_time_from.date_time_of.Goals as goal

pub returns-then-text-ne20-clause-none : goal.returns-then-text-ne20-clause-none
unfolding date_time_text
returns-then-text-ne20-clause-none c = λ t e. c.if-text-ne20.true (sym (ap length e))

pub returns-else-eq-clause-none : goal.returns-else-eq-clause-none
returns-else-eq-clause-none c =
    λ t e. let same : c.text_of.result ≡ c.args.text.now = c.text_of.ensures ∙ c.in_ok-at.ensures.some t e in
    search (rules, comparing, same)
