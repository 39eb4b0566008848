use Rattle.std.proofs.Common.{map, refl, rules}
use Rattle.std.specs.Prelude.{is_err}
use borrow.Author.Tests.{tests}
use Rattle.std.proofs.lemmas.Iterator.Consumers.{YieldsList-from_first}
use Rattle.std.proofs.lemmas.Iterator.Search.{any_from_yields_List}
use Rattle.der_types.specs.Arcs.{arcs_left}
use Rattle.der_types.specs.Dotted.{fitted}
use Rattle.der_json.proofs.contents.has_wide_arc.Goals as goal

pub returns : goal.returns
returns c =
    any_from_yields_List is_err c.any.new.self _ _ c.any.ensures.ran
    (YieldsList-from_first (λ x. x) (λ s. map fitted (arcs_left s)) {s = c.args.arcs} _ refl)
    (λ x b q k. search (rules, tests))
