use Rattle.std.proofs.Common.{◌≡◌, true, rules, sym, ap, ◌∙◌}
use Rattle.picky_der_core.specs.Integer.{is_integer, integer_value, content_within}
use Rattle.picky_der_core.specs.IntegerLaws.{content-value}
use Rattle.picky_der_core.specs.IntLaws.{within-fits, int_error-value, int_error-past}
use Rattle.picky_der_de.proofs.any_integer.int_of.Goals as goal

pub returns-in-Some-clause-ok : goal.returns-in-Some-clause-ok
returns-in-Some-clause-ok g c =
    let bs = c.args.content.now in
    let is : is_integer bs ≡ true = search rules in
    let seen = c.number_of.ensures in
    let fit : g.N.Int.fits (integer_value bs) ≡ true = search rules in
    sym (content-value bs seen.bytes is) ∙ sym (within-fits g.N.Int.fits (integer_value bs) fit)
    ∙ ap (content_within g.N.Int.fits) (sym c.in-Some.ensures.some)

pub returns-in-Some-clause-right : goal.returns-in-Some-clause-right
returns-in-Some-clause-right g c =
    let bs = c.args.content.now in
    let is : is_integer bs ≡ true = search rules in
    let fit : g.N.Int.fits (integer_value bs) ≡ true = search rules in
    int_error-value g.N.Int.fits bs c.number_of.ensures.bytes is fit (g.met.N.Int.narrow (integer_value bs) fit)

pub returns-in-None-clause-fault : goal.returns-in-None-clause-fault
returns-in-None-clause-fault g c =
    let is : is_integer c.args.content.now ≡ true = search rules in
    int_error-past g.N.Int.fits c.args.content.now is c.in-None.ensures.none
