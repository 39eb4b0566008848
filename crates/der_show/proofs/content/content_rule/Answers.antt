use Rattle.std.proofs.Common.{sym, eqb-true}
use Rattle.der_show.proofs.ContentLemmas.{set_rule}
use Rattle.der_show.proofs.content.content_rule.Goals as goal

pub returns-then-eq : goal.returns-then-eq
returns-then-eq c = set_rule c.args.tag c.args.content.now c.are_in_set_order.result c.unless.result
    (eqb-true c.args.tag 49 (sym c.if-eq.ensures)) c.are_in_set_order.ensures c.unless.ensures
