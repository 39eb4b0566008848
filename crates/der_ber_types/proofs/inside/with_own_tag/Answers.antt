use Rattle.std.proofs.Common.{rules}
use Rattle.der_ber_types.proofs.InsideLemmas.{own-parts, none-parts}
use Rattle.der_ber_types.proofs.inside.with_own_tag.Goals as goal

pub returns-clause-some : goal.returns-clause-some
returns-clause-some c =
    own-parts c.args.nodes.now c.args.index c.args.own c.args.tag c.in_ok-content_of.field-0 c.in_parts.result
    (search rules) (search rules) c.in_ok-content_of.ensures.some c.in_parts.ensures

pub returns-clause-none : goal.returns-clause-none
returns-clause-none c =
    none-parts c.args.nodes.now c.args.index c.args.own c.args.tag c.in_ok-content_of.field-0 c.in_parts.result
    (search rules) c.in_ok-content_of.ensures.some c.in_parts.ensures
