use Rattle.der_ber_types.specs.Content.{IsOne}
use Rattle.der_ber_types.proofs.Writing.{appended-only}
use Rattle.der_ber_types.proofs.content.one_in_der.Goals as goal

pub returns-clause-ok : goal.returns-clause-ok
returns-clause-ok c =
    appended-only (IsOne c.args.nodes.now c.args.index c.args.bytes.now) c.in_ok-der.der.items c.push_one.new.der.items
    c.in_ok-der.ensures.items c.in_ok-push_one.ensures.ok
