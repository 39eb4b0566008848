use Rattle.std.proofs.Common.{arith}
use Rattle.der_ber.proofs.JoiningLemmas.{appended_none, octets_more, all_octets}
use Rattle.der_ber.proofs.joining.push_octets.Goals as goal

pub loop-part-init : goal.loop-part-init
loop-part-init c = appended_none c.args.parts.now.items

pub loop-part-preserved : goal.loop-part-preserved
loop-part-preserved c =
    octets_more c.args.inside.now c.loop-part.part-index c.part-item.result c.args.parts.now.items
    c.loop-part.parts.items _ c.loop-part.content_len c.in_ok-added.added _ (omega arith) c.part-item.is
    c.loop-part.invariant c.in_ok-added.ensures.ok c.in_ok-content_len.ensures.ok

pub returns-clause-ok : goal.returns-clause-ok
returns-clause-ok c =
    all_octets c.args.inside.now c.loop-part.part-index c.args.parts.now.items c.loop-part.parts.items
    c.loop-part.content_len (omega arith) c.loop-part.invariant
