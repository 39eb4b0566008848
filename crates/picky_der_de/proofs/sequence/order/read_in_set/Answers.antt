use Rattle.std.proofs.Common.{sym}
use Rattle.picky_der_de.proofs.SetOrder.{next_reads, next_still_compared, member_refused, in_order_last}
use Rattle.picky_der_de.proofs.SetOrder.{failed_uncompared}
use Rattle.picky_der_de.proofs.sequence.order.read_in_set.Goals as goal

pub returns-in-Ok-clause-ok : goal.returns-in-Ok-clause-ok
returns-in-Ok-clause-ok g c =
    let n = c.near.ensures in
    next_reads c.args.next.now n.front n.known c.in-Some.ensures c.requires.whole c.in-Ok.ensures.ok
    c.seen_ahead-member.ensures c.set_seen.ensures c.in-InOrder.is c.requires.had_not_failed c.requires.compared n.fits

pub returns-in-Ok-clause-compared : goal.returns-in-Ok-clause-compared
returns-in-Ok-clause-compared g c =
    let n = c.near.ensures in
    next_still_compared c.args.next.now n.front n.known c.in-Some.ensures c.requires.whole c.in-Ok.ensures.ok
    c.seen_ahead-member.ensures c.set_seen.ensures (sym c.until_end.ensures)

pub returns-in-Err-clause-err : goal.returns-in-Err-clause-err
returns-in-Err-clause-err g c =
    member_refused c.args.next.now c.requires.whole c.in-Err.ensures.err c.in-Err.ensures.refused_by

pub returns-in-Err-clause-compared : goal.returns-in-Err-clause-compared
returns-in-Err-clause-compared g c = failed_uncompared c.args.next.now c.in-Err.ensures.err.fails

pub returns-in-Err-clause-last : goal.returns-in-Err-clause-last
returns-in-Err-clause-last g c =
    in_order_last c.args.de.now c.read_aside.new.de c.args.next.now c.in-InOrder.is c.read_aside.ensures.seen
