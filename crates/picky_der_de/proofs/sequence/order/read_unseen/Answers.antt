use Rattle.std.proofs.Common.{sym, ◌∙◌}
use Rattle.picky_der_de.proofs.SetOrder.{still_last, unseen_compared, member_follows, member_failed, member_refused}
use Rattle.picky_der_de.proofs.SetOrder.{failed_uncompared}
use Rattle.picky_der_de.proofs.sequence.order.read_unseen.Goals as goal

pub test_order-requires-clause-in_set : goal.test_order-requires-clause-in_set
test_order-requires-clause-in_set g c =
    λ none. c.requires.in_set (sym (still_last c.args.de.now c.read_beside.new.de c.args.next.now
    c.read_beside.ensures.seen c.read_beside.ensures.kept) ∙ none)

pub test_order-requires-clause-compared : goal.test_order-requires-clause-compared
test_order-requires-clause-compared g c =
    unseen_compared c.args.next.now c.requires.had_not_failed c.requires.whole c.requires.compared c.in-Ok.ensures.ok
    c.read_beside.ensures.seen

pub returns-in-Ok-test_order-clause-ok : goal.returns-in-Ok-test_order-clause-ok
returns-in-Ok-test_order-clause-ok g c =
    member_follows c.test_order.new.de c.args.next.now _ c.requires.whole c.in-Ok.ensures.ok
    c.read_beside.ensures.seen c.read_beside.ensures.kept
    c.in-Ok-test_order.ensures.ok

pub returns-in-Err-test_order-clause-err : goal.returns-in-Err-test_order-clause-err
returns-in-Err-test_order-clause-err g c =
    member_failed c.test_order.new.de c.args.next.now c.in-Ok.value c.requires.whole c.in-Ok.ensures.ok
    c.read_beside.ensures.seen c.read_beside.ensures.kept
    c.in-Err-test_order.ensures.err

pub returns-in-Err-clause-err : goal.returns-in-Err-clause-err
returns-in-Err-clause-err g c =
    member_refused c.args.next.now c.requires.whole c.in-Err.ensures.err c.in-Err.ensures.refused_by

pub returns-in-Err-clause-compared : goal.returns-in-Err-clause-compared
returns-in-Err-clause-compared g c = failed_uncompared c.args.next.now c.in-Err.ensures.err.fails

pub returns-in-Err-clause-last : goal.returns-in-Err-clause-last
returns-in-Err-clause-last g c =
    still_last c.args.de.now c.read_beside.new.de c.args.next.now c.read_beside.ensures.seen c.read_beside.ensures.kept

pub returns-in-Err-test_order-clause-last : goal.returns-in-Err-test_order-clause-last
returns-in-Err-test_order-clause-last g c =
    c.in-Err-test_order.ensures.last
    ∙ still_last c.args.de.now c.read_beside.new.de c.args.next.now c.read_beside.ensures.seen
    c.read_beside.ensures.kept
