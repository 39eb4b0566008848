use Rattle.std.proofs.Common.{◌≡◌, true, refl, sym, ◌∙◌, ap}
use Rattle.picky_der_core.specs.Encoding.{der}
use Rattle.picky_der_core.specs.Order.{is_less}
use Rattle.picky_der_de.specs.Order.{is_out_of_order}
use Rattle.picky_der_de.specs.declared.sequence.order.Next.TheVariants.{Kept}
use Rattle.picky_der_de.specs.State.{State}
use Rattle.picky_der_de.specs.SetOrder.{in_order}
use Rattle.picky_der_de.proofs.Contents.{failed_same}
use Rattle.picky_der_de.proofs.SetOrder.{memory_failed, order_failed, kept_follows, failed_uncompared, uncompared}
use Rattle.picky_der_de.proofs.sequence.order.test_order.Goals as goal

pub returns-in_default-clause-err : goal.returns-in_default-clause-err
returns-in_default-clause-err g c =
    let f = c.fail.ensures in
    memory_failed c.args.next.now c.requires.in_set f.fails f.error (failed_same c.args.de.now f.error f.same)

pub returns-in_default-clause-compared : goal.returns-in_default-clause-compared
returns-in_default-clause-compared g c = failed_uncompared c.args.next.now c.fail.ensures.fails

pub is_less_than_last-requires : goal.is_less_than_last-requires
is_less_than_last-requires g c =
    λ q. ap (λ x. is_less x c.args.de.now.seen) (c.deref.ensures.value ∙ c.in-Ok.ensures.ok) ∙ c.requires.compared q

pub returns-then-is_less_than_last-clause-err : goal.returns-then-is_less_than_last-clause-err
returns-then-is_less_than_last-clause-err g c =
    let f = c.fail-then-is_less_than_last.ensures in
    let is : c.deref.result.now ≡ der (g.T.Serialize.meaning c.args.value.now) =
    c.deref.ensures.value ∙ c.in-Ok.ensures.ok in
    order_failed c.args.next.now f.fails f.error (failed_same c.args.de.now f.error f.same)
    (ap (is_out_of_order (in_order c.args.de.now c.args.next.now).last) (sym is)
    ∙ sym c.is_less_than_last.ensures ∙ c.if-is_less_than_last.true)

pub returns-then-is_less_than_last-clause-compared : goal.returns-then-is_less_than_last-clause-compared
returns-then-is_less_than_last-clause-compared g c =
    failed_uncompared c.args.next.now c.fail-then-is_less_than_last.ensures.fails

pub returns-clause-ok : goal.returns-clause-ok
returns-clause-ok g c =
    let is : c.deref.result.now ≡ der (g.T.Serialize.meaning c.args.value.now) =
    c.deref.ensures.value ∙ c.in-Ok.ensures.ok in
    kept_follows c.args.de.now c.args.next.now c.requires.in_set
    (ap (is_out_of_order (in_order c.args.de.now c.args.next.now).last) (sym is)
    ∙ sym c.is_less_than_last.ensures ∙ c.if-is_less_than_last.false)
    (c.set_kept.ensures ∙ ap (λ x. record c.args.de.now { kept = x }) c.in-Ok.ensures.ok)

pub returns-clause-compared : goal.returns-clause-compared
returns-clause-compared g c = uncompared c.set_kept.new.self Kept refl

pub returns-in_default-clause-last : goal.returns-in_default-clause-last
returns-in_default-clause-last g c = ap (λ (z : State). (in_order z c.args.next.now).last) c.fail.ensures.same

pub returns-then-is_less_than_last-clause-last : goal.returns-then-is_less_than_last-clause-last
returns-then-is_less_than_last-clause-last g c =
    ap (λ (z : State). (in_order z c.args.next.now).last) c.fail-then-is_less_than_last.ensures.same
