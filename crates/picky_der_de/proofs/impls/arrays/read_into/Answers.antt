use Rattle.std.proofs.Common.{rules, ◌∙◌, ◌<◌, length, take, refl, subst, arith}
use Rattle.std.proofs.lemmas.List.{take_more_set, take_all, length-set, length-take-le}
use Rattle.std.proofs.lemmas.Result.{IfErr-weaker, on_ok_weaker}
use Rattle.picky_der_de.specs.SetOrder.{in_order}
use Rattle.picky_der_de.proofs.PassedOn.{refusal_passed_on, reads_at, refuses_at}
use Rattle.picky_der_de.proofs.Rests.{reads_members}
use Rattle.picky_der_de.proofs.ListReads.{ReadsFirst, first_none, first_more, first_all, first_refused, first_left}
use Rattle.picky_der_de.proofs.ListReads.{array_unopened, array_refused}
use Rattle.picky_der_de.proofs.impls.arrays.read_into.Goals as goal

pub returns-in_err-members-clause-err : goal.returns-in_err-members-clause-err
returns-in_err-members-clause-err g c =
    refusal_passed_on _ c.from_residual.ensures.1 refl (array_unopened g.T.Serialize.meaning (length c.args.slots.now)
    g.T.Deserialize.shape (rw c.in_err-members.was at c.deserialize_seq.follows.holds-at-none))

pub loop-at-init : goal.loop-at-init
loop-at-init g c = record {
  first = first_none g.T.Serialize.meaning g.T.Deserialize.shape _ (search rules) (search rules) (search rules);
  within = search rules;
  same_length = refl;
  same_reference = refl;
  outer = refl;
}

pub returns-in_err-slots-clause-err : goal.returns-in_err-slots-clause-err
returns-in_err-slots-clause-err g c =
    let i = c.loop-at.invariant in
    let l = length-take-le c.loop-at.at c.loop-at.slots i.within in
    let h = first_refused (length c.args.slots.now) _ i.first (omega (arith, l, i.same_length, c.loop-at-test.true))
    c.in_err-slots.ensures.err in
    refusal_passed_on _ c.from_residual-in_err-slots.ensures.1 (search rules)
    (array_refused g.T.Serialize.meaning (length c.args.slots.now) g.T.Deserialize.shape c.in_ok-members.ensures.ok
    h)

pub loop-at-preserved : goal.loop-at-preserved
loop-at-preserved g c =
    let i = c.loop-at.invariant in
    let less : c.loop-at.at < length c.loop-at.slots = omega (arith, i.same_length, c.loop-at-test.true) in
    let h = first_more g.T.Serialize.meaning g.T.Deserialize.shape (take c.loop-at.at c.loop-at.slots)
    c.in_ok-slots.field-0 i.first c.in_ok-slots.ensures.ok in
    let long = length-set c.loop-at.slots c.loop-at.at c.in_ok-slots.field-0 in
    record {
      first = rw (take_more_set c.loop-at.slots c.loop-at.at c.in_ok-slots.field-0 less) h;
      within = omega (arith, long, less);
      same_length = long ∙ i.same_length;
      same_reference = c.in_ok-slots.ensures.same_reference ∙ i.same_reference;
      outer = c.in_ok-slots.ensures.outer ∙ i.outer;
    }

pub returns-clause-ok : goal.returns-clause-ok
returns-clause-ok g c =
    let i = c.loop-at.invariant in
    let all = take_all c.loop-at.at c.loop-at.slots (omega (arith, i.same_length, c.loop-at-test.false)) in
    let first =
    subst (ReadsFirst g.T.Serialize.meaning g.T.Deserialize.shape
    (in_order c.in_ok-members.members.de.now c.in_ok-members.members.next)
    (in_order c.loop-at.members.de.now c.loop-at.members.next)) all i.first in
    let row = first_all g.T.Serialize.meaning g.T.Deserialize.shape (length c.args.slots.now) c.loop-at.slots
    i.same_length first in
    on_ok_weaker c.end.result (λ k. reads_at (reads_members c.in_ok-members.ensures.ok row k i.outer) (search rules))
    c.end.ensures.ok

pub returns-clause-err : goal.returns-clause-err
returns-clause-err g c =
    let i = c.loop-at.invariant in
    let all = take_all c.loop-at.at c.loop-at.slots (omega (arith, i.same_length, c.loop-at-test.false)) in
    let first =
    subst (ReadsFirst g.T.Serialize.meaning g.T.Deserialize.shape
    (in_order c.in_ok-members.members.de.now c.in_ok-members.members.next)
    (in_order c.loop-at.members.de.now c.loop-at.members.next)) all i.first in
    IfErr-weaker c.end.result _ _
    (λ e k. refuses_at (array_refused g.T.Serialize.meaning (length c.args.slots.now) g.T.Deserialize.shape
    c.in_ok-members.ensures.ok (first_left (length c.args.slots.now) c.loop-at.slots i.same_length first k.fails
    (k.left first.consumes.not_failed).0)) (search rules)) c.end.ensures.err
