use Rattle.std.proofs.Common.{rules, map, refl, subst, arith}
use Rattle.std.proofs.lemmas.Result.{err_from_is_err_and}
use Rattle.picky_der_core.specs.Tree.{trees}
use Rattle.picky_der_ser.specs.Marks.{writing}
use Rattle.picky_der_ser.specs.Sequences.{list_kind}
use Rattle.picky_der_ser.proofs.MemberWrites.{Awaits, list_opened_by, list_gained, list_refused, list_wrote}
use Rattle.picky_der_ser.proofs.MemberWrites.{list_failed, list_untouched, item_at, items_end}
use Rattle.picky_der_ser.proofs.impls.lists.write_items.Goals as goal

pub loop-item-init : goal.loop-item-init
loop-item-init g c = record {
  same_reference = refl;
  awaits = list_opened_by g.W.WriteExt c.args.tag (trees (map g.T.Serialize.meaning c.args.items.now)) c.args.ser.now
      (writing c.serialize_lazy-seq.result.mark c.serialize_lazy-seq.result.ser.now) c.requires
      c.serialize_lazy-seq.ensures.opened;
}

pub returns-in_err-serialize_element-clause-failed :
    goal.returns-in_err-serialize_element-clause-failed
returns-in_err-serialize_element-clause-failed g c =
    let xs = c.args.items.now in
    let i = c.loop-item.item-index in
    let m = g.T.Serialize.meaning in
    let next = item_at m xs i c.item-item.result (omega (arith, c.loop-item-test.true)) c.item-item.is in
    let all = trees (map m xs) in
    let a = subst (λ us. Awaits (list_kind c.args.tag) us all c.args.ser.now
    (writing c.loop-item.seq.mark c.loop-item.seq.ser.now)) next
    c.loop-item.invariant.awaits in
    let p = err_from_is_err_and c.from_residual.result c.from_residual.ensures.1 in
    let last = c.serialize_element.new.self in
    let h = list_refused g.W.WriteExt (list_kind c.args.tag) _ all _ c.args.ser.now
    (writing c.loop-item.seq.mark c.loop-item.seq.ser.now) (writing last.mark last.ser.now) last.ser.now
    c.in_err-serialize_element.field-0.0 c.in_err-serialize_element.field-0.0 c.in_err-serialize_element.ensures.err
    refl refl refl a in
    rw (p.1, p.2) (search (rules, h))

pub loop-item-preserved : goal.loop-item-preserved
loop-item-preserved g c =
    let xs = c.args.items.now in
    let i = c.loop-item.item-index in
    let m = g.T.Serialize.meaning in
    let next = item_at m xs i c.item-item.result (omega (arith, c.loop-item-test.true)) c.item-item.is in
    let all = trees (map m xs) in
    let a = subst (λ us. Awaits (list_kind c.args.tag) us all c.args.ser.now
    (writing c.loop-item.seq.mark c.loop-item.seq.ser.now)) next
    c.loop-item.invariant.awaits in
    record {
      same_reference = cc (c.in_ok-serialize_element.ensures.same_reference, c.loop-item.invariant.same_reference);
      awaits = list_gained g.W.WriteExt (list_kind c.args.tag) _ all _ _ _ _ c.in_ok-serialize_element.ensures.added a;
    }

pub returns : goal.returns
returns g c =
    let w = g.W.WriteExt in
    let kind = list_kind c.args.tag in
    let xs = c.args.items.now in
    let m = g.T.Serialize.meaning in
    let all = trees (map m xs) in
    let past = items_end m xs c.loop-item.item-index (omega (arith, c.loop-item-test.false)) in
    let a = subst (λ us. Awaits kind us all c.args.ser.now (writing c.loop-item.seq.mark c.loop-item.seq.ser.now)) past
    c.loop-item.invariant.awaits in
    let wrote = list_wrote w kind all _ _ _ c.end.result c.end.ensures a in
    let failed = list_failed w kind all _ _ _ c.end.result c.end.ensures a in
    let untouched = list_untouched w kind all _ _ _ c.end.result c.end.ensures a in
    record {
      wrote = search (rules, wrote);
      failed = search (rules, failed);
      untouched = search (rules, untouched);
      counted = grind (arith, a);
      continues = grind (arith, a);
    }
