use Rattle.std.proofs.Common.{◌≡◌, drop, map}
use Rattle.picky_der_core.specs.Tree.{trees}
use Rattle.picky_der_ser.specs.Marks.{writing}
use Rattle.picky_der_ser.specs.Sequences.{list_kind}
use Rattle.picky_der_ser.proofs.MemberWrites.{Awaits}
use Rattle.picky_der_ser.proofs.impls.lists.write_items.Given as goal

abbrev pub invariant-loop-item : goal.invariant-loop-item
invariant-loop-item g l = record {
  same_reference : l.seq.ser.ghost_name ≡ l.initial.seq.ser.ghost_name;
  awaits : Awaits (list_kind l.fn.tag) (trees (map g.T.Serialize.meaning (drop l.item-index l.items)))
      (trees (map g.T.Serialize.meaning l.items)) l.fn.ser (writing l.seq.mark l.seq.ser.now);
}
