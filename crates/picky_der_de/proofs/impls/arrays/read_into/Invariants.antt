use Rattle.std.proofs.Common.{◌≡◌, ◌≤◌, length, take}
use Rattle.picky_der_de.specs.SetOrder.{in_order}
use Rattle.picky_der_de.proofs.ListReads.{ReadsFirst}
use Rattle.picky_der_de.proofs.impls.arrays.read_into.Given as goal

abbrev pub invariant-loop-at : goal.invariant-loop-at
invariant-loop-at g l = record {
  first : ReadsFirst g.T.Serialize.meaning g.T.Deserialize.shape
      (in_order l.initial.members.de.now l.initial.members.next) (in_order l.members.de.now l.members.next)
      (take l.at l.slots);
  within : l.at ≤ length l.slots;
  same_length : length l.slots ≡ length l.fn.slots;
  same_reference : l.members.de.ghost_name ≡ l.initial.members.de.ghost_name;
  outer : l.members.outer ≡ l.initial.members.outer;
}
