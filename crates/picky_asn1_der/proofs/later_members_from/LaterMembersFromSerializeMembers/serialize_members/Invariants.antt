use Rattle.std.proofs.Common.{◌≡◌, drop, map}
use Rattle.picky_der_ser.specs.SequenceState.{state_of}
use Rattle.picky_der_core.specs.Tree.{Tree, trees}
use Rattle.picky_asn1_der.proofs.LaterWrites.{LeadsTo}
use Rattle.picky_asn1_der.proofs.later_members_from.LaterMembersFromSerializeMembers.serialize_members.Given as goal

abbrev pub invariant-loop-element : goal.invariant-loop-element
invariant-loop-element g l = record {
  same_reference : l.sequence.ser.ghost_name ≡ l.initial.sequence.ser.ghost_name;
  leads : LeadsTo g.W.WriteExt
      (trees (map (λ raw. Tree.raw raw.0.items) (drop l.element-index l.fn.self.elements.items)))
      (trees (map (λ raw. Tree.raw raw.0.items) l.fn.self.elements.items)) (state_of l.initial.sequence)
      (state_of l.sequence);
}
