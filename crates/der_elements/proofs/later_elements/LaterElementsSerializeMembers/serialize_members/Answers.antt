use Rattle.std.proofs.Common.{refl}
use Rattle.picky_asn1_der.proofs.LaterWrites.{leads_all}
use Rattle.der_elements.proofs.later_elements.LaterElementsSerializeMembers.serialize_members.Goals as goal

pub loop-element-init : goal.loop-element-init
loop-element-init g c = record { same_reference = refl; leads = leads_all g.W.WriteExt _ _ }
