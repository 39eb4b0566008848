use Rattle.std.proofs.Common.{refl}
use Rattle.picky_asn1_der.proofs.LaterWrites.{leads_all}
use Rattle.picky_asn1_der.proofs.later_members_from.LaterMembersFromSerializeMembers.serialize_members.Goals as goal

pub loop-element-init : goal.loop-element-init
loop-element-init g c = record { same_reference = refl; leads = leads_all g.W.WriteExt _ _ }
