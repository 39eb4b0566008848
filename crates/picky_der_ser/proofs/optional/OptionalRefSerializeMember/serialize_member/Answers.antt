use Rattle.std.proofs.Common.{rules}
use Rattle.picky_der_ser.proofs.MembersWrites.{members_leads}
use Rattle.picky_der_ser.proofs.optional.OptionalRefSerializeMember.serialize_member.Goals as goal

pub returns-in-Some-clause-added : goal.returns-in-Some-clause-added
returns-in-Some-clause-added g c =
    let h = members_leads g.W.WriteExt c.serialize_element.result _ _ _ c.serialize_element.ensures.added in
    search (rules, h)
