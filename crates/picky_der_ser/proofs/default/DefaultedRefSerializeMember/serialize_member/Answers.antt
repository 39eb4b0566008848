use Rattle.std.proofs.Common.{rules, ◌∙◌, sym}
use Rattle.picky_der_ser.proofs.MembersWrites.{members_leads}
use Rattle.picky_der_ser.proofs.default.DefaultedRefSerializeMember.serialize_member.Goals as goal

pub returns-then-is_default-clause-added : goal.returns-then-is_default-clause-added
returns-then-is_default-clause-added g c =
    rw (sym c.is_default.ensures ∙ c.if-is_default.true) (search rules)

pub returns-clause-added : goal.returns-clause-added
returns-clause-added g c =
    rw (sym c.is_default.ensures ∙ c.if-is_default.false)
    (members_leads g.W.WriteExt c.serialize_element.result _ _ _ c.serialize_element.ensures.added)

pub returns-clause-err : goal.returns-clause-err
returns-clause-err g c =
    rw (sym c.is_default.ensures ∙ c.if-is_default.false) (search rules)
