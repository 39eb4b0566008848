use Rattle.std.proofs.lemmas.Result.{err_from_is_err_and}
use Rattle.picky_der_de.proofs.LayoutReads.{indistinct_refused}
use Rattle.picky_der_de.proofs.MemberRuled.{added_cut_by, added_there_by, added_leads, added_ends}
use Rattle.picky_asn1_der.proofs.AddedReads.{added_none, added_read, added_refused}
use Rattle.picky_asn1_der.proofs.added.AddedDeserializeMembers.deserialize_members.Goals as goal

pub returns-in_err-members-in-Ok-Some-clause-err : goal.returns-in_err-members-in-Ok-Some-clause-err
returns-in_err-members-in-Ok-Some-clause-err g c =
    let p = err_from_is_err_and c.from_residual.result c.from_residual.ensures.1 in
    rw (p.1, p.2) (added_refused g.M.SerializeMembers.members g.M.DeserializeMembers.layout (λ it. it.0)
    c.requires.implicit_tag (rw c.in-Ok-Some.field-0-is at c.in-Ok-Some.ensures.tag)
    c.in_err-members-in-Ok-Some.ensures.err)

pub returns-in_err-members-in-Ok-Some-clause-refused_by : goal.returns-in_err-members-in-Ok-Some-clause-refused_by
returns-in_err-members-in-Ok-Some-clause-refused_by g c =
    let p = err_from_is_err_and c.from_residual.result c.from_residual.ensures.1 in
    rw (p.1, p.2) (added_there_by g.M.DeserializeMembers.facts.rule c.requires.implicit_tag
    (rw c.in-Ok-Some.field-0-is at c.in-Ok-Some.ensures.tag) c.in_err-members-in-Ok-Some.ensures.refused_by)

pub returns-in_ok-members-in-Ok-Some-clause-ok : goal.returns-in_ok-members-in-Ok-Some-clause-ok
returns-in_ok-members-in-Ok-Some-clause-ok g c =
    added_read g.M.DeserializeMembers.layout c.requires.implicit_tag
    (rw c.in-Ok-Some.field-0-is at c.in-Ok-Some.ensures.tag) c.in_ok-members-in-Ok-Some.ensures.ok

pub returns-in_ok-members-in-Ok-Some-clause-leads : goal.returns-in_ok-members-in-Ok-Some-clause-leads
returns-in_ok-members-in-Ok-Some-clause-leads g c =
    added_leads g.M.DeserializeMembers.facts.rule c.requires.implicit_tag
    (rw c.in-Ok-Some.field-0-is at c.in-Ok-Some.ensures.tag) c.in_ok-members-in-Ok-Some.ensures.leads

pub returns-in-Ok-None-clause-ok : goal.returns-in-Ok-None-clause-ok
returns-in-Ok-None-clause-ok g c =
    added_none g.M.DeserializeMembers.layout c.requires.implicit_tag
    (rw c.in-Ok-None.field-0-is at c.in-Ok-None.ensures.none)

pub returns-in-Ok-None-clause-leads : goal.returns-in-Ok-None-clause-leads
returns-in-Ok-None-clause-leads g c =
    added_ends g.M.DeserializeMembers.facts.rule (rw c.in-Ok-None.field-0-is at c.in-Ok-None.ensures.none)

pub returns-in-Err-clause-err : goal.returns-in-Err-clause-err
returns-in-Err-clause-err g c = indistinct_refused c.in-Err.ensures.err c.in-Err.ensures.ahead

pub returns-in-Err-clause-refused_by : goal.returns-in-Err-clause-refused_by
returns-in-Err-clause-refused_by g c =
    added_cut_by g.M.DeserializeMembers.facts.rule c.requires.implicit_tag c.in-Err.ensures.err c.in-Err.ensures.ahead
