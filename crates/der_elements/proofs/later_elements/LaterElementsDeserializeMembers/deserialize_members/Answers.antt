use Rattle.std.proofs.Common.{sym}
use Rattle.std.proofs.lemmas.Result.{err_from_is_err_and}
use Rattle.picky_der_core.specs.Shape.{firsts_of}
use Rattle.picky_der_de.proofs.LayoutReads.{skips}
use Rattle.picky_der_de.proofs.OtherReads.{look_read, look_refused, others_read, others_refused, others_excluded}
use Rattle.picky_asn1_der.specs.LaterTags.{in_both_forms}
use Rattle.der_elements.proofs.later_elements.LaterElementsDeserializeMembers.deserialize_members.Goals as goal

pub returns-in_err-elements-clause-err : goal.returns-in_err-elements-clause-err
returns-in_err-elements-clause-err g c =
    let p = err_from_is_err_and c.from_residual-in_err-elements.result c.from_residual-in_err-elements.ensures.1 in
    rw (p.1, p.2) (look_refused (skips c.requires.implicit_tag c.in_ok-refuse_excluded.ensures.ok)
    (others_refused (λ e. e.element.0.items) (in_both_forms (firsts_of g.A.Alternatives.shapes))
    (λ it. it.elements.items)
    c.in_err-elements.ensures.err))

pub returns-in-Some-clause-ok : goal.returns-in-Some-clause-ok
returns-in-Some-clause-ok g c =
    let members = c.in-Some.members in
    let read = rw (sym c.in-Some.ensures.some) at c.in_ok-elements.ensures.ok in
    look_read (skips c.requires.implicit_tag c.in_ok-refuse_excluded.ensures.ok)
    (others_read (λ e. e.element.0.items) (in_both_forms (firsts_of g.A.Alternatives.shapes)) members.elements.items
    read
    members.outside)

pub returns-in-None-clause-err : goal.returns-in-None-clause-err
returns-in-None-clause-err g c =
    look_refused (skips c.requires.implicit_tag c.in_ok-refuse_excluded.ensures.ok)
    (others_excluded (λ e. e.element.0.items) (in_both_forms (firsts_of g.A.Alternatives.shapes))
    (λ later. later.elements.items)
    c.in_ok-elements.elements.items c.in_ok-elements.ensures.ok c.in-None.ensures.none c.refuse.ensures.fails)

pub returns-in_err-refuse_excluded-clause-refused_by : goal.returns-in_err-refuse_excluded-clause-refused_by
returns-in_err-refuse_excluded-clause-refused_by g c =
    let p = err_from_is_err_and c.from_residual.result c.from_residual.ensures.1 in
    rw (p.1, p.2) (λ none j bs left k l. tt)

pub returns-in_err-elements-clause-refused_by : goal.returns-in_err-elements-clause-refused_by
returns-in_err-elements-clause-refused_by g c =
    let p = err_from_is_err_and c.from_residual-in_err-elements.result c.from_residual-in_err-elements.ensures.1 in
    rw (p.1, p.2) (λ none j bs left k l. tt)

pub returns-in-None-clause-refused_by : goal.returns-in-None-clause-refused_by
returns-in-None-clause-refused_by g c = λ none j bs left k l. tt

pub returns-in-Some-clause-leads : goal.returns-in-Some-clause-leads
returns-in-Some-clause-leads g c = λ none last e by j bs left k l. tt
