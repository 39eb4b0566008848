use Rattle.std.proofs.Common.{◌≡◌, true, false, sym, ◌∙◌}
use Rattle.std.proofs.lemmas.Result.{err_from_is_err_and}
use Rattle.picky_der_de.proofs.OtherReads.{others_read, others_refused}
use Rattle.picky_asn1_der.specs.LaterTags.{numbered_below}
use Rattle.picky_asn1_der.specs.LaterTagLaws.{numbered_are_outside, numbered_alike}
use Rattle.picky_asn1_der.proofs.LaterReads.{others_differ}
use Rattle.der_elements.proofs.later_elements_from.LaterElementsFromDeserializeMembers.deserialize_members.Goals as goal

pub returns-in_err-elements-clause-err : goal.returns-in_err-elements-clause-err
returns-in_err-elements-clause-err g c =
    let p = err_from_is_err_and c.from_residual.result c.from_residual.ensures.1 in
    rw (p.1, p.2) (others_refused (λ e. e.element.0.items) (numbered_below g.row.N) (λ it. it.elements.items)
    c.in_err-elements.ensures.err)

pub returns-in-Some-clause-ok : goal.returns-in-Some-clause-ok
returns-in-Some-clause-ok g c =
    let members = c.in-Some.members in
    let read = rw (sym c.in-Some.ensures.some) at c.in_ok-elements.ensures.ok in
    others_read (λ e. e.element.0.items) (numbered_below g.row.N) members.elements.items read
    (numbered_are_outside (λ e. e.element.0.items) g.row.N members.elements.items members.numbered)

pub returns-in-None-clause-err : goal.returns-in-None-clause-err
returns-in-None-clause-err g c =
    let es = c.in_ok-elements.elements.items in
    others_differ (λ e. e.element.0.items) (numbered_below g.row.N) (λ it. it.elements.items) es
    c.in_ok-elements.ensures.ok
    (λ it e.
    let same : true ≡ false = sym it.numbered ∙ numbered_alike (λ e. e.element.0.items) g.row.N it.elements.items es e
    ∙ c.in-None.ensures.none in
    cc) c.refuse.ensures.fails

pub returns-in_err-elements-clause-refused_by : goal.returns-in_err-elements-clause-refused_by
returns-in_err-elements-clause-refused_by g c =
    let p = err_from_is_err_and c.from_residual.result c.from_residual.ensures.1 in
    rw (p.1, p.2) (λ none j bs left k l. tt)

pub returns-in-None-clause-refused_by : goal.returns-in-None-clause-refused_by
returns-in-None-clause-refused_by g c = λ none j bs left k l. tt

pub returns-in-Some-clause-leads : goal.returns-in-Some-clause-leads
returns-in-Some-clause-leads g c = λ none last e by j bs left k l. tt
