use Rattle.std.proofs.Common.{◌≡◌, true, false, sym, ap, ◌∙◌}
use Rattle.std.specs.Prelude.{◌||◌}
use Rattle.picky_der_core.specs.Shape.{contains, firsts_of}
use Rattle.picky_der_de.specs.Layouts.{begins_otherwise}
use Rattle.picky_der_de.proofs.OtherReads.{excluded_refused}
use Rattle.picky_asn1_der.specs.LaterTags.{in_both_forms, other_form}
use Rattle.picky_asn1_der.specs.LaterTagLaws.{in_either_form}
use Rattle.der_elements.proofs.later_elements.refuse_excluded.Goals as goal

pub returns-then-has_tag-clause-err : goal.returns-then-has_tag-clause-err
returns-then-has_tag-clause-err g c =
    excluded_refused (in_both_forms (firsts_of g.A.Alternatives.shapes)) c.requires.implicit_tag
    (rw c.in-Ok-Some.field-0-is at c.in-Ok-Some.ensures.tag) (c.has_tag.ensures.0 c.if-has_tag.true)
    c.refuse.ensures.fails

pub returns-else-has_tag-clause-ok : goal.returns-else-has_tag-clause-ok
returns-else-has_tag-clause-ok g c =
    let bytes = firsts_of g.A.Alternatives.shapes in
    let tag = c.in-Ok-Some.tag in
    begins_otherwise tag (rw c.in-Ok-Some.field-0-is at c.in-Ok-Some.ensures.tag) (λ own.
    let both : contains (in_both_forms bytes) tag ≡ true = in_either_form bytes tag
    ∙ ap (λ b. b || contains bytes (other_form tag)) own in
    let q : false ≡ true = sym c.if-has_tag.false ∙ c.has_tag.ensures.1 both in
    cc)
