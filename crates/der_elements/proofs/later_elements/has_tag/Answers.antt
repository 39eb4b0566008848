use Rattle.std.proofs.Common.{◌≡◌, Bool, true, false, refl, sym, ap, ◌∙◌}
use Rattle.std.specs.Prelude.{◌||◌}
use Rattle.picky_der_core.specs.Shape.{contains, firsts_of}
use Rattle.picky_asn1_der.specs.LaterTags.{in_both_forms, other_form}
use Rattle.picky_asn1_der.specs.LaterTagLaws.{in_either_form}
use Rattle.der_elements.proofs.later_elements.has_tag.Goals as goal

not_true : (b : Bool) → (b ≡ true → ⊥) → b ≡ false
not_true true h = absurd (h refl)
not_true false h = refl

pub returns-then-begins_with : goal.returns-then-begins_with
returns-then-begins_with g c =
    let bytes = firsts_of g.A.Alternatives.shapes in
    let tag = c.args.tag in
    let own : contains bytes tag ≡ true = c.begins_with.ensures.0 c.if-begins_with.true in
    let both : contains (in_both_forms bytes) tag ≡ true =
    in_either_form bytes tag ∙ ap (λ b. b || contains bytes (other_form tag)) own in
    (λ h. both, λ h. c.if-begins_with.true)

pub returns-else-begins_with : goal.returns-else-begins_with
returns-else-begins_with g c =
    let bytes = firsts_of g.A.Alternatives.shapes in
    let tag = c.args.tag in
    let not_own : contains bytes tag ≡ false = not_true (contains bytes tag)
    (λ own. let q : false ≡ true = sym c.if-begins_with.false ∙ c.begins_with.ensures.1 own in cc) in
    let same : contains (in_both_forms bytes) tag ≡ contains bytes (other_form tag) =
    in_either_form bytes tag ∙ ap (λ b. b || contains bytes (other_form tag)) not_own in
    let other = rw c.other_form.ensures at c.begins_with-else-begins_with.ensures in
    (λ h. same ∙ other.0 h, λ h. other.1 (sym same ∙ h))
