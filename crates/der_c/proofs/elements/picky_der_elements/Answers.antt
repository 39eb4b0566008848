use Rattle.std.proofs.Common.{arith, ◌≡◌, ◌∙◌, ap, refl, length, map}
use Rattle.std.proofs.lemmas.List.{length-map}
use Rattle.der_c.specs.Elements.{element_in_c, filled, AreWritten, AreElementsInC}
use Rattle.der_c.proofs.elements.picky_der_elements.Goals as goal

pub returns-in-None : goal.returns-in-None
returns-in-None c =
    let items : c.in-Ok-elements_in_c.listed.items ≡ map element_in_c c.in-Ok.outline.elements.items =
    c.in-Ok-elements_in_c.ensures ∙ ap (map element_in_c) c.deref.ensures.value in
    let lengths : length c.in-Ok-elements_in_c.listed.items ≡ length c.in-Ok.outline.elements.items =
    ap length items ∙ length-map c.in-Ok.outline.elements.items element_in_c in
    let written : AreWritten c.args.elements.now c.fill.new.room c.len-number.result c.in-Ok.outline = record {
      written = c.fill.ensures ∙ ap (filled c.args.elements.now) (c.deref-2.ensures.value ∙ items);
      counted = omega (arith, c.len-number.ensures, lengths, c.in-Ok-elements_in_c.listed.ok);
    } in
    AreElementsInC.all c.in-Ok.outline c.in-Ok.ensures c.in-None.is written refl refl

pub returns : goal.returns
returns c =
    let items : c.in-Ok-elements_in_c.listed.items ≡ map element_in_c c.in-Ok.outline.elements.items =
    c.in-Ok-elements_in_c.ensures ∙ ap (map element_in_c) c.deref.ensures.value in
    let lengths : length c.in-Ok-elements_in_c.listed.items ≡ length c.in-Ok.outline.elements.items =
    ap length items ∙ length-map c.in-Ok.outline.elements.items element_in_c in
    let written : AreWritten c.args.elements.now c.fill.new.room c.len-number.result c.in-Ok.outline = record {
      written = c.fill.ensures ∙ ap (filled c.args.elements.now) (c.deref-2.ensures.value ∙ items);
      counted = omega (arith, c.len-number.ensures, lengths, c.in-Ok-elements_in_c.listed.ok);
    } in
    AreElementsInC.broken c.in-Ok.outline c.in-Some.complaint c.in-Ok.ensures c.in-Some.is written refl
    c.rule_code.ensures
