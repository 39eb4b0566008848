use Rattle.std.proofs.Common.{◌++◌, ap, ◌∙◌, refl, sym, subst, rules, IsTrue}
use borrow.Author.Tests.{tests}
use Rattle.picky_der_core.specs.Element.{IsElement}
use Rattle.picky_asn1_der.specs.Parts.{IsHeaderOf}
use Rattle.picky_asn1_der.proofs.PartLemmas.{element_ends, front_is, back_is, front_cut, front_tagged, element_tagged}
use Rattle.picky_asn1_der.proofs.parts.split_element.Goals as goal

pub returns-clause-found : goal.returns-clause-found
returns-clause-found c = λ element rest one is.
    let h = c.in-Some.header in
    let header : IsHeaderOf one.content h =
    c.in-Some.ensures.found one.tag one.content rest (is ∙ ap (λ e. e ++ rest) one.is) in
    let size = element_ends element one.content one.tag h one.is header in (
      c.split_at.ensures.front ∙ front_is element rest c.args.bytes.now _ is size,
      c.split_at.ensures.back ∙ back_is element rest c.args.bytes.now _ is size,
    )

pub returns-then-not-has_short_tag-clause-found : goal.returns-then-not-has_short_tag-clause-found
returns-then-not-has_short_tag-clause-found c = λ element rest one is.
    let short = c.has_short_tag.ensures.1 (element_tagged element rest c.args.bytes.now one is) in
    cc

pub returns-clause-element : goal.returns-clause-element
returns-clause-element c =
    let h = c.in-Some.header in
    let bytes = c.args.bytes.now in
    let front = c.split_at.ensures.front ∙ front_cut bytes h c.in-Some.ensures.is _ refl in
    let short : IsTrue c.has_short_tag.result = search (rules, tests) in
    subst IsElement (sym front) (front_tagged bytes h c.in-Some.ensures.is (c.has_short_tag.ensures.0 short))
