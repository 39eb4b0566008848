use Rattle.std.specs.Prelude.{slice_get}
use Rattle.std.proofs.Common.{◌≡◌, ℕ, suc, ◌+◌, ◌<◌, true, false, List, [], ◌∷◌, Some, None, length}
use Rattle.std.proofs.Common.{drop, get_or, refl, sym, ◌∙◌}
use Rattle.std.proofs.Common.{ap, add-one, drop-cons}
use Rattle.std.proofs.lemmas.List.{drop_all}
use Rattle.picky_asn1_der.specs.LaterTags.{is_numbered_from}
use Rattle.picky_asn1_der.specs.LaterTagLaws.{numbered_next, numbered_no_more, empty_not_numbered}
use Rattle.der_elements.specs.Elements.{by_meaning}
use Rattle.der_elements.proofs.later_elements_from.are_numbered_from.Goals as goal

-- what is left from an element on
from_here : {E : Type 0} (es : List E) (i : ℕ) (e : E) → i < length es → e ≡ get_or es i e
    → drop i es ≡ e ∷ drop (i + 1) es
from_here es i e h is = rw add-one (drop-cons es i e h ∙ ap (λ x. x ∷ drop (suc i) es) (sym is))

is_empty : (s : List ℕ) → None ≡ slice_get s 0 → s ≡ []
is_empty [] h = refl
is_empty (b ∷ bs) h = cc

begins : (s : List ℕ) (b : ℕ) → Some b ≡ slice_get s 0 → s ≡ b ∷ drop 1 s
begins [] b h = cc
begins (x ∷ xs) b h = cc

pub loop-element-init : goal.loop-element-init
loop-element-init c = refl

pub returns-in_default : goal.returns-in_default
returns-in_default c =
    let es = c.args.elements.now in
    let i = c.loop-element.element-index in
    let e = c.element-item.result in
    let here = from_here es i e c.loop-element-test.true c.element-item.is in
    let bytes = by_meaning e c.as_bytes.result.now c.as_bytes.ensures.value in
    let none : None ≡ slice_get e.element.0.items 0 = rw (c.in_default.is, bytes) at c.first.ensures.value in
    let left = rw here at c.loop-element.invariant in
    sym (empty_not_numbered (λ e. e.element.0.items) c.loop-element.next e (drop (i + 1) es)
    (is_empty e.element.0.items none))
    ∙ left

pub returns-then-not-is_numbered_from : goal.returns-then-not-is_numbered_from
returns-then-not-is_numbered_from c =
    let es = c.args.elements.now in
    let i = c.loop-element.element-index in
    let e = c.element-item.result in
    let b = c.in-Some.byte.now in
    let here = from_here es i e c.loop-element-test.true c.element-item.is in
    let bytes = by_meaning e c.as_bytes.result.now c.as_bytes.ensures.value in
    let some : Some b ≡ slice_get e.element.0.items 0 = rw (c.in-Some.is, bytes) at c.first.ensures.value in
    let is : is_numbered_from c.loop-element.next b ≡ false =
    sym (rw c.from-tag.ensures at c.is_numbered_from.ensures) ∙ c.if-not-is_numbered_from.true in
    let left = rw here at c.loop-element.invariant in
    sym (numbered_no_more (λ e. e.element.0.items) c.loop-element.next b (drop 1 e.element.0.items) e (drop (i + 1) es)
    (begins e.element.0.items b some) is) ∙ left

pub loop-element-preserved : goal.loop-element-preserved
loop-element-preserved c =
    let es = c.args.elements.now in
    let i = c.loop-element.element-index in
    let e = c.element-item.result in
    let b = c.in-Some.byte.now in
    let here = from_here es i e c.loop-element-test.true c.element-item.is in
    let bytes = by_meaning e c.as_bytes.result.now c.as_bytes.ensures.value in
    let some : Some b ≡ slice_get e.element.0.items 0 = rw (c.in-Some.is, bytes) at c.first.ensures.value in
    let is : is_numbered_from c.loop-element.next b ≡ true =
    sym (rw c.from-tag.ensures at c.is_numbered_from.ensures) ∙ c.if-not-is_numbered_from.false in
    let left = rw here at c.loop-element.invariant in
    rw (c.number-next.ensures, c.from-tag.ensures)
    (sym (numbered_next (λ e. e.element.0.items) c.loop-element.next b (drop 1 e.element.0.items) e (drop (i + 1) es)
    (begins e.element.0.items b some) is) ∙ left)

pub returns : goal.returns
returns c = rw (drop_all c.loop-element.element-index c.args.elements.now c.loop-element-test.false) at
    c.loop-element.invariant
