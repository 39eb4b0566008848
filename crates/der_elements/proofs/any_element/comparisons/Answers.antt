use Rattle.std.proofs.Common.{◌≡◌, refl, Some, nat_cmp, ap, ◌∙◌}
use Rattle.std.specs.Cmp.{Agrees}
use Rattle.std.specs.Cmp.Lexicographic.{bytes_decides, slice_cmp, slice_partial_cmp, lists_agrees}
use Rattle.std.specs.Hash as fed
use Rattle.picky_der_core.specs.Tree.{Tree}
use Rattle.der_elements.proofs.any_element.comparisons.Goals as goal

pub returns-clause-equal : goal.returns-clause-equal
returns-clause-equal c x y =
    let decides = bytes_decides x.element.0.items y.element.0.items in
    (λ h. ap Tree.raw (decides.0 h), λ e. let same : x.element.0.items ≡ y.element.0.items = cc in decides.1 same)

pub returns-clause-order : goal.returns-clause-order
returns-clause-order c x y a b p q =
    let agree : Agrees (slice_partial_cmp (λ a b. Some (nat_cmp a b))) (slice_cmp nat_cmp) =
    lists_agrees (λ _ _. refl) in
    let first : x.element.0.items ≡ a = cc in
    let second : y.element.0.items ≡ b = cc in
    agree x.element.0.items y.element.0.items
    ∙ (ap (λ s. Some (slice_cmp nat_cmp s y.element.0.items)) first ∙ ap (λ s. Some (slice_cmp nat_cmp a s)) second)

pub returns-clause-hash : goal.returns-clause-hash
returns-clause-hash c it bytes p =
    let same : it.element.0.items ≡ bytes = cc in
    ap (λ s. fed.slice fed.u8 s) same
