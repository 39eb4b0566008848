use Rattle.std.proofs.Common.{◌≡◌, get_or, nat_eq, ◌∙◌, ap}
use Rattle.std.specs.Cmp.Lexicographic.{pointwise}
use Rattle.der_elements.specs.Elements.{element_bytes, by_meaning}
use Rattle.der_signers.proofs.Values.{only_value}
use Rattle.der_signers.proofs.attributes.is_only_value.Goals as goal

pub returns-in-len1 : goal.returns-in-len1
returns-in-len1 c =
    let items = c.args.attribute.now.attr_values.0.items in
    let same : c.as_slice.result.now ≡ items = c.as_slice.ensures.value in
    let is : c.only-item.result ≡ get_or items 0 c.only-item.result =
    c.only-item.is ∙ ap (λ l. get_or l 0 c.only-item.result) same in
    let value = c.only-item.result in
    let bytes : c.as_bytes.result.now ≡ element_bytes value =
    by_meaning value c.as_bytes.result.now c.as_bytes.ensures.value in
    let equal : c.eq.result ≡ pointwise nat_eq (element_bytes value) c.args.value.now =
    c.eq.ensures ∙ ap (λ l. pointwise nat_eq l c.args.value.now) bytes in
    only_value element_bytes items c.only-item.result c.args.value.now c.eq.result
    (rw (← same) c.in-len1.len_at_least) (rw (← same) c.in-len1.len_below) is equal
