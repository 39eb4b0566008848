use Rattle.std.proofs.Common.{◌≡◌, drop}
use Rattle.picky_asn1_der.specs.LaterTags.{are_numbered_from}
use Rattle.der_elements.proofs.later_elements_from.are_numbered_from.Given as goal

abbrev pub invariant-loop-element : goal.invariant-loop-element
invariant-loop-element l =
    are_numbered_from l.next (λ e. e.element.0.items) (drop l.element-index l.elements)
    ≡ are_numbered_from l.fn.least (λ e. e.element.0.items) l.fn.elements
