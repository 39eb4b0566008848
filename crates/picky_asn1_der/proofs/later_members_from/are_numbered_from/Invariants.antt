use Rattle.std.proofs.Common.{◌≡◌, drop}
use Rattle.picky_asn1_der.specs.LaterTags.{are_numbered_from}
use Rattle.picky_asn1_der.proofs.later_members_from.are_numbered_from.Given as goal

abbrev pub invariant-loop-element : goal.invariant-loop-element
invariant-loop-element l =
    are_numbered_from l.next (λ raw. raw.0.items) (drop l.element-index l.elements)
    ≡ are_numbered_from l.fn.least (λ raw. raw.0.items) l.fn.elements
