use Rattle.std.proofs.Common.{◌++◌, List, ℕ, drop}
use Rattle.der_ber_types.specs.Reordered.{AreReordered}
use Rattle.der_ber_types.proofs.sets.in_member_order.Given as goal

-- what is made of the rest completes it
abbrev pub invariant-loop-member : goal.invariant-loop-member
invariant-loop-member l =
    (others : List ℕ) → AreReordered l.nodes (drop l.member-index l.members) l.rest.items others
    → AreReordered l.nodes l.members l.bytes (l.ordered.items ++ others)
