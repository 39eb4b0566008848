use Rattle.std.proofs.Common.{◌≡◌, map}
use Rattle.std.specs.Fmt.{decimal}
use Rattle.der_types.proofs.dotted.arcs_of_text.Given as goal

-- the parts so far are the arcs so far
abbrev pub invariant-loop-part : goal.invariant-loop-part
invariant-loop-part l = (goal.iterator-loop-part).can_next l.part-iterator
    × (goal.iterator-loop-part).is_finite l.part-iterator
    × (map (λ part. part.now) l.yielded ≡ map decimal l.arcs.items)
