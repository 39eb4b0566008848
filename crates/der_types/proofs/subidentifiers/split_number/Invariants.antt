use Rattle.std.proofs.Common.{◌≡◌, ◌^◌, ℕ, min, drop}
use Rattle.der_types.specs.Subidentifiers.{numbers_after}
use Rattle.der_types.proofs.subidentifiers.split_number.Given as goal

-- n are the digits so far
abbrev pub invariant-loop-index : goal.invariant-loop-index
invariant-loop-index l = (n : ℕ) × (l.number ≡ min n (2 ^ 65))
    × (numbers_after 0 l.bytes ≡ numbers_after n (drop l.index l.bytes))
