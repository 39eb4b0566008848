use Rattle.std.proofs.Common.{◌≡◌, ℕ, ◌==◌, false, take, get_or}
use Rattle.std.specs.List.{list_any}
use Rattle.der_types.proofs.bits.bits_with.Given as goal

abbrev pub invariant-loop-number : goal.invariant-loop-number
invariant-loop-number l = (k : ℕ) → get_or l.bits.items k false ≡ list_any (λ n. k == n) (take l.number-index l.numbers)
