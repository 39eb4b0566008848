use Rattle.std.proofs.Common.{◌≡◌, ℕ, List, [], Option, Some, None, IfNone, take, ap, ◌∙◌, arith}
use Rattle.std.proofs.lemmas.Grind.{common_steps}
use Rattle.picky_der_de.proofs.deserializer.ahead.near.Goals as goal

take_nothing : (n : ℕ) → take {A = ℕ} n [] ≡ []
take_nothing n = grind (arith, common_steps)

none_near : (i : Option (List ℕ)) (n : ℕ) (all : List ℕ) → IfNone i (all ≡ []) → IfNone i (take n all ≡ [])
none_near None n all none = ap (take n) none ∙ take_nothing n
none_near (Some x) n all none = tt

pub returns-clause-known : goal.returns-clause-known
returns-clause-known g c = none_near _ _ c.ahead-ahead.result.now c.ahead-ahead.ensures.known
