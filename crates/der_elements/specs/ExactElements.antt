-- Types whose values are exactly the well-formed elements.
use Rattle.std.specs.Prelude.{◌≡◌, ℕ, ◌^◌, ◌<◌, List, length}
use Rattle.picky_der_core.specs.Tree.{Tree}
use Rattle.der_types.specs.Denotes.{Denotes}
use Rattle.der_types.specs.Exact.{IsExact, made_exact}
use Rattle.der_types.specs.Notation.{Notation}
use Rattle.der_types.specs.WellFormed.{IsWellFormed}

pub well_formed_exact : {V : Type 0} (bytes : V → List ℕ) → ((v : V) → ∥ IsWellFormed (bytes v) ∥₁)
    → ((s : List ℕ) → ∥ IsWellFormed s ∥₁ → length s < 2 ^ 63 → (v : V) × (bytes v ≡ s))
    → IsExact (Denotes Notation.well-formed-element) (λ v. Tree.raw (bytes v))
well_formed_exact bytes kept whole = made_exact Tree.raw (λ s. ∥ IsWellFormed s ∥₁) bytes (λ v r. kept v)
    (λ s p r h. whole s p h)
