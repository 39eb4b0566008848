-- The same elements with the lengths of DER.
use Rattle.std.specs.Prelude.{◌≡◌, ◌≤◌, List, ℕ}
use Rattle.der_ber.specs.declared.short_lengths.TheConstants.{MAX_DEPTH}
use Rattle.der_ber.specs.Nodes.{Nodes, encoding, depth}
use Rattle.der_ber.specs.LongLengths.{HasLongLengths}

-- the bytes are elements whose lengths have any form, and the others are the same elements with the lengths of DER
pub record IsShortened (bytes der : List ℕ) : Type 0 where
  pub nodes : Nodes
  pub elements : HasLongLengths nodes bytes
  pub levels : depth nodes ≤ MAX_DEPTH
  pub is : der ≡ encoding nodes

-- no elements with at most so many constructed ones in one another have these bytes
abbrev pub AreNoElements : List ℕ → Type 0
AreNoElements bytes = (nodes : Nodes) → HasLongLengths nodes bytes → depth nodes ≤ MAX_DEPTH → ⊥
