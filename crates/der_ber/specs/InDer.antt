-- What comes of bytes.
use Rattle.std.specs.Prelude.{◌≡◌, ℕ, ◌≤◌, List, ⊤}
use Rattle.der_ber.specs.declared.short_lengths.TheConstants.{MAX_DEPTH}
use Rattle.der_ber.specs.declared.error.BerError.{BerError}
use Rattle.der_ber.specs.declared.error.BerError.TheVariants.{OutOfMemory, Broken}
use Rattle.der_ber.specs.declared.front.Until.TheVariants as until
use Rattle.der_ber.specs.declared.strings.Strings.{Strings}
use Rattle.der_ber.specs.Nodes.{Nodes, encoding, depth}
use Rattle.der_ber.specs.LongLengths.{HasLongLengths}
use Rattle.der_ber.specs.Strings.{HasParts}
use Rattle.der_ber.specs.Fronts.{IsRefused}

-- the bytes are elements whose lengths have any form, and the others are the same with the lengths of DER, and with
-- whole strings if strings are to be whole
pub record IsInDer (strings : Strings) (bytes der : List ℕ) : Type 0 where
  pub nodes : Nodes
  pub elements : HasLongLengths nodes bytes
  pub levels : depth nodes ≤ MAX_DEPTH
  pub whole : Nodes
  pub has_parts : HasParts strings nodes whole
  pub is : der ≡ encoding whole

-- the error has the first element that breaks a rule, at its index
abbrev pub IsRefusedWith : Strings → List ℕ → BerError → Type 0
IsRefusedWith strings bytes OutOfMemory = ⊤
IsRefusedWith strings bytes (Broken position r) = IsRefused until.End strings MAX_DEPTH bytes position r

-- no elements with at most so many constructed ones in one another have these bytes
abbrev pub AreNoneWith : Strings → List ℕ → Type 0
AreNoneWith strings bytes =
    (nodes whole : Nodes) → HasLongLengths nodes bytes → HasParts strings nodes whole → depth nodes ≤ MAX_DEPTH → ⊥
