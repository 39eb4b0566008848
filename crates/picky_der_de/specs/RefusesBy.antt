-- Reads that are refused as a rule says, by the bytes alone.
use Rattle.std.specs.Prelude.{◌≡◌, List, ℕ, Bool, Option, Some, ⊤}
use Rattle.picky_der_core.specs.declared.error.Asn1DerError.{Asn1DerError}
use Rattle.picky_der_de.specs.State.{State}
use Rattle.picky_der_de.specs.Steps.{IsJudged, is_hard}

-- Where a value is read: whether the innermost end is a hard one, how many bytes ahead it is, and the number of the
-- implicit tag directly under which the value is.
pub record Spot : Type 0 where
  pub hard : Bool
  pub ahead : ℕ
  pub implicit_tag : Option ℕ

-- these bytes of the input are refused at this spot, with this error, and these are left
abbrev pub Rule : Type 1
Rule = Spot → List ℕ → Asn1DerError → List ℕ → Type 0

-- nothing is said
abbrev pub unsaid : Rule
unsaid at bs e left = ⊤

-- where the next value is
abbrev pub spot_of : State → Spot
spot_of s = record { hard = is_hard s.end; ahead = s.until_end; implicit_tag = s.implicit_tag }

-- known bytes were refused as the rule says
abbrev pub RefusesBy : Rule → State → State → Asn1DerError → Type 0
RefusesBy rule old new e = IsJudged old new e → (bs left : List ℕ) → old.input ≡ Some bs → new.input ≡ Some left
    → rule (spot_of old) bs e left
