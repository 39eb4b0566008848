-- The contents of an OBJECT IDENTIFIER (X.690, 8.19).
use Rattle.std.specs.Prelude.{◌≡◌, ◌≢◌, ◌⊎◌, ℕ, ◌+◌, ◌-◌, ◌*◌, ◌/◌, ◌%◌, Bool, true, false, not, ◌&&◌, ◌||◌, ◌==◌}
use Rattle.std.specs.Prelude.{nat_lt, Option, Some, None, List, [], ◌∷◌, if◌then◌else◌}
use Rattle.der_types.specs.declared.oid_error.OidError.{OidError}
use Rattle.der_types.specs.declared.oid_error.OidError.TheVariants.{TooFewArcs, FirstArc, SecondArc}
use Rattle.der_types.specs.Dotted.{dotted, AreFitting, RefusesText}
use Rattle.der_types.specs.Subidentifiers.{subidentifiers, is_subidentifiers, numbers_after}

-- one number at least
abbrev pub is_object_identifier : List ℕ → Bool
is_object_identifier bs = is_subidentifiers bs

-- the first two arcs are one number (8.19.4)
abbrev pub object_identifier_content : List ℕ → List ℕ
object_identifier_content (x ∷ y ∷ arcs) = subidentifiers ((40 * x + y) ∷ arcs)
object_identifier_content _ = []

-- two at least; the first is 0, 1 or 2, and below 2 the second is below 40
abbrev pub are_arcs : List ℕ → Bool
are_arcs (x ∷ y ∷ arcs) = nat_lt x 2 && nat_lt y 40 || x == 2
are_arcs _ = false

-- the first number is two arcs (8.19.4, note)
abbrev pub arcs_of_numbers : List ℕ → List ℕ
arcs_of_numbers [] = []
arcs_of_numbers (n ∷ ns) = if nat_lt n 80 then (n / 40) ∷ (n % 40) ∷ ns else 2 ∷ (n - 80) ∷ ns

-- the arcs of a content
abbrev pub arcs_of : List ℕ → List ℕ
arcs_of bs = arcs_of_numbers (numbers_after 0 bs)

-- why these are no arcs, if they aren't
abbrev pub arcs_error : List ℕ → Option OidError
arcs_error (x ∷ y ∷ arcs) = if nat_lt 2 x then Some FirstArc else if nat_lt x 2 && not (nat_lt y 40) then Some SecondArc
    else None
arcs_error _ = Some TooFewArcs

-- arcs that fit 64 bits, but aren't the arcs of an object identifier
pub record RefusesArcs (arcs : List ℕ) (e : OidError) : Type 0 where
  pub fitting : AreFitting arcs
  pub refused : are_arcs arcs ≡ false
  pub error : arcs_error arcs ≡ Some e

-- ---- texts

-- the content is that of the arcs that the text has
pub record IsText (text content : List ℕ) : Type 0 where
  pub arcs : List ℕ
  pub valid : are_arcs arcs ≡ true
  pub written : text ≡ dotted arcs
  pub encoded : content ≡ object_identifier_content arcs

-- the text has no arcs of an object identifier that fit 64 bits, since a part isn't an arc that fits, or these are no
-- such arcs
pub record RefusesOidText (text : List ℕ) (e : OidError) : Type 0 where
  pub none : (arcs : List ℕ) → are_arcs arcs ≡ true → AreFitting arcs → text ≢ dotted arcs
  pub reason : RefusesText text e ⊎ ((arcs : List ℕ) × (text ≡ dotted arcs) × RefusesArcs arcs e)
