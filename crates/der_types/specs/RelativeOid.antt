-- The contents of a RELATIVE-OID (X.690, 8.20).
use Rattle.std.specs.Prelude.{◌≡◌, ℕ, Bool, true, false, List, [], ◌∷◌}
use Rattle.der_types.specs.Dotted.{dotted}
use Rattle.der_types.specs.Subidentifiers.{subidentifiers, is_subidentifiers}

-- one number at least
abbrev pub is_relative_oid : List ℕ → Bool
is_relative_oid bs = is_subidentifiers bs

-- each arc is a number (8.20.4)
abbrev pub relative_oid_content : List ℕ → List ℕ
relative_oid_content arcs = subidentifiers arcs

-- one at least
abbrev pub are_relative_arcs : List ℕ → Bool
are_relative_arcs [] = false
are_relative_arcs (x ∷ arcs) = true

-- the content is that of the arcs that the text has
pub record IsRelativeText (text content : List ℕ) : Type 0 where
  pub arcs : List ℕ
  pub valid : are_relative_arcs arcs ≡ true
  pub written : text ≡ dotted arcs
  pub encoded : content ≡ relative_oid_content arcs
