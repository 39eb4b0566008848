-- Text whose lines end with CR LF (RFC 8551, 3.1.1).
use Rattle.std.specs.Prelude.{ℕ, Bool, false, not, ◌&&◌, ◌==◌, if◌then◌else◌, List, [], ◌∷◌, ◌++◌}
use Rattle.der_signers.specs.declared.line_ends.LineEnds.{LineEnds}
use Rattle.der_signers.specs.declared.line_ends.LineEnds.TheVariants.{AsTheyAre, CrLf}

-- a byte, after CR if it is an LF and none came before it; 10 is LF, and 13 is CR
abbrev pub with_cr : Bool → ℕ → List ℕ
with_cr is_after_cr byte = if byte == 10 && not is_after_cr then 13 ∷ byte ∷ [] else byte ∷ []

-- the bytes after a CR, or after none
abbrev pub canonical_after : Bool → List ℕ → List ℕ
canonical_after is_after_cr [] = []
canonical_after is_after_cr (byte ∷ bytes) = with_cr is_after_cr byte ++ canonical_after (byte == 13) bytes

-- each LF that no CR precedes is CR LF
abbrev pub canonical : List ℕ → List ℕ
canonical bytes = canonical_after false bytes

-- a content as its digest is computed
abbrev pub taken : LineEnds → List ℕ → List ℕ
taken AsTheyAre bytes = bytes
taken CrLf bytes = canonical bytes
