-- The content of a set, cut where its members begin.
use Rattle.std.specs.Prelude.{ℕ, ◌≤◌, List, [], ◌∷◌, ◌++◌, ◌&&◌, drop, nat_lt, if◌then◌else◌, ⊤}
use Rattle.std.specs.List.{between}
use Rattle.picky_der_ser.specs.declared.header.Header.{Header}
use Rattle.picky_der_ser.specs.Headers.{is_set}

-- the pieces between the seams, from the byte at `start` on
abbrev pub cut_from : ℕ → List ℕ → List ℕ → List (List ℕ)
cut_from start [] c = drop start c ∷ []
cut_from start (s ∷ ss) c = between start s c ∷ cut_from s ss c

-- one list more than there are seams
abbrev pub cut_at_seams : List ℕ → List ℕ → List (List ℕ)
cut_at_seams seams c = cut_from 0 seams c

-- none is before the one before it, nor before `start`
abbrev pub AreSeams : ℕ → List ℕ → Type 0
AreSeams start [] = ⊤
AreSeams start (s ∷ ss) = (start ≤ s) × AreSeams s ss

-- where the last of these begins
abbrev pub last_seam : ℕ → List ℕ → ℕ
last_seam start [] = start
last_seam start (s ∷ ss) = last_seam s ss

-- The seams once a member begins after `held` bytes of other members. Nothing is kept of any level but a set.
abbrev pub next_seams : Header → List ℕ → ℕ → List ℕ
next_seams header seams held = if is_set header && nat_lt 0 held then seams ++ (held ∷ []) else seams
