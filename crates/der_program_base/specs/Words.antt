-- The words of a line.
use Rattle.std.specs.Prelude.{◌≡◌, ◌≢◌, ℕ, List, [], ◌∷◌, ◌++◌, Option, MatchOption, ⊤}
use Rattle.std.specs.Borrow.{Bor}

-- no byte is this one
abbrev pub HasNo : ℕ → List ℕ → Type 0
HasNo byte [] = ⊤
HasNo byte (other ∷ others) = (other ≢ byte) × HasNo byte others

-- what follows a word, if the line begins with it
abbrev pub IsAfter : List ℕ → List ℕ → Option (Bor (List ℕ)) → Type 0
IsAfter line word rest = MatchOption rest ((other : List ℕ) → line ≢ word ++ other) (λ r. line ≡ word ++ r.now)

-- the line begins with this word and a space, and this is the rest
pub record IsFirstWord (line word rest : List ℕ) : Type 0 where
  pub is_word : HasNo 0x20 word
  pub is : line ≡ word ++ (0x20 ∷ rest)
