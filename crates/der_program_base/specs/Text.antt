-- The answer text for an input.
use Rattle.std.specs.Prelude.{◌≡◌, ℕ, List, [], ◌∷◌, ◌++◌, Option, IfSome, ⊤}
use Rattle.std.specs.Io.KnownBytes.{Appends}
use Rattle.der_program_base.specs.Words.{HasNo}

-- no byte ends a line
abbrev pub IsLine : List ℕ → Type 0
IsLine bytes = HasNo 0x0A bytes

abbrev pub AreLines : List (List ℕ) → Type 0
AreLines [] = ⊤
AreLines (line ∷ lines) = IsLine line × AreLines lines

-- the lines one after another, each ended by the byte 0A
abbrev pub text_of_lines : List (List ℕ) → List ℕ
text_of_lines [] = []
text_of_lines (line ∷ lines) = line ++ (0x0A ∷ text_of_lines lines)

-- a last line without an end counts if it isn't empty
abbrev pub unless_empty : List ℕ → List (List ℕ)
unless_empty [] = []
unless_empty (byte ∷ bytes) = (byte ∷ bytes) ∷ []

-- what an input is made of: lines that are ended, and what follows the last end
pub record IsSplit (input : List ℕ) (lines : List (List ℕ)) (last : List ℕ) : Type 0 where
  pub are_lines : AreLines lines
  pub is_line : IsLine last
  pub is : input ≡ text_of_lines lines ++ last

module _ (IsAnswer : List ℕ → List ℕ → Type 0) where
  -- the answers to lines, in order
  abbrev pub AreAnswers : List (List ℕ) → List (List ℕ) → Type 0
  AreAnswers [] [] = ⊤
  AreAnswers [] (answer ∷ answers) = ⊥
  AreAnswers (line ∷ lines) [] = ⊥
  AreAnswers (line ∷ lines) (answer ∷ answers) = IsAnswer line answer × AreAnswers lines answers

  -- the answer text for an input: the answers to its lines, in order, each ended by the byte 0A
  pub record IsAnswersOf (input text : List ℕ) : Type 0 where
    pub lines : List (List ℕ)
    pub last : List ℕ
    pub split : IsSplit input lines last
    pub answers : List (List ℕ)
    pub answered : AreAnswers (lines ++ unless_empty last) answers
    pub is : text ≡ text_of_lines answers

  -- the text of the known bytes of an input was written
  abbrev pub WritesAnswers : Option (List ℕ) → Option (List ℕ) → Option (List ℕ) → Type 0
  WritesAnswers in_old old new =
      IfSome in_old (λ input. (text : List ℕ) × IsAnswersOf input text × Appends old new text)
