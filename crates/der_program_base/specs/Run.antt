-- What a run over an input reads and writes.
use Rattle.std.specs.Prelude.{◌≡◌, ℕ, ◌-◌, ◌^◌, ◌<◌, ◌≤◌, List, [], ◌∷◌, ◌++◌, length, Option, Some, None, ⊤}
use Rattle.std.specs.Io.KnownBytes.{Appends, Consumes, IsAtEnd}
use Rattle.std.specs.declared.io.ErrorKind.{ErrorKind}
use Rattle.picky_der_core.specs.declared.error.Asn1DerError.{Asn1DerError}
use Rattle.picky_der_core.specs.declared.error.Asn1DerError.TheVariants.{UnsupportedValue, OutOfMemory}
use Rattle.picky_der_core.specs.declared.misc.writer.WriteExt.{Ghosts}
use Rattle.picky_der_core.specs.Error.{error_of_kind}
use Rattle.picky_der_core.specs.Faults.{Fault}
use Rattle.picky_der_core.specs.Writer.{AppendsBeginning}
use Rattle.picky_der_core.specs.WriterFaults.{WriterFails}
use Rattle.der_program_base.specs.Text.{IsLine, AreLines, AreAnswers, text_of_lines, IsAnswersOf}

-- these bytes are one line, with its end or still without it
pub data IsLastLine (bytes : List ℕ) : Type 0 where
  not_ended : IsLine bytes → IsLastLine bytes
  just_ended : (line : List ℕ) → IsLine line → bytes ≡ line ++ (0x0A ∷ []) → IsLastLine bytes

-- a reader failed once more, e says how, and nothing was read after it
pub record ReaderFaulted (old new : List Fault) (left : Option (List ℕ)) (e : Asn1DerError) : Type 0 where
  pub kind : ErrorKind
  pub once : new ≡ record { kind = kind; left = left } ∷ old
  pub is : e ≡ error_of_kind kind

-- no end came within as many bytes as are read
abbrev pub IsTooLong : Option (List ℕ) → Type 0
IsTooLong None = ⊤
IsTooLong (Some input) = 2 ^ 64 - 1 ≤ length input

-- `IsAnswer line answer` says which texts answer a line
module _ (IsAnswer : List ℕ → List ℕ → Type 0) where
  -- ---- one line

  -- the answer to the line was written, with its end
  pub record AnswersLine (line : List ℕ) (old new : Option (List ℕ)) : Type 0 where
    pub answer : List ℕ
    pub is_answer : IsAnswer line answer
    pub written : Appends old new (answer ++ (0x0A ∷ []))

  module _ {W : Type 0} (g : Ghosts W) (line : List ℕ) (old new : W) where
    -- why no answer was written, or not all of it
    pub data StopsLine (e : Asn1DerError) : Type 0 where
      no_memory : e ≡ OutOfMemory → new ≡ old → StopsLine e
      no_sink : WriterFails g old e new → (answer : List ℕ) → IsAnswer line answer
          → AppendsBeginning (g.written old) (g.written new) (answer ++ (0x0A ∷ [])) → StopsLine e

  -- ---- a run

  -- The run read lines up to their ends, and then `rest`. Whole answers to the lines were written, and
  -- nothing else.
  pub record WroteWhole (in_old in_new out_old out_new : Option (List ℕ)) (rest : List ℕ) : Type 0 where
    pub lines : List (List ℕ)
    pub answers : List (List ℕ)
    pub are_lines : AreLines lines
    pub consumed : Consumes in_old in_new (text_of_lines lines ++ rest)
    pub answered : AreAnswers IsAnswer lines answers
    pub written : Appends out_old out_new (text_of_lines answers)

  -- The run read lines, the last one up to its end or the input's, and a beginning of their answers was
  -- written.
  pub record WroteBeginning (in_old in_new out_old out_new : Option (List ℕ)) : Type 0 where
    pub bytes : List ℕ
    pub consumed : Consumes in_old in_new bytes
    pub text : List ℕ
    pub is_text : IsAnswersOf IsAnswer bytes text
    pub at_end : 0 < length is_text.last → IsAtEnd in_new
    pub written : AppendsBeginning out_old out_new text

  module _ {W : Type 0} (g : Ghosts W) (in_old in_new : Option (List ℕ)) (faults_old faults_new : List Fault)
      (out_old out_new : W) where
    -- the answers to the lines before this one were written, and its own wasn't
    abbrev pub StopsBefore : List ℕ → Type 0
    StopsBefore line = WroteWhole in_old in_new (g.written out_old) (g.written out_new) line

    -- why a run ended with an error, and what it left
    pub data Stops (e : Asn1DerError) : Type 0 where
      -- an allocation failed for the line or its answer
      memory : e ≡ OutOfMemory → (line : List ℕ) → IsLastLine line → StopsBefore line → Stops e
      -- the reader cut the line
      reader : ReaderFaulted faults_old faults_new in_new e → (line : List ℕ) → IsLine line → StopsBefore line → Stops e
      writer : WriterFails g out_old e out_new → WroteBeginning in_old in_new (g.written out_old) (g.written out_new)
          → Stops e
      too_long : e ≡ UnsupportedValue → IsTooLong in_old → (line : List ℕ) → IsLine line → StopsBefore line → Stops e
