-- The answer to a line.
use Rattle.std.specs.Prelude.{◌≡◌, ℕ, List, codes, Result, Ok, Err}
use Rattle.hex.specs.declared.error.FromHexError.{FromHexError}
use Rattle.hex.specs.Hex.{encode_lower, decode_of}
use Rattle.picky_der_core.specs.Element.{length_octets}
use Rattle.der_tool_lib.specs.declared.value.ValueType.{ValueType}
use Rattle.der_tool_lib.specs.Line.{Query, len, read, nothing, Asks}
use Rattle.der_tool_lib.specs.Value.{AnswersRead}

-- digits that aren't whole bytes ask for nothing
abbrev pub AnswersDigits : ValueType → Result (List ℕ) FromHexError → List ℕ → Type 0
AnswersDigits type (Ok bytes) answer = AnswersRead type bytes answer
AnswersDigits type (Err e) answer = answer ≡ codes "refused Line"

-- The answer to what a line asks for: the bytes of a length in hexadecimal, with lower case letters, or what is read.
abbrev pub Answers : Query → List ℕ → Type 0
Answers (len n) answer = answer ≡ encode_lower (length_octets n)
Answers (read type digits) answer = AnswersDigits type (decode_of digits) answer
Answers nothing answer = answer ≡ codes "refused Line"

-- this is the answer to the line; neither has the byte that ends it
pub record IsAnswerTo (line answer : List ℕ) : Type 0 where
  pub query : Query
  pub asked : Asks line query
  pub answers : Answers query answer
