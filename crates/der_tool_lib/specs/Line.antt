-- What a line asks for.
use Rattle.std.specs.Prelude.{◌≡◌, ℕ, ◌^◌, ◌<◌, List, ◌++◌, codes, decimal, Option, Some, None}
use Rattle.der_tool_lib.specs.declared.value.ValueType.{ValueType}
use Rattle.der_tool_lib.specs.declared.value.ValueType.TheVariants as named
use Rattle.der_tool_lib.specs.declared.line.Request.{Request}
use Rattle.der_tool_lib.specs.declared.line.Request.TheVariants as request

-- the digits of a number that fits, with no 0 before others
abbrev pub IsNumber : List ℕ → ℕ → Type 0
IsNumber digits n = (n < 2 ^ 64) × (digits ≡ decimal n)

-- the number of these digits, if they are the digits of one
abbrev pub IsNumberOf : List ℕ → Option ℕ → Type 0
IsNumberOf digits (Some n) = IsNumber digits n
IsNumberOf digits None = (n : ℕ) → IsNumber digits n → ⊥

-- the word for a type
abbrev pub word_for : ValueType → List ℕ
word_for named.Bool = codes "bool"
word_for named.U8 = codes "u8"
word_for named.U16 = codes "u16"
word_for named.U32 = codes "u32"
word_for named.U64 = codes "u64"
word_for named.U128 = codes "u128"
word_for named.Null = codes "null"
word_for named.Char = codes "char"
word_for named.Text = codes "text"
word_for named.Octets = codes "octets"
word_for named.Raw = codes "raw"
word_for named.Test = codes "test"
word_for named.Spki = codes "spki"

-- what can be asked for: the bytes of a length, a value of a type from the bytes that these digits may be, or nothing
pub data Query : Type 0 where
  len : ℕ → Query
  read : ValueType → List ℕ → Query
  nothing : Query

abbrev pub query_of : Request → Query
query_of (request.Len n) = len n
query_of (request.Read type digits) = read type digits.now
query_of request.Refused = nothing

-- the line is `len n`
pub record IsLen (line : List ℕ) (n : ℕ) : Type 0 where
  pub fits : n < 2 ^ 64
  pub is : line ≡ codes "len " ++ decimal n

-- these words are a type's and the digits
abbrev pub IsTyped : List ℕ → ValueType → List ℕ → Type 0
IsTyped words type digits = words ≡ word_for type ++ (codes " " ++ digits)

-- the line is `read`, a type's word and the digits
abbrev pub IsRead : List ℕ → ValueType → List ℕ → Type 0
IsRead line type digits = (words : List ℕ) × (line ≡ codes "read " ++ words) × IsTyped words type digits

-- the line asks for nothing
pub record IsUnknown (line : List ℕ) : Type 0 where
  pub no_length : (n : ℕ) → IsLen line n → ⊥
  pub no_value : (type : ValueType) (digits : List ℕ) → IsRead line type digits → ⊥

-- what the line asks for: nothing, where it is no line that asks for something
abbrev pub Asks : List ℕ → Query → Type 0
Asks line (len n) = IsLen line n
Asks line (read type digits) = IsRead line type digits
Asks line nothing = IsUnknown line

-- what the words after `read ` ask for
abbrev pub AsksTyped : List ℕ → Query → Type 0
AsksTyped words (len n) = ⊥
AsksTyped words (read type digits) = IsTyped words type digits
AsksTyped words nothing = (type : ValueType) (digits : List ℕ) → IsTyped words type digits → ⊥
