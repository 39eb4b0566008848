-- What is printed of a message.
use Rattle.std.specs.Prelude.{◌≡◌, ℕ, List, [], ◌∷◌, ◌++◌, map, length, Option, None, Some, codes, decimal, slice_get}
use Rattle.std.specs.Prelude.{string_bytes}
use Rattle.std.specs.List.{flat_map}
use Rattle.serde_json.specs.Data.{Data, null, number, unsigned, string, array, object, member, no_members}
use Rattle.serde_json.specs.View.{items_of}
use Rattle.der_program_base.specs.Json.{json_line}
use Rattle.der_program_base.specs.Texts.{text_or_bytes}
use Rattle.der_program_base.specs.declared.printed.Format.{Format}
use Rattle.der_program_base.specs.declared.printed.Format.TheVariants.{Text, Json}
use Rattle.der_read.specs.declared.message_type.MessageType.{MessageType}
use Rattle.der_program_base.specs.declared.printed.Printed.{Printed}
use Rattle.der_read.specs.declared.verdict.Verdict.{Verdict}
use Rattle.der_read.specs.declared.verdict.Verdict.TheVariants as verdict
use Rattle.der_read.specs.Place.{place_text, block_data}
use Rattle.der_read.specs.Explanation.{explanation_text}
use Rattle.der_read.specs.JsonMessages.{IsJsonOf}
use Rattle.der_read.specs.Paths.{HasNoSchema}
use Rattle.der_read.specs.Types.{word_of}
use Rattle.der_read.specs.Verdict.{IsVerdict, status_of}

-- ---- in words

abbrev pub or_word : MessageType → List ℕ
or_word type = codes " or " ++ word_of type

-- the words of types
abbrev pub or_words : List MessageType → List ℕ
or_words [] = []
or_words (type ∷ types) = word_of type ++ flat_map or_word types

-- so many bytes are a message of each of these types
abbrev pub message_text : ℕ → List MessageType → List ℕ
message_text size types = or_words types ++ (codes ", " ++ (decimal size ++ codes " bytes"))

-- why bytes are refused
abbrev pub refusal_text : Verdict → List ℕ
refusal_text (verdict.Message types) = []
refusal_text (verdict.Other type reason) = codes "no " ++ (word_of type ++ (codes ": " ++ explanation_text reason))
refusal_text (verdict.UnknownLabel label) = codes "no type has the label " ++ text_or_bytes label.items
refusal_text verdict.UnknownType = codes "no message of a known type"
refusal_text (verdict.NotDer reason) = explanation_text reason

-- ---- in JSON

abbrev pub word_data : MessageType → Data
word_data type = string (word_of type)

abbrev pub words_data : List MessageType → Data
words_data types = array (items_of (map word_data types))

-- where the bytes are refused, if that is at an element
abbrev pub offset_data : Verdict → Data
offset_data (verdict.Other type reason) = number (unsigned reason.offset)
offset_data (verdict.NotDer reason) = number (unsigned reason.offset)
offset_data v = null

-- the object of a message of so many bytes
abbrev pub plain_data : List ℕ → Option ℕ → ℕ → List MessageType → Data
plain_data file block size types =
    object
    (member (codes "block") (block_data block)
    (member (codes "file") (string file)
    (member (codes "length") (number (unsigned size)) (member (codes "types") (words_data types) no_members))))

-- the same with the JSON of the message
abbrev pub valued_data : List ℕ → Option ℕ → ℕ → List MessageType → Data → Data
valued_data file block size types value =
    object
    (member (codes "block") (block_data block)
    (member (codes "file") (string file)
    (member (codes "length") (number (unsigned size))
    (member (codes "types") (words_data types) (member (codes "value") value no_members)))))

-- the same with the reason for which the message has no JSON
abbrev pub unvalued_data : List ℕ → Option ℕ → ℕ → List MessageType → List ℕ → Data
unvalued_data file block size types reason =
    object
    (member (codes "block") (block_data block)
    (member (codes "file") (string file)
    (member (codes "length") (number (unsigned size))
    (member (codes "noValue") (string reason) (member (codes "types") (words_data types) no_members)))))

-- the object of a message, with its JSON by its first type, if there is a schema of that
pub data IsMessageData (file : List ℕ) (block : Option ℕ) (bytes : List ℕ) (types : List MessageType)
    (d : Data) : Type 0 where
  of_no_type : slice_get types 0 ≡ None → d ≡ plain_data file block (length bytes) types
      → IsMessageData file block bytes types d
  plain : (t : MessageType) → slice_get types 0 ≡ Some t → HasNoSchema t
      → d ≡ plain_data file block (length bytes) types → IsMessageData file block bytes types d
  valued : (t : MessageType) (value : Data) → slice_get types 0 ≡ Some t → IsJsonOf t bytes value
      → d ≡ valued_data file block (length bytes) types value → IsMessageData file block bytes types d
  unvalued : (reason : List ℕ) → d ≡ unvalued_data file block (length bytes) types reason
      → IsMessageData file block bytes types d

-- the object of a refusal, with the words of its text
abbrev pub refusal_data : List ℕ → Option ℕ → Data → List ℕ → Data
refusal_data file block offset refused =
    object (member (codes "block") (block_data block)
    (member (codes "file") (string file)
    (member (codes "offset") offset (member (codes "refused") (string refused) no_members))))

-- the line of a refusal
abbrev pub refusal_line : Format → List ℕ → Option ℕ → Data → List ℕ → List ℕ
refusal_line Text file block offset refused = place_text file block ++ refused
refusal_line Json file block offset refused = json_line (refusal_data file block offset refused)

-- the line of a message
abbrev pub IsMessageLine : Format → List ℕ → Option ℕ → List ℕ → List MessageType → List ℕ → Type 0
IsMessageLine Text file block bytes types line = line ≡ place_text file block ++ message_text (length bytes) types
IsMessageLine Json file block bytes types line = (d : Data)
    × (IsMessageData file block bytes types d × (line ≡ json_line d))

-- ---- what is printed

-- the line on what came of reading these bytes
abbrev pub IsVerdictLine : Format → List ℕ → Option ℕ → List ℕ → Verdict → List ℕ → Type 0
IsVerdictLine format file block bytes (verdict.Message types) line = IsMessageLine format file block bytes types.items
    line
IsVerdictLine format file block bytes v line = line
    ≡ refusal_line format file block (offset_data v) (refusal_text v)

-- the line on what came of reading these bytes, with the byte 0A at its end, and the status
pub record IsReadMessage (format : Format) (file : List ℕ) (block : Option ℕ) (wanted : Option MessageType)
    (label : Option (List ℕ)) (bytes : List ℕ) (p : Printed) : Type 0 where
  pub verdict : Verdict
  pub is : IsVerdict wanted label bytes verdict
  pub line : List ℕ
  pub is_line : IsVerdictLine format file block bytes verdict line
  pub text : string_bytes p.text ≡ line ++ (0x0A ∷ [])
  pub status : p.status ≡ status_of verdict
