-- What is printed of a message in BER.
use Rattle.std.specs.Prelude.{◌≡◌, ◌↔◌, ℕ, Bool, IsTrue, List, [], ◌∷◌, ◌++◌, length, Option, codes, decimal, ⊤}
use Rattle.std.specs.Prelude.{if◌then◌else◌, string_bytes}
use Rattle.serde_json.specs.Data.{Data, boolean, null, number, unsigned, string, object, member, no_members}
use Rattle.der_ber.specs.declared.error.BerRule.{BerRule}
use Rattle.der_ber.specs.declared.error.BerRule.TheVariants as rule
use Rattle.der_ber_types.specs.declared.error.ToDerError.{ToDerError}
use Rattle.der_ber_types.specs.declared.error.ToDerError.TheVariants.{OutOfMemory, Broken, OtherType}
use Rattle.der_ber_types.specs.Errors.{IsRefusedByType}
use Rattle.der_program_base.specs.Json.{json_line}
use Rattle.der_program_base.specs.declared.printed.Format.{Format}
use Rattle.der_program_base.specs.declared.printed.Format.TheVariants.{Text, Json}
use Rattle.der_program_base.specs.declared.printed.Printed.{Printed}
use Rattle.der_program_base.specs.declared.status.Status.TheVariants as status
use Rattle.der_read.specs.declared.ber_printed.BerPrinted.{BerPrinted}
use Rattle.der_read.specs.declared.ber_printed.BerPrinted.TheVariants as ber_printed
use Rattle.der_read.specs.declared.message_type.MessageType.{MessageType}
use Rattle.der_read.specs.BerMessages.{IsBerOf}
use Rattle.der_read.specs.Paths.{HasNoSchema}
use Rattle.der_read.specs.Place.{place_text, block_data}
use Rattle.der_read.specs.Printed.{refusal_line}
use Rattle.der_read.specs.Types.{word_of}

-- ---- refusals

-- what is wrong, with the clause of X.690
abbrev pub rule_words : BerRule → List ℕ
rule_words rule.CutHeader =
    codes "the bytes end within a header, or before an end-of-contents (X.690, 8.1.1, 8.1.3.6)"
rule_words rule.LongTag = codes "the tag number is above 30, which isn't read here (X.690, 8.1.2.4)"
rule_words rule.EndOfContents = codes "end-of-contents bytes that end no element (X.690, 8.1.5)"
rule_words rule.ReservedLength = codes "the first byte of the length is FF (X.690, 8.1.3.5)"
rule_words rule.PastEnd = codes "the content ends after the input or the element around it (X.690, 8.1.4)"
rule_words rule.IndefinitePrimitive = codes "the length of a primitive encoding is indefinite (X.690, 8.1.3.2)"
rule_words rule.TooDeep = codes "over 128 constructed elements in one another, which aren't read here"
rule_words rule.WrongPart = codes "a part of a string has another tag than parts have (X.690, 8.6.4.1, 8.7.3.2)"
rule_words rule.UnusedBits = codes "a part of a BIT STRING has a wrong count of unused bits (X.690, 8.6.2.2, 8.6.4)"

-- why bytes aren't BER of a value of a type
abbrev pub ber_refusal_text : ToDerError → List ℕ
ber_refusal_text OutOfMemory = []
ber_refusal_text (Broken position r) = codes "not BER at " ++ (decimal position ++ (codes ": " ++ rule_words r))
ber_refusal_text OtherType = codes "BER of a value of another type"

-- where that was found, if there is a place
abbrev pub ber_offset_data : ToDerError → Data
ber_offset_data OutOfMemory = null
ber_offset_data (Broken position r) = number (unsigned position)
ber_offset_data OtherType = null

abbrev pub no_der_text : MessageType → ToDerError → List ℕ
no_der_text t e = codes "no " ++ (word_of t ++ (codes ": " ++ ber_refusal_text e))

-- or there is no table that says what their DER is
abbrev pub no_table_text : MessageType → List ℕ
no_table_text t = codes "there is no table of " ++ (word_of t ++ codes ", and so no DER of its BER")

-- ---- so many bytes, whose DER has so many, and is the same bytes or not

abbrev pub ber_text : ℕ → ℕ → Bool → List ℕ
ber_text size der_size is_der =
    if is_der then codes "DER, " ++ (decimal size ++ codes " bytes")
    else codes "BER, " ++ (decimal size ++ (codes " bytes; its DER has " ++ (decimal der_size ++ codes " bytes")))

abbrev pub ber_data : List ℕ → Option ℕ → ℕ → ℕ → Bool → Data
ber_data file block size der_size is_der =
    object
    (member (codes "berLength") (number (unsigned size))
    (member (codes "block") (block_data block)
    (member (codes "derLength") (number (unsigned der_size))
    (member (codes "file") (string file) (member (codes "isDer") (boolean is_der) no_members)))))

abbrev pub ber_line : Format → List ℕ → Option ℕ → ℕ → ℕ → Bool → List ℕ
ber_line Text file block size der_size is_der = place_text file block ++ ber_text size der_size is_der
ber_line Json file block size der_size is_der = json_line (ber_data file block size der_size is_der)

-- the line on bytes with this DER
pub record IsBerLine (format : Format) (file : List ℕ) (block : Option ℕ) (bytes der line : List ℕ) : Type 0 where
  pub is_der : Bool
  pub same : IsTrue is_der ↔ (der ≡ bytes)
  pub is : line ≡ ber_line format file block (length bytes) (length der) is_der

-- ---- what is printed

-- the line of a refusal with this text, which was found at this offset, with the byte 0A at its end, and the status
pub record IsRefusalOfBer (format : Format) (file : List ℕ) (block : Option ℕ) (offset : Data) (refused : List ℕ)
    (p : Printed) : Type 0 where
  pub text : string_bytes p.text ≡ refusal_line format file block offset refused ++ (0x0A ∷ [])
  pub status : p.status ≡ status.Refused

-- the bytes have no DER that is known
pub data IsNoBer (format : Format) (file : List ℕ) (block : Option ℕ) (t : MessageType) (bytes : List ℕ)
    (p : Printed) : Type 0 where
  without_table : HasNoSchema t → IsRefusalOfBer format file block null (no_table_text t) p
      → IsNoBer format file block t bytes p
  refused : (e : ToDerError) → IsRefusedByType bytes e
      → IsRefusalOfBer format file block (ber_offset_data e) (no_der_text t e) p
      → IsNoBer format file block t bytes p

-- the line on bytes in BER, with the byte 0A at its end, and their DER
pub record IsBerMessage (format : Format) (file : List ℕ) (block : Option ℕ) (t : MessageType)
    (bytes text der : List ℕ) : Type 0 where
  pub ber : IsBerOf t bytes der
  pub line : List ℕ
  pub is_line : IsBerLine format file block bytes der line
  pub is : text ≡ line ++ (0x0A ∷ [])

abbrev pub IsReadBer : Format → List ℕ → Option ℕ → MessageType → List ℕ → BerPrinted → Type 0
IsReadBer format file block t bytes (ber_printed.Message line der) =
    IsBerMessage format file block t bytes (string_bytes line) der.items
IsReadBer format file block t bytes (ber_printed.Refused p) = IsNoBer format file block t bytes p
