-- Which reads are refused, and with which error.
use Rattle.std.specs.Prelude.{ℕ, ℤ, ◌+◌, ◌-◌, Bool, true, not, ◌&&◌, ◌||◌, List, [], ◌∷◌, length, take, drop, nat_lt}
use Rattle.std.specs.Prelude.{◌==◌, Option, Some, None, Result, Ok, Err, chars, if◌then◌else◌}
use Rattle.std.specs.Option.{option_map}
use Rattle.std.specs.Int.Digits.{number_from_digits}
use Rattle.std.specs.Str.{is_utf8}
use Rattle.picky_der_core.specs.declared.error.Asn1DerError.{Asn1DerError}
use Rattle.picky_der_core.specs.declared.error.Asn1DerError.TheVariants.{TruncatedData, InvalidData, UnsupportedValue}
use Rattle.picky_der_core.specs.declared.asn1.wrapper.Wrapper.{Wrapper}
use Rattle.picky_der_core.specs.Tag.{number_of, is_tag_number}
use Rattle.picky_der_core.specs.Primitive.{PrimitiveShape}
use Rattle.picky_der_core.specs.Wrapper.{wrapper_tag, has_tag_number}
use Rattle.picky_der_core.specs.Integer.{is_integer, integer_value}

-- ---- ends

-- A length that reaches past an end. Past a hard end no byte can come.
abbrev pub error_past_end : Bool → Asn1DerError
error_past_end hard = if hard then InvalidData else TruncatedData

-- a byte that isn't there, where the innermost end is `ahead` bytes away and the reader has `rest` of these
abbrev pub missing_byte : Bool → ℕ → List ℕ → Asn1DerError
missing_byte hard ahead rest = error_past_end (hard && (length rest == ahead))

-- ---- lengths

-- the error of a refusal, and the bytes that are left after the consumed ones
abbrev pub Refusal : Type 0
Refusal = Asn1DerError × List ℕ

-- what was read and the bytes after it, or the refusal
abbrev pub ReadOutcome : Type 0 → Type 0
ReadOutcome A = Result (A × List ℕ) Refusal

-- the number of a length of the long form, which must be the shortest
abbrev pub long_length : ℕ → Bool → List ℕ → ReadOutcome ℕ
long_length n leading_zero rest = if leading_zero || nat_lt n 0x80 then Err (InvalidData, rest) else Ok (n, rest)

abbrev pub begins_with_zero : List ℕ → Bool
begins_with_zero [] = true
begins_with_zero (b ∷ bs) = b == 0

-- the length at the front of these bytes, where a byte that isn't there is refused with `lacking`
abbrev pub length_of : Asn1DerError → List ℕ → ReadOutcome ℕ
length_of lacking [] = Err (lacking, [])
length_of lacking (b ∷ bs) =
    if nat_lt b 0x80 then Ok (b, bs)
    else (if b == 0x80 then Err (InvalidData, bs)
    else (if nat_lt 0x88 b then Err (UnsupportedValue, bs)
    else (if nat_lt (length bs) (b - 0x80) then Err (lacking, [])
    else long_length (number_from_digits 256 (take (b - 0x80) bs)) (begins_with_zero (take (b - 0x80) bs))
    (drop (b - 0x80) bs))))

-- ---- headers

-- the length after the tag, if it doesn't reach past the innermost end
abbrev pub within_end : Bool → ℕ → List ℕ → ReadOutcome ℕ → ReadOutcome ℕ
within_end hard ahead rest (Err e) = Err e
within_end hard ahead rest (Ok (n, left)) =
    if nat_lt (ahead - (length rest - length left)) n then Err (error_past_end hard, left) else Ok (n, left)

abbrev pub length_after : Bool → ℕ → List ℕ → List ℕ → ReadOutcome ℕ
length_after hard ahead rest after = within_end hard ahead rest (length_of (missing_byte hard ahead rest) after)

abbrev pub header_with : ℕ → Bool → ℕ → List ℕ → ReadOutcome ℕ
header_with tag hard ahead [] = Err (missing_byte hard ahead [], [])
header_with tag hard ahead (b ∷ bs) = if b == tag then length_after hard ahead (b ∷ bs) bs else Err (InvalidData, bs)

-- the header of an element with this tag: the length of the content, and the bytes from there on
abbrev pub header : ℕ → Bool → ℕ → List ℕ → ReadOutcome ℕ
header tag hard ahead rest = if is_tag_number (number_of tag) then header_with tag hard ahead rest else Err
    (UnsupportedValue, rest)

-- the same of a wrapper
abbrev pub wrapper_header : Wrapper → Bool → ℕ → List ℕ → ReadOutcome ℕ
wrapper_header w hard ahead rest = if has_tag_number w then header_with (wrapper_tag w) hard ahead rest else Err
    (UnsupportedValue, rest)

-- the header of any element
abbrev pub any_header : Bool → ℕ → List ℕ → ReadOutcome ℕ
any_header hard ahead [] = Err (missing_byte hard ahead [], [])
any_header hard ahead (b ∷ bs) = if is_tag_number (number_of b) then length_after hard ahead (b ∷ bs) bs else Err
    (UnsupportedValue, bs)

abbrev pub refusal_of : ReadOutcome ℕ → Option Refusal
refusal_of (Ok read) = None
refusal_of (Err e) = Some e

-- ---- contents

-- why these bytes are no content, if they aren't
abbrev pub Judge : Type 0
Judge = List ℕ → Option Asn1DerError

abbrev pub boolean_error : Judge
boolean_error [] = Some TruncatedData
boolean_error (b ∷ []) = if (b == 0x00) || (b == 0xFF) then None else Some InvalidData
boolean_error (b ∷ c ∷ bs) = Some InvalidData

-- bytes of a number, without a leading 00
abbrev pub number_error : ℕ → Judge
number_error most bs = if nat_lt 16 (length bs) || nat_lt most (number_from_digits 256 bs) then Some UnsupportedValue
    else None

abbrev pub unsigned_error : ℕ → Judge
unsigned_error most [] = Some TruncatedData
unsigned_error most (b ∷ []) = if nat_lt b 0x80 then number_error most (b ∷ []) else Some UnsupportedValue
unsigned_error most (b ∷ c ∷ bs) =
    if nat_lt b 0x80 then (if b == 0 then (if nat_lt c 0x80 then Some InvalidData else number_error most (c ∷ bs)) else
    number_error most (b ∷ c ∷ bs))
    else Some UnsupportedValue

-- A content that isn't one of an INTEGER is invalid, and a number that a type doesn't have isn't supported. No type has
-- one of more than 17 bytes.
abbrev pub int_error : (ℤ → Bool) → Judge
int_error fits bs =
    if is_integer bs then (if nat_lt 17 (length bs) || not (fits (integer_value bs)) then Some UnsupportedValue else
    None) else Some InvalidData

abbrev pub null_error : Judge
null_error [] = None
null_error (b ∷ bs) = Some InvalidData

abbrev pub text_error : Judge
text_error bs = if is_utf8 bs then None else Some InvalidData

abbrev pub character_count_error : ℕ → Option Asn1DerError
character_count_error n = if n == 0 then Some UnsupportedValue else (if n == 1 then None else Some InvalidData)

abbrev pub character_error : Judge
character_error bs = if is_utf8 bs then character_count_error (length (chars bs)) else Some InvalidData

abbrev pub bytes_error : Judge
bytes_error bs = None

-- the errors of a content, by its primitive kind
abbrev pub content_error : PrimitiveShape → Judge
content_error PrimitiveShape.boolean = boolean_error
content_error (PrimitiveShape.unsigned most) = unsigned_error most
content_error PrimitiveShape.null = null_error
content_error PrimitiveShape.character = character_error
content_error PrimitiveShape.text = text_error
content_error (PrimitiveShape.bytes tag) = bytes_error

-- ---- whole reads

abbrev pub refusal_leaving : Option Asn1DerError → List ℕ → Option Refusal
refusal_leaving None left = None
refusal_leaving (Some e) left = Some (e, left)

-- the content, which is consumed whole before it is judged
abbrev pub content_refusal : Judge → ReadOutcome ℕ → Option Refusal
content_refusal judge (Err e) = Some e
content_refusal judge (Ok (n, rest)) = if nat_lt (length rest) n then Some (TruncatedData, []) else refusal_leaving
    (judge (take n rest)) (drop n rest)

-- how a plain value with this tag is refused, if it is
abbrev pub plain_refusal : ℕ → Judge → Bool → ℕ → List ℕ → Option Refusal
plain_refusal tag judge hard ahead rest = content_refusal judge (header tag hard ahead rest)

-- the same directly under an implicit tag, whose content is all that is ahead
abbrev pub inside_refusal : ℕ → Judge → ℕ → List ℕ → Option Refusal
inside_refusal tag judge ahead rest =
    if is_tag_number (number_of tag) then content_refusal judge (Ok (ahead, rest)) else Some (UnsupportedValue, rest)

-- how the header of a sequence or a set is refused
abbrev pub header_refusal : ℕ → Bool → ℕ → List ℕ → Option Refusal
header_refusal tag hard ahead rest = refusal_of (header tag hard ahead rest)

-- how an element is refused that is consumed whole, whatever its tag
abbrev pub element_refusal : Bool → ℕ → List ℕ → Option Refusal
element_refusal hard ahead rest = content_refusal bytes_error (any_header hard ahead rest)

-- the error alone
abbrev pub error_of : Option Refusal → Option Asn1DerError
error_of refusal = option_map (λ r. r.0) refusal
