-- Which contents there are, by the tag.
use Rattle.std.specs.Prelude.{◌≡◌, ℕ, Bool, ◌||◌, List, [], ◌∷◌, length, nat_lt, ◌==◌, if◌then◌else◌, Option, Some}
use Rattle.std.specs.Prelude.{None}
use Rattle.std.specs.Str.{is_utf8}
use Rattle.picky_der_core.specs.Integer.{is_integer}
use Rattle.picky_der_core.specs.Shape.{contains}
use Rattle.der_types.specs.BitString.{is_bit_string}
use Rattle.der_types.specs.declared.width.Width.TheVariants.{Two, Four}
use Rattle.der_types.specs.CharacterStrings.{is_string_content, is_universal, is_bmp}
use Rattle.der_types.specs.ObjectIdentifier.{is_object_identifier}
use Rattle.der_types.specs.RelativeOid.{is_relative_oid}
use Rattle.der_types.specs.TimeContents.{is_utc_time, is_generalized_time}
use Rattle.der_show.specs.declared.rule.Rule.{Rule}
use Rattle.der_show.specs.declared.rule.Rule.TheVariants as rule
use Rattle.der_show.specs.Members.{IsSetContent, IsNoSetContent}

-- ---- which encodings are primitive, and which constructed

-- BOOLEAN, INTEGER, NULL, OBJECT IDENTIFIER, REAL, ENUMERATED, RELATIVE-OID and TIME, with the bit of a constructed
-- encoding
abbrev pub primitive_alone : List ℕ
primitive_alone = 0x21 ∷ 0x22 ∷ 0x25 ∷ 0x26 ∷ 0x29 ∷ 0x2A ∷ 0x2D ∷ 0x2E ∷ []

-- the string types, and the times, which are strings, with that bit
abbrev pub strings_in_parts : List ℕ
strings_in_parts = 0x23 ∷ 0x24 ∷ 0x27 ∷ 0x2C ∷ 0x32 ∷ 0x33 ∷ 0x34 ∷ 0x35 ∷ 0x36 ∷ 0x37 ∷ 0x38 ∷ 0x39 ∷ 0x3A ∷ 0x3B
    ∷ 0x3C ∷ 0x3E ∷ []

-- EXTERNAL, EMBEDDED PDV, SEQUENCE, SET and CHARACTER STRING, without it
abbrev pub constructed_rule : ℕ → Option Rule
constructed_rule tag =
    if tag == 0x08 then Some rule.PrimitiveExternal
    else (if tag == 0x0B then Some rule.PrimitiveEmbeddedPdv
    else (if (tag == 0x10) || (tag == 0x11) then Some rule.NotConstructed
    else (if tag == 0x1D then Some rule.PrimitiveCharacterString
    else None)))

-- the rule that a tag breaks, if it does
abbrev pub form_rule : ℕ → Option Rule
form_rule tag =
    if (tag == 0x00) || (tag == 0x20) then Some rule.EndOfContents
    else (if contains primitive_alone tag then Some rule.NotPrimitive
    else (if contains strings_in_parts tag then Some rule.ConstructedString
    else constructed_rule tag))

-- ---- the contents of primitive encodings

abbrev pub unless : Bool → Rule → Option Rule
unless kept r = if kept then None else Some r

abbrev pub boolean_rule : List ℕ → Option Rule
boolean_rule (b ∷ []) = unless ((b == 0x00) || (b == 0xFF)) rule.BooleanValue
boolean_rule _ = Some rule.BooleanSize

abbrev pub integer_rule : List ℕ → Option Rule
integer_rule [] = Some rule.EmptyInteger
integer_rule (b ∷ bs) = unless (is_integer (b ∷ bs)) rule.PaddedInteger

-- of a content that is none of a BIT STRING: which rule it breaks
abbrev pub broken_bits : List ℕ → Rule
broken_bits (u ∷ b ∷ bs) = if nat_lt u 8 then rule.UnusedBits else rule.UnusedCount
broken_bits _ = rule.UnusedCount

abbrev pub bit_string_rule : List ℕ → Option Rule
bit_string_rule bs = unless (is_bit_string bs) (broken_bits bs)

abbrev pub null_rule : List ℕ → Option Rule
null_rule bs = unless (length bs == 0) rule.NullContent

-- the rule that a text breaks whose characters aren't one byte each, if it does
abbrev pub string_rule : ℕ → List ℕ → Option Rule
string_rule tag bs =
    if tag == 0x0C then unless (is_utf8 bs) rule.Utf8
    else (if tag == 0x1C then unless (is_string_content Four is_universal bs) rule.UniversalString
    else (if tag == 0x1E then unless (is_string_content Two is_bmp bs) rule.BmpString
    else None))

-- the rule that a content breaks, if it does
abbrev pub primitive_rule : ℕ → List ℕ → Option Rule
primitive_rule tag bs =
    if tag == 0x01 then boolean_rule bs
    else (if (tag == 0x02) || (tag == 0x0A) then integer_rule bs
    else (if tag == 0x03 then bit_string_rule bs
    else (if tag == 0x05 then null_rule bs
    else (if tag == 0x06 then unless (is_object_identifier bs) rule.ObjectIdentifier
    else (if tag == 0x0D then unless (is_relative_oid bs) rule.RelativeOid
    else (if tag == 0x17 then unless (is_utc_time bs) rule.UtcTime
    else (if tag == 0x18 then unless (is_generalized_time bs) rule.GeneralizedTime
    else string_rule tag bs)))))))

-- ---- contents of all encodings

-- the content is one that DER has under this tag
pub record IsContent (tag : ℕ) (content : List ℕ) : Type 0 where
  pub primitive : primitive_rule tag content ≡ None
  pub set : tag ≡ 0x31 → IsSetContent content

-- the content breaks this rule
pub data BreaksContent (tag : ℕ) (content : List ℕ) (r : Rule) : Type 0 where
  primitive : primitive_rule tag content ≡ Some r → BreaksContent tag content r
  set : tag ≡ 0x31 → IsNoSetContent content → r ≡ rule.SetOrder → BreaksContent tag content r
