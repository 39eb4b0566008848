-- What is before a content.
use Rattle.std.specs.Prelude.{◌≡◌, ℕ, ◌<◌, List, [], ◌∷◌, ◌++◌, length, ◌==◌, if◌then◌else◌, Err}
use Rattle.picky_der_core.specs.declared.error.Asn1DerError.{Asn1DerError}
use Rattle.picky_der_core.specs.declared.error.Asn1DerError.TheVariants.{TruncatedData, InvalidData, UnsupportedValue}
use Rattle.picky_der_core.specs.Tag.{number_of, IsTagNumber}
use Rattle.picky_der_core.specs.Element.{tlv, length_octets}
use Rattle.picky_der_core.specs.Refusal.{length_of}
use Rattle.der_show.specs.declared.rule.Rule.{Rule}
use Rattle.der_show.specs.declared.rule.Rule.TheVariants as rule
use Rattle.der_show.specs.declared.header.Header.{Header}

-- the bytes begin with an element, whose header this is
pub record HasHeader (bytes : List ℕ) (h : Header) : Type 0 where
  pub content : List ℕ
  pub rest : List ℕ
  pub is : bytes ≡ tlv h.tag content ++ rest
  pub number : IsTagNumber (number_of h.tag)
  pub content_len : length content ≡ h.content_len
  pub header_len : length (h.tag ∷ length_octets (length content)) ≡ h.header_len

-- the rule that a length breaks which is refused with this error
abbrev pub refused_length : Asn1DerError → Rule
refused_length UnsupportedValue = rule.WideLength
refused_length InvalidData = rule.LongLength
refused_length _ = rule.CutHeader

-- 80 announces the indefinite form
abbrev pub length_rule : List ℕ → Asn1DerError → Rule
length_rule [] e = refused_length e
length_rule (b ∷ bs) e = if b == 0x80 then rule.IndefiniteLength else refused_length e

-- no length begins the bytes
pub record BreaksLength (bytes : List ℕ) (r : Rule) : Type 0 where
  pub error : Asn1DerError
  pub left : List ℕ
  pub refused : length_of TruncatedData bytes ≡ Err (error, left)
  pub is : r ≡ length_rule bytes error

-- why the bytes don't begin with an element whose tag is of the short form
pub data BreaksHeader (bytes : List ℕ) (r : Rule) : Type 0 where
  empty : bytes ≡ [] → r ≡ rule.CutHeader → BreaksHeader bytes r
  long_tag : (tag : ℕ) (rest : List ℕ) → bytes ≡ tag ∷ rest → 30 < number_of tag → r ≡ rule.LongTag
      → BreaksHeader bytes r
  no_length : (tag : ℕ) (rest : List ℕ) → bytes ≡ tag ∷ rest → BreaksLength rest r → BreaksHeader bytes r
  past_end : (tag n : ℕ) (rest : List ℕ) → bytes ≡ tag ∷ (length_octets n ++ rest) → length rest < n → r ≡ rule.PastEnd
      → BreaksHeader bytes r
