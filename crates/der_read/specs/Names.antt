-- Names as text (RFC 4514, 2).
use Rattle.std.specs.Prelude.{String, string_bytes, ◌≡◌, ◌==◌, ℕ, Bool, List, [], ◌∷◌, ◌++◌, map, Option, None, Some}
use Rattle.std.specs.Prelude.{if◌then◌else◌, codes, is_err}
use Rattle.std.specs.declared.alloc.Global.{Global}
use Rattle.std.specs.List.{AllZip, flat_map, list_all, list_any}
use Rattle.std.specs.Str.{is_utf8, encode_utf8_all}
use Rattle.picky_der_core.specs.Element.{IsElement}
use Rattle.picky_der_core.specs.Shape.{contains}
use Rattle.der_elements.specs.Elements.{element_bytes}
use Rattle.der_program_base.specs.Line.{escaped, is_special_in_names}
use Rattle.der_program_base.specs.Texts.{marked_bytes}
use Rattle.der_types.specs.declared.object_identifier.ObjectIdentifier.{ObjectIdentifier}
use Rattle.der_types.specs.declared.width.Width.TheVariants.{Two, Four}
use Rattle.der_types.specs.CharacterStrings.{is_ia5, is_bmp, is_universal, is_string_content, characters}
use Rattle.der_types.specs.Dotted.{dotted_or_marked, fitted}
use Rattle.der_types.specs.ObjectIdentifier.{arcs_of}
use Rattle.der_x509.specs.declared.names.AttributeTypeAndValue.{AttributeTypeAndValue}
use Rattle.der_x509.specs.declared.names.Name.{Name}
use Rattle.der_x509.specs.declared.names.Name.TheVariants.{RdnSequence}
use Rattle.der_read.specs.declared.attribute_name.AttributeName.{AttributeName}
use Rattle.der_read.specs.AttributeNames.{IsNameOf, content_of, name_of}

-- texts, one after another, with this one between them
abbrev pub joined : List ℕ → List (List ℕ) → List ℕ
joined separator [] = []
joined separator (text ∷ texts) = text ++ flat_map (λ other. separator ++ other) texts

-- ---- types of attributes

-- an arc has more than 64 bits
abbrev pub has_wide_arc : ObjectIdentifier → Bool
has_wide_arc id = list_any is_err (map fitted (arcs_of (content_of id)))

-- the arcs with dots between them, or the bytes of the content if an arc has more than 64 bits
abbrev pub dotted_text : ObjectIdentifier → List ℕ
dotted_text id = if has_wide_arc id then marked_bytes (content_of id) else dotted_or_marked
    (map fitted (arcs_of (content_of id)))

abbrev pub name_or_dotted : Option AttributeName → ObjectIdentifier → List ℕ
name_or_dotted (Some name) id = name_of name
name_or_dotted None id = dotted_text id

-- the name of a type, or else its arcs
abbrev pub IsTypeText : ObjectIdentifier → List ℕ → Type 0
IsTypeText id text = (found : Option AttributeName) × IsNameOf (content_of id) found × (text ≡ name_or_dotted found id)

-- ---- values

-- the UTF-8 of what a content has, if this holds
abbrev pub text_if : Bool → List ℕ → Option (List ℕ)
text_if holds text = if holds then Some text else None

abbrev pub utf8_text : List ℕ → Option (List ℕ)
utf8_text content = text_if (is_utf8 content) content

abbrev pub ascii_text : List ℕ → Option (List ℕ)
ascii_text content = text_if (list_all is_ia5 content) content

abbrev pub universal_text : List ℕ → Option (List ℕ)
universal_text content =
    text_if (is_string_content Four is_universal content) (encode_utf8_all (characters Four content))

abbrev pub bmp_text : List ℕ → Option (List ℕ)
bmp_text content = text_if (is_string_content Two is_bmp content) (encode_utf8_all (characters Two content))

-- NumericString, PrintableString, TeletexString, IA5String and VisibleString
abbrev pub narrow_strings : List ℕ
narrow_strings = 0x12 ∷ 0x13 ∷ 0x14 ∷ 0x16 ∷ 0x1A ∷ []

-- The text of a string with this tag and content, if it is one that names have (X.520): those above in ASCII,
-- UTF8String, UniversalString and BMPString.
abbrev pub string_text : ℕ → List ℕ → Option (List ℕ)
string_text tag content =
    if tag == 0x0C then utf8_text content
    else (if contains narrow_strings tag then ascii_text content
    else (if tag == 0x1C then universal_text content
    else (if tag == 0x1E then bmp_text content else None)))

-- the bytes are a string with this text
pub record IsString (bytes text : List ℕ) : Type 0 where
  pub element : IsElement bytes
  pub has : string_text element.tag element.content ≡ Some text

-- the value of an attribute: the text of a string, and any other element as bytes
pub data IsValueText (element text : List ℕ) : Type 0 where
  as_text : (s : List ℕ) → IsString element s → text ≡ escaped is_special_in_names s → IsValueText element text
  as_bytes : ((s : List ℕ) → IsString element s → ⊥) → text ≡ marked_bytes element → IsValueText element text

-- ---- attributes, steps and names

pub record IsAttributeText (a : AttributeTypeAndValue) (text : List ℕ) : Type 0 where
  pub type_text : List ℕ
  pub value_text : List ℕ
  pub of_type : IsTypeText a.type_ type_text
  pub of_value : IsValueText (element_bytes a.value) value_text
  pub is : text ≡ type_text ++ (codes "=" ++ value_text)

abbrev pub IsTextOfAttribute : AttributeTypeAndValue → String Global → Type 0
IsTextOfAttribute a text = IsAttributeText a (string_bytes text)

-- the attributes of a step
pub record IsStepText (attributes : List AttributeTypeAndValue) (text : List ℕ) : Type 0 where
  pub texts : List (List ℕ)
  pub each : AllZip IsAttributeText attributes texts
  pub is : text ≡ joined (codes " + ") texts

-- the steps of a name, from the root down
pub record IsStepsText (steps : List (List AttributeTypeAndValue)) (text : List ℕ) : Type 0 where
  pub texts : List (List ℕ)
  pub each : AllZip IsStepText steps texts
  pub is : text ≡ joined (codes ", ") texts

abbrev pub IsNameText : Name → List ℕ → Type 0
IsNameText (RdnSequence steps) text = IsStepsText (map (λ step. step.value.0.items) steps.items) text
