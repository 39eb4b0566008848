-- Worked examples of refusals: the definitions compute them.
use Rattle.std.proofs.Common.{◌≡◌, true, false, [], ◌∷◌, replicate, refl, Some, None, Ok, Err}
use Rattle.picky_der_core.specs.declared.error.Asn1DerError.TheVariants.{TruncatedData, InvalidData, UnsupportedValue}
use Rattle.picky_der_core.specs.declared.asn1.wrapper.Wrapper.TheVariants.{Explicit}
use Rattle.picky_der_core.specs.Refusal.{length_of, error_of, plain_refusal, inside_refusal, header_refusal}
use Rattle.picky_der_core.specs.Refusal.{wrapper_header, refusal_of, element_refusal, boolean_error, unsigned_error}
use Rattle.picky_der_core.specs.Refusal.{null_error, text_error, character_error, bytes_error}
use Rattle.picky_der_core.proofs.OnLiterals.{text_on_literals}

-- ---- lengths

zero_in_long_form : length_of TruncatedData (0x80 ∷ []) ≡ Err (InvalidData, [])
zero_in_long_form = refl

five_in_long_form : length_of TruncatedData (0x81 ∷ 0x05 ∷ []) ≡ Err (InvalidData, [])
five_in_long_form = refl

leading_zero : length_of TruncatedData (0x82 ∷ 0x00 ∷ 0x80 ∷ []) ≡ Err (InvalidData, [])
leading_zero = refl

nine_length_bytes : length_of TruncatedData (0x89 ∷ []) ≡ Err (UnsupportedValue, [])
nine_length_bytes = refl

reserved : length_of TruncatedData (0xFF ∷ []) ≡ Err (UnsupportedValue, [])
reserved = refl

cut_length : length_of TruncatedData (0x82 ∷ 0x01 ∷ []) ≡ Err (TruncatedData, [])
cut_length = refl

cut_after_zero : length_of TruncatedData (0x82 ∷ 0x00 ∷ []) ≡ Err (TruncatedData, [])
cut_after_zero = refl

no_length : length_of TruncatedData [] ≡ Err (TruncatedData, [])
no_length = refl

whole_length : length_of TruncatedData (0x82 ∷ 0x01 ∷ 0x22 ∷ 0x07 ∷ []) ≡ Ok (290, 0x07 ∷ [])
whole_length = refl

-- ---- numbers, before a soft end

needless_zero : error_of (plain_refusal 0x02 (unsigned_error 255) false 4 (0x02 ∷ 0x02 ∷ 0x00 ∷ 0x7F ∷ []))
    ≡ Some InvalidData
needless_zero = refl

negative : error_of (plain_refusal 0x02 (unsigned_error 255) false 3 (0x02 ∷ 0x01 ∷ 0x80 ∷ [])) ≡ Some UnsupportedValue
negative = refl

too_large : error_of (plain_refusal 0x02 (unsigned_error 255) false 4 (0x02 ∷ 0x02 ∷ 0x01 ∷ 0x00 ∷ []))
    ≡ Some UnsupportedValue
too_large = refl

empty_number : error_of (plain_refusal 0x02 (unsigned_error 255) false 2 (0x02 ∷ 0x00 ∷ [])) ≡ Some TruncatedData
empty_number = refl

tag_alone : error_of (plain_refusal 0x02 (unsigned_error 255) false 1 (0x02 ∷ [])) ≡ Some TruncatedData
tag_alone = refl

long_length_of_one : error_of (plain_refusal 0x02 (unsigned_error 255) false 4 (0x02 ∷ 0x81 ∷ 0x01 ∷ 0x07 ∷ []))
    ≡ Some InvalidData
long_length_of_one = refl

foreign_tag : error_of (plain_refusal 0x02 (unsigned_error 255) false 3 (0x01 ∷ 0x01 ∷ 0xFF ∷ [])) ≡ Some InvalidData
foreign_tag = refl

needed_zero : error_of (plain_refusal 0x02 (unsigned_error 255) false 4 (0x02 ∷ 0x02 ∷ 0x00 ∷ 0x80 ∷ [])) ≡ None
needed_zero = refl

greatest : error_of (plain_refusal 0x02 (unsigned_error 0xFFFF_FFFF_FFFF_FFFF_FFFF_FFFF_FFFF_FFFF) false 19
    (0x02 ∷ 0x11 ∷ 0x00 ∷ replicate 16 0xFF)) ≡ None
greatest = refl

past_greatest : error_of (plain_refusal 0x02 (unsigned_error 0xFFFF_FFFF_FFFF_FFFF_FFFF_FFFF_FFFF_FFFF) false 20
    (0x02 ∷ 0x12 ∷ 0x00 ∷ replicate 17 0xFF)) ≡ Some UnsupportedValue
past_greatest = refl

-- ---- bools and null

one : error_of (plain_refusal 0x01 boolean_error false 3 (0x01 ∷ 0x01 ∷ 0x01 ∷ [])) ≡ Some InvalidData
one = refl

two_bytes : error_of (plain_refusal 0x01 boolean_error false 4 (0x01 ∷ 0x02 ∷ 0xFF ∷ 0xFF ∷ [])) ≡ Some InvalidData
two_bytes = refl

no_byte : error_of (plain_refusal 0x01 boolean_error false 2 (0x01 ∷ 0x00 ∷ [])) ≡ Some TruncatedData
no_byte = refl

truth : error_of (plain_refusal 0x01 boolean_error false 3 (0x01 ∷ 0x01 ∷ 0xFF ∷ [])) ≡ None
truth = refl

null_with_content : error_of (plain_refusal 0x05 null_error false 3 (0x05 ∷ 0x01 ∷ 0x00 ∷ [])) ≡ Some InvalidData
null_with_content = refl

-- ---- ends: a length past a soft and a hard one, a byte missing at them, and input that ends before them

past_soft : error_of (plain_refusal 0x04 bytes_error false 10 (0x04 ∷ 0x88 ∷ replicate 8 0xFF)) ≡ Some TruncatedData
past_soft = refl

past_hard : error_of (plain_refusal 0x04 bytes_error true 10 (0x04 ∷ 0x88 ∷ replicate 8 0xFF)) ≡ Some InvalidData
past_hard = refl

missing_at_hard : error_of (plain_refusal 0x02 (unsigned_error 255) true 2 (0x02 ∷ 0x82 ∷ [])) ≡ Some InvalidData
missing_at_hard = refl

cut_before_hard : error_of (plain_refusal 0x02 (unsigned_error 255) true 3 (0x02 ∷ 0x82 ∷ [])) ≡ Some TruncatedData
cut_before_hard = refl

cut_content : error_of (plain_refusal 0x02 (unsigned_error 255) true 3 (0x02 ∷ 0x01 ∷ [])) ≡ Some TruncatedData
cut_content = refl

-- ---- what is left after the consumed bytes

after_foreign_tag : plain_refusal 0x02 (unsigned_error 255) false 5 (0x01 ∷ 0x01 ∷ 0xFF ∷ 0x05 ∷ 0x00 ∷ [])
    ≡ Some (InvalidData, 0x01 ∷ 0xFF ∷ 0x05 ∷ 0x00 ∷ [])
after_foreign_tag = refl

after_long_length : plain_refusal 0x02 (unsigned_error 255) false 4 (0x02 ∷ 0x81 ∷ 0x01 ∷ 0x07 ∷ [])
    ≡ Some (InvalidData, 0x07 ∷ [])
after_long_length = refl

after_content : plain_refusal 0x02 (unsigned_error 255) false 5 (0x02 ∷ 0x01 ∷ 0x80 ∷ 0x05 ∷ 0x00 ∷ [])
    ≡ Some (UnsupportedValue, 0x05 ∷ 0x00 ∷ [])
after_content = refl

after_length_past_end : plain_refusal 0x04 bytes_error true 4 (0x04 ∷ 0x03 ∷ 0xAA ∷ 0xBB ∷ [])
    ≡ Some (InvalidData, 0xAA ∷ 0xBB ∷ [])
after_length_past_end = refl

-- ---- directly under an implicit tag, headers and whole elements

implicit_unsigned : error_of (inside_refusal 0x02 (unsigned_error 255) 1 (0x07 ∷ [])) ≡ None
implicit_unsigned = refl

implicit_cut : error_of (inside_refusal 0x02 (unsigned_error 255) 5 (0x07 ∷ [])) ≡ Some TruncatedData
implicit_cut = refl

high_tag_number : error_of (plain_refusal 0x1F bytes_error false 3 (0x1F ∷ 0x01 ∷ 0xAA ∷ [])) ≡ Some UnsupportedValue
high_tag_number = refl

sequence_header : error_of (header_refusal 0x30 false 10 (0x30 ∷ 0x88 ∷ replicate 8 0xFF)) ≡ Some TruncatedData
sequence_header = refl

sequence_header_alone : error_of (header_refusal 0x30 false 5 (0x30 ∷ 0x03 ∷ [])) ≡ None
sequence_header_alone = refl

explicit_of_32 : refusal_of (wrapper_header (Explicit 32) false 2 (0xC0 ∷ 0x00 ∷ []))
    ≡ Some (UnsupportedValue, 0xC0 ∷ 0x00 ∷ [])
explicit_of_32 = refl

raw_of_long_tag : error_of (element_refusal false 4 (0x1F ∷ 0x81 ∷ 0x00 ∷ 0x00 ∷ [])) ≡ Some UnsupportedValue
raw_of_long_tag = refl

raw_of_long_length : error_of (element_refusal false 4 (0x02 ∷ 0x81 ∷ 0x01 ∷ 0x07 ∷ [])) ≡ Some InvalidData
raw_of_long_length = refl

-- ---- texts

empty_text : error_of (plain_refusal 0x0C text_error false 2 (0x0C ∷ 0x00 ∷ [])) ≡ None
unfolding text_on_literals
empty_text = refl

no_character : error_of (plain_refusal 0x0C character_error false 2 (0x0C ∷ 0x00 ∷ [])) ≡ Some UnsupportedValue
unfolding text_on_literals
no_character = refl

two_characters : error_of (plain_refusal 0x0C character_error false 4 (0x0C ∷ 0x02 ∷ 0x41 ∷ 0x42 ∷ []))
    ≡ Some InvalidData
unfolding text_on_literals
two_characters = refl

no_utf8 : error_of (plain_refusal 0x0C character_error false 3 (0x0C ∷ 0x01 ∷ 0xFF ∷ [])) ≡ Some InvalidData
unfolding text_on_literals
no_utf8 = refl

e_acute : error_of (plain_refusal 0x0C character_error false 4 (0x0C ∷ 0x02 ∷ 0xC3 ∷ 0xA9 ∷ [])) ≡ None
unfolding text_on_literals
e_acute = refl
