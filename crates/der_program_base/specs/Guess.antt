-- What a text without blocks of PEM seems to be.
use Rattle.std.specs.Prelude.{ℕ, Bool, ◌||◌, List, [], ◌∷◌, codes, nat_eq, is_ok, if◌then◌else◌}
use Rattle.std.specs.Char.{is_ascii_whitespace, is_ascii_hexdigit}
use Rattle.std.specs.List.{list_all, list_any, starts_with}
use Rattle.der_program_base.specs.declared.guess.Guess.{Guess}
use Rattle.der_program_base.specs.declared.guess.Guess.TheVariants.{Nothing, Hexadecimal, Base64, Mail, NearlyPem, Text}
use Rattle.der_program_base.specs.Lines.{lines_of, trimmed, dashes}
use Rattle.der_program_base.specs.Sections.{bytes_in}

-- the byte order mark in UTF-8
abbrev pub byte_order_mark : List ℕ
byte_order_mark = 0xEF ∷ 0xBB ∷ 0xBF ∷ []

abbrev pub has_mark : List ℕ → Bool
has_mark input = starts_with nat_eq input byte_order_mark

abbrev pub is_blank : List ℕ → Bool
is_blank input = list_all is_ascii_whitespace input

-- hexadecimal digits and white space
abbrev pub is_hexadecimal : List ℕ → Bool
is_hexadecimal input = list_all (λ byte. is_ascii_hexdigit byte || is_ascii_whitespace byte) input

-- the input without white space encodes bytes
abbrev pub is_base64 : List ℕ → Bool
is_base64 input = is_ok (bytes_in (input ∷ []))

-- a field of a mail whose content is in MIME (RFC 2045, 4 and 5)
abbrev pub is_mail_field : List ℕ → Bool
is_mail_field line = starts_with nat_eq line (codes "MIME-Version:") || starts_with nat_eq line (codes "Content-Type:")

-- four hyphens, with which lines begin in PEM and in RFC 4716
abbrev pub begins_with_hyphens : List ℕ → Bool
begins_with_hyphens text = starts_with nat_eq text (codes "----")

abbrev pub has_hyphens : List ℕ → Bool
has_hyphens line = begins_with_hyphens (trimmed line)

-- the first that fits
unfoldable pub guess_of : List ℕ → Guess
guess_of input =
    if is_blank input then Nothing
    else (if is_hexadecimal input then Hexadecimal
    else (if is_base64 input then Base64
    else (if list_any is_mail_field (lines_of input) then Mail
    else (if list_any has_hyphens (lines_of input) then NearlyPem
    else Text))))
