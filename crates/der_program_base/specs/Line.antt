-- Text on one line, and what is written for characters that would not stay on it.
use Rattle.std.specs.Prelude.{◌≡◌, ℕ, ◌/◌, ◌%◌, ◌+◌, ◌<◌, Bool, true, false, ◌||◌, ◌==◌, nat_lt, List, [], ◌∷◌}
use Rattle.std.specs.Prelude.{if◌then◌else◌}
use Rattle.std.specs.Char.{is_control, encode_utf8}
use Rattle.std.specs.Int.{is_in_range}
use Rattle.std.specs.List.{flat_map}
use Rattle.std.specs.Str.{NoCharPasses, chars}

-- A character that ends a line, or that moves or hides other characters: a control character, U+061C, U+200B to U+200F,
-- U+2028 to U+202E, U+2060 to U+2069, or U+FEFF.
unfoldable pub is_disruptive : ℕ → Bool
is_disruptive c =
    is_control c || c == 0x61C || is_in_range 0x200B 0x200F c || is_in_range 0x2028 0x202E c
    || is_in_range 0x2060 0x2069 c || c == 0xFEFF

-- no character of the text is such a one
abbrev pub IsOneLine : List ℕ → Type 0
IsOneLine text = NoCharPasses is_disruptive text

-- ---- bytes in hexadecimal

-- the digit of a number below 16, in upper case
unfoldable pub hexadecimal_digit : ℕ → ℕ
hexadecimal_digit number = if nat_lt number 10 then 48 + number else 55 + number

abbrev pub two_digits : ℕ → List ℕ
two_digits byte = hexadecimal_digit (byte / 16) ∷ hexadecimal_digit (byte % 16) ∷ []

-- two digits for each byte
abbrev pub hexadecimal : List ℕ → List ℕ
hexadecimal bytes = flat_map two_digits bytes

-- a backslash and two digits
abbrev pub escaped_byte : ℕ → List ℕ
escaped_byte byte = 92 ∷ two_digits byte

-- ---- texts

-- a character that is disruptive as the bytes of its UTF-8, any other as itself
abbrev pub shown_character : ℕ → List ℕ
shown_character c = if is_disruptive c then flat_map escaped_byte (encode_utf8 c) else encode_utf8 c

-- `special` says which characters get a backslash before them
module _ (special : ℕ → Bool) where
  abbrev pub escaped_character : ℕ → List ℕ
  escaped_character c = if special c then 92 ∷ shown_character c else shown_character c

  -- the characters of a text, one after another
  abbrev pub escaped : List ℕ → List ℕ
  escaped text = flat_map escaped_character (chars text)

-- no character gets one
abbrev pub nothing_special : ℕ → Bool
nothing_special c = false

-- a text whose backslashes stay alone
abbrev pub shown : List ℕ → List ℕ
shown text = escaped nothing_special text

-- the characters that separate names or begin bytes, and the backslash (RFC 4514, 2.4)
unfoldable pub is_special_in_names : ℕ → Bool
is_special_in_names c = c == 34 || c == 35 || c == 43 || c == 44 || c == 59 || c == 60 || c == 61 || c == 62 || c == 92

-- the quote around a text, and the backslash
unfoldable pub is_special_in_quotes : ℕ → Bool
is_special_in_quotes c = c == 39 || c == 92

-- ---- escapes that can be undone

-- The backslash is special. Each special character is in ASCII, and is neither disruptive nor a digit. So the
-- character after a backslash shows which escape it is.
pub record IsEscaping (special : ℕ → Bool) : Type 0 where
  pub backslash : special 92 ≡ true
  pub ascii : (c : ℕ) → special c ≡ true → c < 128
  pub printed : (c : ℕ) → special c ≡ true → is_disruptive c ≡ false
  pub no_digit : (number : ℕ) → number < 16 → special (hexadecimal_digit number) ≡ false
