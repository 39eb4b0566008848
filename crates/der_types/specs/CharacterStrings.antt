-- The contents of the restricted character strings (X.690, 8.23; X.680, 41).
use Rattle.std.specs.Prelude.{ℕ, ◌+◌, ◌*◌, ◌/◌, ◌%◌, ◌^◌, Bool, ◌&&◌, ◌||◌, ◌==◌, nat_lt, List, [], ◌∷◌, length, codes}
use Rattle.std.specs.List.{flat_map, list_all, list_any}
use Rattle.std.specs.Int.{is_in_range}
use Rattle.der_types.specs.declared.width.Width.{Width}
use Rattle.der_types.specs.declared.width.Width.TheVariants.{One, Two, Four}

-- ---- which characters there are (X.680, 41)

abbrev pub is_digit : ℕ → Bool
is_digit c = is_in_range 0x30 0x39 c

-- the digits, and space
abbrev pub is_numeric : ℕ → Bool
is_numeric c = is_digit c || c == 0x20

-- the letters, the digits, space, and ' ( ) + , - . / : = ?
abbrev pub is_printable : ℕ → Bool
is_printable c = is_in_range 0x41 0x5A c || is_in_range 0x61 0x7A c || is_digit c || list_any (λ sign. c == sign)
    (codes " '()+,-./:=?")

-- ASCII
abbrev pub is_ia5 : ℕ → Bool
is_ia5 c = nat_lt c 0x80

-- ASCII without its control characters
abbrev pub is_visible : ℕ → Bool
is_visible c = is_in_range 0x20 0x7E c

-- any byte
abbrev pub is_any_byte : ℕ → Bool
is_any_byte c = nat_lt c 0x100

-- a scalar value of Unicode: no surrogate
abbrev pub is_universal : ℕ → Bool
is_universal c = nat_lt c 0xD800 || is_in_range 0xE000 0x10FFFF c

-- one of the Basic Multilingual Plane
abbrev pub is_bmp : ℕ → Bool
is_bmp c = nat_lt c 0xD800 || is_in_range 0xE000 0xFFFF c

-- ---- what is written of characters

abbrev pub byte_count : Width → ℕ
byte_count One = 1
byte_count Two = 2
byte_count Four = 4

-- the bytes of a character, the most significant one first
abbrev pub character_bytes : Width → ℕ → List ℕ
character_bytes One c = c ∷ []
character_bytes Two c = (c / 2 ^ 8) ∷ (c % 2 ^ 8) ∷ []
character_bytes Four c = (c / 2 ^ 24) ∷ (c / 2 ^ 16 % 2 ^ 8) ∷ (c / 2 ^ 8 % 2 ^ 8) ∷ (c % 2 ^ 8) ∷ []

abbrev pub string_content : Width → List ℕ → List ℕ
string_content width text = flat_map (character_bytes width) text

-- ---- the characters of a content

abbrev pub pairs : List ℕ → List ℕ
pairs (a ∷ b ∷ bs) = (a * 2 ^ 8 + b) ∷ pairs bs
pairs bs = []

abbrev pub quadruples : List ℕ → List ℕ
quadruples (a ∷ b ∷ c ∷ d ∷ bs) = (a * 2 ^ 24 + b * 2 ^ 16 + c * 2 ^ 8 + d) ∷ quadruples bs
quadruples bs = []

abbrev pub characters : Width → List ℕ → List ℕ
characters One bs = bs
characters Two bs = pairs bs
characters Four bs = quadruples bs

-- ---- which contents there are

-- whole characters, each of the set
abbrev pub is_string_content : Width → (ℕ → Bool) → List ℕ → Bool
is_string_content width is_character bs =
    (length bs % byte_count width == 0) && list_all is_character (characters width bs)
