-- The contents of a BIT STRING (X.690, 8.6, 11.2).
use Rattle.std.specs.Prelude.{ℕ, ◌+◌, ◌-◌, ◌*◌, ◌/◌, ◌%◌, ◌^◌, Bool, false, ◌&&◌, ◌==◌, nat_lt, List, [], ◌∷◌, length}
use Rattle.std.specs.Prelude.{map, take, slice_index, if◌then◌else◌}
use Rattle.std.specs.List.{flat_map}

-- ---- what is written of bits

-- bits from the bit of this weight down; missing bits are 0 (11.2.1)
abbrev pub weigh : ℕ → List Bool → ℕ
weigh w [] = 0
weigh w (b ∷ bits) = (if b then w else 0) + weigh (w / 2) bits

-- the first bit is bit 8 of the first byte, and so on (8.6.2.1)
abbrev pub octets : List Bool → List ℕ
octets [] = []
octets (a ∷ b ∷ c ∷ d ∷ e ∷ f ∷ g ∷ h ∷ bits) = weigh 128 (a ∷ b ∷ c ∷ d ∷ e ∷ f ∷ g ∷ h ∷ []) ∷ octets bits
octets bits = weigh 128 bits ∷ []

-- how many bits of the last byte are unused, and the bytes (8.6.2.2)
abbrev pub bit_string_content : List Bool → List ℕ
bit_string_content bits = (8 * length (octets bits) - length bits) ∷ octets bits

-- ---- which contents there are

-- how many bits of the last byte are unused, from 0 to 7 (8.6.2.2), and the bytes: 0 if there are none (8.6.2.3), and
-- the unused bits are zero (11.2.1)
abbrev pub is_bit_string : List ℕ → Bool
is_bit_string [] = false
is_bit_string (u ∷ []) = u == 0
is_bit_string (u ∷ b ∷ bs) = nat_lt u 8 && (slice_index (b ∷ bs) (length bs) % 2 ^ u == 0)

-- whether the bit with this number is one, where 0 is the lowest
abbrev pub is_bit_set : ℕ → ℕ → Bool
is_bit_set b k = b / 2 ^ k % 2 == 1

-- of a list of named bits: the last bit that is used is one (11.2.2)
abbrev pub is_named_bits : List ℕ → Bool
is_named_bits [] = false
is_named_bits (u ∷ []) = u == 0
is_named_bits (u ∷ b ∷ bs) = nat_lt u 8 && (slice_index (b ∷ bs) (length bs) % 2 ^ u == 0) && is_bit_set
    (slice_index (b ∷ bs) (length bs)) u

-- ---- the bits of a content

-- this bit of a byte, where 0 is the highest
abbrev pub byte_bit : ℕ → ℕ → Bool
byte_bit b place = is_bit_set b (7 - place)

abbrev pub byte_bits : ℕ → List Bool
byte_bits b = map (byte_bit b) (0 ∷ 1 ∷ 2 ∷ 3 ∷ 4 ∷ 5 ∷ 6 ∷ 7 ∷ [])

-- the bits of the bytes without the unused ones
abbrev pub bits_of : List ℕ → List Bool
bits_of [] = []
bits_of (u ∷ bytes) = take (8 * length bytes - u) (flat_map byte_bits bytes)

-- ---- named bits

-- a zero that no one follows is left out
abbrev pub unless_zeros : Bool → List Bool → List Bool
unless_zeros false [] = []
unless_zeros b bits = b ∷ bits

-- without the zeros after the last bit that is one
abbrev pub without_zeros : List Bool → List Bool
without_zeros [] = []
without_zeros (b ∷ bits) = unless_zeros b (without_zeros bits)
