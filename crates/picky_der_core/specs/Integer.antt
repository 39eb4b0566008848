-- The contents of an INTEGER (X.690, 8.3), which are also the contents of an ENUMERATED (8.4), and what numbers mean.
use Rattle.std.specs.Prelude.{ℕ, ◌-◌, ◌^◌, Bool, true, false, not, ◌||◌, ◌==◌, nat_lt, List, [], ◌∷◌, length, map, ℤ}
use Rattle.std.specs.Prelude.{pos, negsuc, ◌-ℤ◌, if◌then◌else◌}
use Rattle.std.specs.Int.{complement_if}
use Rattle.std.specs.Int.Digits.{number_from_digits}
use Rattle.picky_der_core.specs.declared.asn1.wrapper.Wrapper.TheVariants.{Explicit}
use Rattle.picky_der_core.specs.Primitive.{unsigned_content, Primitive}
use Rattle.picky_der_core.specs.Tree.{Tree}

-- one byte at least (8.3.1), and the first nine bits are neither all 0 nor all 1 (8.3.2)
abbrev pub is_integer : List ℕ → Bool
is_integer [] = false
is_integer (b ∷ []) = true
is_integer (b ∷ c ∷ bs) = if nat_lt c 0x80 then not (b == 0x00) else not (b == 0xFF)

-- a byte with each bit inverted, or as it is
abbrev pub turned_byte : Bool → ℕ → ℕ
turned_byte true b = 0xFF - b
turned_byte false b = b

abbrev pub turned_if : Bool → List ℕ → List ℕ
turned_if t bs = map (turned_byte t) bs

-- the content of a number, in two's complement (8.3.3): -(n + 1) has the bits of n, each inverted
abbrev pub integer_content : ℤ → List ℕ
integer_content (pos n) = unsigned_content n
integer_content (negsuc n) = turned_if true (unsigned_content n)

-- the first bit is 1
abbrev pub is_negative : List ℕ → Bool
is_negative [] = false
is_negative (b ∷ bs) = not (nat_lt b 0x80)

-- the bits of a number, n of both n and -(n + 1)
abbrev pub bits_of : ℤ → ℕ
bits_of (pos n) = n
bits_of (negsuc n) = n

-- the bits of a content
abbrev pub content_bits : List ℕ → ℕ
content_bits bs = number_from_digits 256 (turned_if (is_negative bs) bs)

-- its bytes without one in front that is only the sign
abbrev pub after_sign : List ℕ → List ℕ
after_sign [] = []
after_sign (b ∷ bs) = if b == 0x00 || b == 0xFF then bs else b ∷ bs

-- the number of a content
abbrev pub integer_value : List ℕ → ℤ
integer_value bs = complement_if (is_negative bs) (content_bits bs)

-- the number of bytes by 8.3.3: that of the bits, of which the first counts as negative
abbrev pub twos_complement : List ℕ → ℤ
twos_complement bs = pos (number_from_digits 256 bs) -ℤ pos (if is_negative bs then 256 ^ length bs else 0)

-- ---- the integer types of Rust

-- whether a signed type of k bits has the number, and an unsigned one
abbrev pub fits_signed : ℕ → ℤ → Bool
fits_signed k z = nat_lt (bits_of z) (2 ^ (k - 1))

abbrev pub fits_unsigned : ℕ → ℤ → Bool
fits_unsigned k (pos n) = nat_lt n (2 ^ k)
fits_unsigned k (negsuc n) = false

-- ---- what numbers mean

abbrev pub integer_tree : ℤ → Tree
integer_tree z = Tree.primitive (Primitive.bytes 0x02 (integer_content z))

-- The content of a number of a type. In place of one that the type doesn't have is a list that is no INTEGER's content,
-- and not of bytes.
abbrev pub content_within : (ℤ → Bool) → ℤ → List ℕ
content_within fits z = if fits z then integer_content z else 0xFF ∷ 0x100 ∷ integer_content z

-- what a number of a type means: `integer_tree z`, and for a number that the type doesn't have what is never read
abbrev pub int_tree : (ℤ → Bool) → ℤ → Tree
int_tree fits z = Tree.primitive (Primitive.bytes 0x02 (content_within fits z))

-- A number that an unsigned type doesn't have means what is never read, since no tag has the number 31.
abbrev pub within : Bool → Tree → Tree
within true t = t
within false t = Tree.wrapped (Explicit 31) t

-- what a number of an unsigned type means, by the greatest that it has: `Tree.primitive (Primitive.unsigned n)`
abbrev pub unsigned_tree : ℕ → ℕ → Tree
unsigned_tree most n = within (not (nat_lt most n)) (Tree.primitive (Primitive.unsigned n))
