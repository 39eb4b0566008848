-- The characters of the sets fit their bytes, and are characters of Unicode or of ASCII.
use Rattle.std.proofs.Common.{◌≡◌, ℕ, ◌<◌, ◌^◌, Bool, true, arith}
use Rattle.std.proofs.lemmas.Bool.Decides.{nat_tests}
use Rattle.std.specs.Char.{IsScalar}
use Rattle.der_types.specs.CharacterStrings.{is_numeric, is_printable, is_any_byte, is_ia5, is_visible, is_universal}
use Rattle.der_types.specs.CharacterStrings.{is_bmp}

-- ---- ASCII

pub numeric_is_ascii : (c : ℕ) → is_numeric c ≡ true → c < 0x80
numeric_is_ascii c e = grind (arith, nat_tests)

pub printable_is_ascii : (c : ℕ) → is_printable c ≡ true → c < 0x80
printable_is_ascii c e = grind (arith, nat_tests)

pub ia5_is_ascii : (c : ℕ) → is_ia5 c ≡ true → c < 0x80
ia5_is_ascii c e = grind (arith, nat_tests)

pub visible_is_ascii : (c : ℕ) → is_visible c ≡ true → c < 0x80
visible_is_ascii c e = grind (arith, nat_tests)

pub ascii_is_narrow : (is_character : ℕ → Bool) → ((c : ℕ) → is_character c ≡ true → c < 0x80) → (c : ℕ)
    → is_character c ≡ true → c < 2 ^ 8
ascii_is_narrow p low c e = omega (arith, low c e)

pub ascii_is_unicode : (is_character : ℕ → Bool) → ((c : ℕ) → is_character c ≡ true → c < 0x80) → (c : ℕ)
    → is_character c ≡ true → IsScalar c
ascii_is_unicode p low c e = let small = low c e in grind (arith, nat_tests)

-- ---- others

pub byte_is_narrow : (c : ℕ) → is_any_byte c ≡ true → c < 2 ^ 8
byte_is_narrow c e = grind (arith, nat_tests)

pub universal_is_narrow : (c : ℕ) → is_universal c ≡ true → c < 2 ^ 32
universal_is_narrow c e = grind (arith, nat_tests)

pub universal_is_unicode : (c : ℕ) → is_universal c ≡ true → IsScalar c
universal_is_unicode c e = grind (arith, nat_tests)

pub bmp_is_narrow : (c : ℕ) → is_bmp c ≡ true → c < 2 ^ 16
bmp_is_narrow c e = grind (arith, nat_tests)

pub bmp_is_unicode : (c : ℕ) → is_bmp c ≡ true → IsScalar c
bmp_is_unicode c e = grind (arith, nat_tests)
