-- Numbers to the base 128, as the contents of an OBJECT IDENTIFIER and of a RELATIVE-OID are made of (X.690, 8.19.2,
-- 8.20.2).
use Rattle.std.specs.Prelude.{ℕ, ◌+◌, ◌-◌, ◌*◌, ◌/◌, ◌%◌, Bool, false, not, ◌&&◌, ◌||◌, ◌==◌, nat_lt, List, [], ◌∷◌}
use Rattle.std.specs.Prelude.{◌++◌, map, if◌then◌else◌}
use Rattle.std.specs.List.{flat_map}
use Rattle.std.specs.Int.Digits.{digits_of}

-- ---- what is written of numbers

-- digits that another follows: bit 8 is set
unfoldable pub marked : ℕ → List ℕ
marked n = map (λ d. 0x80 + d) (digits_of 128 n)

-- a number: the most significant digit first, with no leading 0; bit 8 of the last digit is clear
unfoldable pub subidentifier : ℕ → List ℕ
subidentifier n = marked (n / 128) ++ (n % 128 ∷ [])

abbrev pub subidentifiers : List ℕ → List ℕ
subidentifiers ns = flat_map subidentifier ns

-- ---- which bytes are numbers

-- no number begins with 80, and none is cut off; `inside` a number another digit comes before
abbrev pub are_subidentifiers : Bool → List ℕ → Bool
are_subidentifiers inside [] = not inside
are_subidentifiers inside (b ∷ bs) = (inside || not (b == 0x80)) && are_subidentifiers (not (nat_lt b 0x80)) bs

-- at least one number
abbrev pub is_subidentifiers : List ℕ → Bool
is_subidentifiers [] = false
is_subidentifiers (b ∷ bs) = are_subidentifiers false (b ∷ bs)

-- ---- the numbers that bytes are

-- the numbers of these bytes, if the digits before them are the digits of n
abbrev pub numbers_after : ℕ → List ℕ → List ℕ
numbers_after n [] = []
numbers_after n (b ∷ bs) = if nat_lt b 0x80 then (n * 128 + b) ∷ numbers_after 0 bs else numbers_after
    (n * 128 + (b - 0x80)) bs
