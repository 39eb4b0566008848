-- Bytes as hexadecimal text with spaces.
use Rattle.std.specs.Prelude.{ℕ, List, [], ◌∷◌, ◌++◌, ◌==◌, not, filter, flat_map}
use Rattle.hex.specs.Hex.{encode_upper}

-- a text without its spaces
abbrev pub without_spaces : List ℕ → List ℕ
without_spaces text = filter (λ c. not (c == 0x20)) text

-- two digits for each byte, after a space
abbrev pub after_spaces : List ℕ → List ℕ
after_spaces bytes = flat_map (λ b. 0x20 ∷ encode_upper (b ∷ [])) bytes

-- two digits for each byte, with a space between any two bytes
abbrev pub with_spaces : List ℕ → List ℕ
with_spaces [] = []
with_spaces (b ∷ bytes) = encode_upper (b ∷ []) ++ after_spaces bytes
