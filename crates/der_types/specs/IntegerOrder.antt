-- What an INTEGER is compared by, and how it prints.
use Rattle.std.specs.Prelude.{ℕ, List, length, ℤ, pos, neg_ℤ, Option, Some, None, if◌then◌else◌}
use Rattle.std.specs.Fmt.{signed_decimal}
use Rattle.picky_der_core.specs.Integer.{is_negative, integer_value, fits_signed}

-- how many bytes a content has, below zero if its number is
abbrev pub signed_length : List ℕ → ℤ
signed_length bs = if is_negative bs then neg_ℤ (pos (length bs)) else pos (length bs)

-- the number in decimal; of one that has more than 128 bits nothing is said
abbrev pub number_text : List ℕ → Option (List ℕ)
number_text bs = if fits_signed 128 (integer_value bs) then Some (signed_decimal (integer_value bs)) else None
