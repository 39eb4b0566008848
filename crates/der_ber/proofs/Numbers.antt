-- The number in some bytes, as far as they were read.
use Rattle.std.proofs.Common.{◌≡◌, ℕ, ◌+◌, ◌^◌, ◌<◌, ◌≤◌, List, length, take, drop, sym, ap, ◌∙◌}
use Rattle.std.proofs.Common.{arith}
use Rattle.std.proofs.Common.{take-append-drop}
use Rattle.std.specs.Int.Digits.{number_from_digits, number_from_digits_after}
use Rattle.std.proofs.lemmas.Int.Digits.{number_after_append, number_after_ge, number_more}

-- it only grows with more bytes
pub large_number : (ds : List ℕ) (i n : ℕ) → i < length ds → n ≡ number_from_digits 256 (take i ds) → 2 ^ 56 ≤ n
    → 2 ^ 64 ≤ number_from_digits 256 ds
large_number ds i n h e large =
    let whole : number_from_digits 256 ds
    ≡ number_from_digits_after 256 (number_from_digits 256 (take (i + 1) ds)) (drop (i + 1) ds) =
    ap (number_from_digits 256) (sym (take-append-drop (i + 1) ds))
    ∙ number_after_append 256 0 (take (i + 1) ds) (drop (i + 1) ds) in
    let more = number_more 256 ds i h in
    let least =
    number_after_ge 256 (number_from_digits 256 (take (i + 1) ds)) (drop (i + 1) ds) (omega arith) in
    omega (arith, whole, more, least)
