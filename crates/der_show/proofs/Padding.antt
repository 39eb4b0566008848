-- Numbers in columns.
use Rattle.std.proofs.Common.{◌≡◌, ℕ, zero, suc, ◌+◌, ◌-◌, ◌*◌, ◌^◌, false, List, [], ◌∷◌, ◌++◌, length, refl, ap, ◌∙◌}
use Rattle.std.proofs.Common.{arith, append-nil}
use Rattle.std.specs.Prelude.{codes, replicate}
use Rattle.std.proofs.lemmas.List.{replicate-append-replicate}
use Rattle.std.specs.List.{repeat}
use Rattle.std.specs.Fmt.{padded_integral, format_spec, char_count}
use Rattle.der_show.specs.Lines.{spaces}

repeat_one : (n x : ℕ) → repeat n (x ∷ []) ≡ replicate n x
repeat_one zero x = refl
repeat_one (suc n) x = ap (λ t. x ∷ t) (repeat_one n x)

before_text : (pad size : ℕ) (text : List ℕ) → pad ≡ size
    → (repeat pad (0x20 ∷ []) ++ [] ++ [] ++ []) ++ (text ++ repeat (pad - pad) (0x20 ∷ [])) ≡ replicate size
    0x20 ++ text
before_text pad size text e = let none : size - size ≡ 0 = omega arith in simp (repeat_one, e, none, append-nil)

after_text : (pad size : ℕ) (text : List ℕ) → pad ≡ size → text ++ repeat pad (0x20 ∷ []) ≡ text ++ replicate size 0x20
after_text pad size text e = simp (repeat_one, e)

pub padded_right : (width : ℕ) (text : List ℕ) → padded_integral (format_spec 32 3 0 width (2 ^ 64 - 1)) false [] text
    ≡ replicate (width - length text) 0x20 ++ text
unfolding padded_integral char_count lib.Utf8.encode
padded_right width text = before_text (width - length text - 0 - 0) (width - length text) text (omega arith)

pub padded_left : (width : ℕ) (text : List ℕ) → padded_integral (format_spec 32 1 0 width (2 ^ 64 - 1)) false [] text
    ≡ text ++ replicate (width - length text) 0x20
unfolding padded_integral char_count lib.Utf8.encode
padded_left width text = after_text (width - length text - 0 - 0 - 0) (width - length text) text (omega arith)

pub two_spaces : (n : ℕ) → spaces (2 * n) ++ codes "  " ≡ spaces (2 * (n + 1))
two_spaces n =
    let more : 2 * n + 2 ≡ 2 * (n + 1) = omega arith in
    let space : ℕ = 0x20 in
    replicate-append-replicate (2 * n) 2 space ∙ ap spaces more
