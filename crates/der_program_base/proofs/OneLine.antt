-- Texts on one line.
use mathlib.Core.Bool.{true≢false}
use Rattle.std.proofs.Common.{◌≡◌, ℕ, ◌<◌, Bool, true, false, cond, not, ◌&&◌, List, [], ◌∷◌, ◌++◌, append-nil, sym}
use Rattle.std.proofs.Common.{subst, arith, refl}
use Rattle.std.specs.Prelude.{encode_utf8, nat_lt}
use Rattle.std.specs.Char.{is_control}
use Rattle.std.specs.List.{list_all}
use Rattle.std.proofs.lemmas.Bool.Decides.{nat_tests}
use Rattle.std.proofs.lemmas.Str.{encode_ascii, NoCharPasses-nil, NoCharPasses-append}
use Rattle.der_program_base.specs.Line.{is_disruptive, IsOneLine}

one_character : (c : ℕ) → is_disruptive c ≡ false → IsOneLine (encode_utf8 c)
one_character c visible = (c ∷ [], append-nil (encode_utf8 c), (visible, tt))

pub joined_line : (front back : List ℕ) → IsOneLine front → IsOneLine back → IsOneLine (front ++ back)
joined_line front back = NoCharPasses-append is_disruptive front back

-- what `push` of a String leaves
pub pushed_line : (is_pushed : Bool) (old : List ℕ) (c : ℕ) → is_disruptive c ≡ false → IsOneLine old
    → IsOneLine (cond is_pushed (old ++ encode_utf8 c) old)
pushed_line true old c visible h = joined_line old (encode_utf8 c) h (one_character c visible)
pushed_line false old c visible h = h

-- in ASCII no other than a control character is disruptive
pub not_disruptive : (c : ℕ) → c < 128 → is_control c ≡ false → is_disruptive c ≡ false
unfolding is_disruptive
not_disruptive c small visible = grind (arith, nat_tests)

-- ---- literals

-- a character of ASCII that is no control character
abbrev pub is_visible : ℕ → Bool
is_visible byte = nat_lt byte 128 && not (is_control byte)

one_byte : (byte : ℕ) → byte < 128 → is_control byte ≡ false → IsOneLine (byte ∷ [])
one_byte byte small visible =
    subst IsOneLine (encode_ascii byte small) (one_character byte (not_disruptive byte small visible))

both_true : (p q : Bool) → p && q ≡ true → (p ≡ true) × (q ≡ true)
both_true true q h = (refl, h)
both_true false q h = absurd (true≢false (sym h))

not_true : (p : Bool) → not p ≡ true → p ≡ false
not_true true h = absurd (true≢false (sym h))
not_true false h = refl

-- At a literal the test computes to true.
pub literal_line : (text : List ℕ) → list_all is_visible text ≡ true → IsOneLine text
literal_line [] h = NoCharPasses-nil is_disruptive
literal_line (byte ∷ bytes) h =
    let all = both_true (is_visible byte) (list_all is_visible bytes) h in
    let here = both_true (nat_lt byte 128) (not (is_control byte)) all.0 in
    let small : byte < 128 = grind (arith, nat_tests, here.0) in
    joined_line (byte ∷ []) bytes (one_byte byte small (not_true _ here.1)) (literal_line bytes all.1)
