-- Texts, and their characters.
use Rattle.std.proofs.Common.{◌≡◌, ℕ, ◌*◌, ◌<◌, ◌≤◌, inl, inr, Bool, true, false, List, [], ◌∷◌, ◌++◌, length, take}
use Rattle.std.proofs.Common.{Some, None, ◌==◌, cond, eqb-true, refl, sym, ◌∙◌, ap, arith, length-append, append-nil}
use Rattle.std.proofs.Common.{IsUtf8, chars, encode_utf8, encode_utf8_all}
use Rattle.std.specs.Str.{is_utf8}
use Rattle.std.proofs.lemmas.Bool.{cases_lt}
use Rattle.std.proofs.lemmas.Bool.Decides.{nat_tests}
use Rattle.std.proofs.lemmas.Grind.{common_steps}
use Rattle.std.proofs.lemmas.Str.{IsUtf8-from_is_utf8, is_utf8-from_IsUtf8, chars-nil, chars_past_char}
use Rattle.std.proofs.lemmas.Str.{IsUtf8-past_char, encodes-chars, length-encode, len_utf8_bounds}
use Rattle.picky_der_core.specs.declared.error.Asn1DerError.TheVariants.{InvalidData, UnsupportedValue}
use Rattle.picky_der_core.specs.Refusal.{text_error, character_error, character_count_error}

-- ---- texts

pub text_good : (s : List ℕ) → IsUtf8 s → text_error s ≡ None
text_good s u = rw (is_utf8-from_IsUtf8 s u) refl

by_test : (s : List ℕ) {P : Type 0} → (IsUtf8 s → P) → (is_utf8 s ≡ false → P) → P
by_test s {P} good bad = by_case (is_utf8 s) refl
  where
    by_case : (b : Bool) → is_utf8 s ≡ b → P
    by_case true e = good (IsUtf8-from_is_utf8 s e)
    by_case false e = bad e

pub text_bad : (s : List ℕ) → ¬ (IsUtf8 s) → text_error s ≡ Some InvalidData
text_bad s n = by_test s (λ u. absurd (n u)) (λ e. rw e refl)

-- ---- characters

pub character_good : (s : List ℕ) → IsUtf8 s → length (chars s) ≡ 1 → character_error s ≡ None
character_good s u l = rw (is_utf8-from_IsUtf8 s u, l) refl

-- what isn't refused is a text of one character
pub one_character : (s : List ℕ) → character_error s ≡ None → IsUtf8 s × (length (chars s) ≡ 1)
one_character s e = by_tests (is_utf8 s) (length (chars s) == 0) (length (chars s) == 1) refl refl e
  where
    by_tests : (text none one : Bool) → is_utf8 s ≡ text → (length (chars s) == 1) ≡ one
        → cond text (cond none (Some UnsupportedValue) (cond one None (Some InvalidData))) (Some InvalidData) ≡ None
        → IsUtf8 s × (length (chars s) ≡ 1)
    by_tests true false true f g h = (IsUtf8-from_is_utf8 s f, eqb-true (length (chars s)) 1 g)
    by_tests true false false f g h = cc
    by_tests true true one f g h = cc
    by_tests false none one f g h = cc

two_or_more : (n : ℕ) → 1 < n → character_count_error n ≡ Some InvalidData
two_or_more n h =
    let a : (n == 0) ≡ false = grind (arith, nat_tests) in
    let b : (n == 1) ≡ false = grind (arith, nat_tests) in
    rw (a, b) refl

pub character_more : (s : List ℕ) → IsUtf8 s → 1 < length (chars s) → character_error s ≡ Some InvalidData
character_more s u l = rw (is_utf8-from_IsUtf8 s u) (two_or_more (length (chars s)) l)

pub last_character : (s rest : List ℕ) (c : ℕ) → IsUtf8 s → s ≡ encode_utf8 c ++ rest → length rest ≡ 0
    → (s ≡ encode_utf8 c) × (length (chars s) ≡ 1)
last_character s [] c u e l = (
  e ∙ append-nil (encode_utf8 c),
  ap length (chars_past_char s [] c u e)
      ∙ ap (λ (cs : List ℕ). length (c ∷ cs)) chars-nil,
)
last_character s (b ∷ bs) c u e l = absurd (omega arith)

pub two_characters : (s rest last : List ℕ) (c d : ℕ) → IsUtf8 s → s ≡ encode_utf8 c ++ rest
    → rest ≡ encode_utf8 d ++ last → 1 < length (chars s)
two_characters s rest last c d u e f =
    let a : length (chars s) ≡ length (c ∷ chars rest) = ap length (chars_past_char s rest c u e) in
    let b : length (chars rest) ≡ length (d ∷ chars last) =
    ap length (chars_past_char rest last d (IsUtf8-past_char s rest c u e) f) in
    omega (arith, a, b)

-- ---- the first bytes decide

length_encodes : (cs : List ℕ) → length (encode_utf8_all cs) ≤ 4 * length cs
length_encodes [] = omega arith
length_encodes (c ∷ cs) = omega (
  arith,
  length-append (encode_utf8 c) (encode_utf8_all cs),
  length-encode c,
  len_utf8_bounds c,
  length_encodes cs,
)

-- more than four bytes aren't one character
pub character_long : (s : List ℕ) → 4 < length s → character_error s ≡ Some InvalidData
character_long s l =
    by_test s (λ u. character_more s u (omega (arith, length_encodes (chars s), ap length (encodes-chars s u))))
    (λ e. rw e refl)

pub character_by_front : (c : List ℕ) → character_error (take 18 c) ≡ character_error c
character_by_front c = elim (cases_lt (length c) 18) [
  | inl few ↦ let all : take 18 c ≡ c = grind (arith, common_steps) in ap character_error all
  | inr many ↦ let long : length (take 18 c) ≡ 18 = grind (arith, common_steps) in
      character_long (take 18 c) (omega arith) ∙ sym (character_long c (omega arith))
]

-- the bytes of one character
pub length_character : (c : ℕ) → length (encode_utf8 c) < 18
length_character c = omega (arith, length-encode c, len_utf8_bounds c)
