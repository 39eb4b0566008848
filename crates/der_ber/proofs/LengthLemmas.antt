-- No length of the definite form begins another, or the one that announces the indefinite form.
use Rattle.std.proofs.Common.{◌≡◌, ℕ, ◌+◌, ◌^◌, ◌<◌, List, ◌∷◌, ◌++◌, length, sym, ap, ◌∙◌, arith, inl, inr}
use Rattle.std.proofs.Common.{length-append}
use Rattle.std.proofs.lemmas.Bool.{cases_lt}
use Rattle.std.specs.Int.Digits.{number_from_digits}
use Rattle.picky_der_core.specs.Element.{big_endian, length_octets}
use Rattle.picky_der_core.specs.ElementLaws.{same_front, length_octets-short, length_octets-long}
use Rattle.picky_der_core.specs.BigEndianLaws.{number-big_endian, length-big_endian, big_endian-least}
use Rattle.der_ber.specs.Lengths.{IsLength}

pub same_length : (m n : ℕ) (o p a b : List ℕ) → IsLength m o → IsLength n p → o ++ a ≡ p ++ b
    → (m ≡ n) × (o ≡ p) × (a ≡ b)
same_length m n o p a b (IsLength.short h e) (IsLength.short k f) same =
    let is : m ∷ a ≡ n ∷ b = ap (λ x. x ++ a) (sym e) ∙ same ∙ ap (λ x. x ++ b) f in
    let size : m ≡ n = cc in
    (size, cc, cc)
same_length m n o p a b (IsLength.short h e) (IsLength.long ds some most k f) same =
    let is : m ∷ a ≡ (0x80 + length ds) ∷ (ds ++ b) = ap (λ x. x ++ a) (sym e) ∙ same ∙ ap (λ x. x ++ b) f in
    let bad : m ≡ 0x80 + length ds = cc in
    absurd (omega arith)
same_length m n o p a b (IsLength.long ds some most h e) (IsLength.short k f) same =
    let is : (0x80 + length ds) ∷ (ds ++ a) ≡ n ∷ b = ap (λ x. x ++ a) (sym e) ∙ same ∙ ap (λ x. x ++ b) f in
    let bad : 0x80 + length ds ≡ n = cc in
    absurd (omega arith)
same_length m n o p a b (IsLength.long ds some most h e) (IsLength.long es any many k f) same =
    let is : (0x80 + length ds) ∷ (ds ++ a) ≡ (0x80 + length es) ∷ (es ++ b) =
    ap (λ x. x ++ a) (sym e) ∙ same ∙ ap (λ x. x ++ b) f in
    let firsts : 0x80 + length ds ≡ 0x80 + length es = cc in
    let others : ds ++ a ≡ es ++ b = cc in
    let parts = same_front ds es a b (omega arith) others in
    let digits : ds ≡ es = parts.0 in
    (h ∙ ap (number_from_digits 256) digits ∙ sym k, e ∙ ap (λ x. (0x80 + length x) ∷ x) digits ∙ sym f, parts.1)

pub not_indefinite : (n : ℕ) (o a b : List ℕ) → IsLength n o → o ++ a ≡ 0x80 ∷ b → ⊥
not_indefinite n o a b (IsLength.short h e) same =
    let is : n ∷ a ≡ 0x80 ∷ b = ap (λ x. x ++ a) (sym e) ∙ same in
    let bad : n ≡ 0x80 = cc in
    omega arith
not_indefinite n o a b (IsLength.long ds some most h e) same =
    let is : (0x80 + length ds) ∷ (ds ++ a) ≡ 0x80 ∷ b = ap (λ x. x ++ a) (sym e) ∙ same in
    let bad : 0x80 + length ds ≡ 0x80 = cc in
    omega arith

pub some_octets : (n : ℕ) (o : List ℕ) → IsLength n o → 0 < length o
some_octets n o (IsLength.short h e) = omega (arith, ap length e)
some_octets n o (IsLength.long ds some most h e) = omega (arith, ap length e)

-- a first byte past 80, and fewer bytes after it than it says
pub not_cut : (n count : ℕ) (o a b : List ℕ) → IsLength n o → 0 < count → o ++ a ≡ (0x80 + count) ∷ b → length b < count
    → ⊥
not_cut n count o a b (IsLength.short h e) some same few =
    let is : n ∷ a ≡ (0x80 + count) ∷ b = ap (λ x. x ++ a) (sym e) ∙ same in
    let bad : n ≡ 0x80 + count = cc in
    omega arith
not_cut n count o a b (IsLength.long ds any most h e) some same few =
    let is : (0x80 + length ds) ∷ (ds ++ a) ≡ (0x80 + count) ∷ b = ap (λ x. x ++ a) (sym e) ∙ same in
    let firsts : 0x80 + length ds ≡ 0x80 + count = cc in
    let others : ds ++ a ≡ b = cc in
    omega (arith, ap length others, length-append ds a)

-- the reserved first byte
pub not_reserved : (n : ℕ) (o a b : List ℕ) → IsLength n o → o ++ a ≡ 0xFF ∷ b → ⊥
not_reserved n o a b (IsLength.short h e) same =
    let is : n ∷ a ≡ 0xFF ∷ b = ap (λ x. x ++ a) (sym e) ∙ same in
    let bad : n ≡ 0xFF = cc in
    omega arith
not_reserved n o a b (IsLength.long ds some most h e) same =
    let is : (0x80 + length ds) ∷ (ds ++ a) ≡ 0xFF ∷ b = ap (λ x. x ++ a) (sym e) ∙ same in
    let bad : 0x80 + length ds ≡ 0xFF = cc in
    omega arith

-- a length of DER is one of BER
pub shortest : (n : ℕ) → n < 2 ^ 64 → IsLength n (length_octets n)
shortest n small = elim (cases_lt n 0x80) [
  | inl short ↦ IsLength.short short (length_octets-short n short)
  | inr long ↦
      IsLength.long (big_endian n) (big_endian-least 0 n (omega arith))
      (let few = length-big_endian 8 n (omega arith) in omega arith) (sym (number-big_endian n))
      (length_octets-long n long)
]
