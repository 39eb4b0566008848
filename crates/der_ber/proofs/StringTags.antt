-- Tags of strings in parts.
use Rattle.std.proofs.Common.{◌≡◌, ℕ, ◌-◌, ◌/◌, ◌%◌, ◌≤◌, Bool, true, false, cond, List}
use Rattle.std.proofs.Common.{◌∷◌, refl}
use Rattle.std.proofs.Common.{ap, arith, inl, inr}
use Rattle.std.specs.Prelude.{◌==◌, ◌⊎◌, Some, None}
use Rattle.std.proofs.lemmas.Bool.Decides.{nat_tests}
use Rattle.picky_der_core.specs.Tag.{number_of, is_constructed}
use Rattle.der_ber.specs.declared.strings.Strings.{Strings}
use Rattle.der_ber.specs.declared.strings.Strings.TheVariants.{InParts, Whole}
use Rattle.der_ber.specs.LongLengths.{is_reserved, IsTag}
use Rattle.der_ber.specs.Strings.{is_octets, segment_tag, segment_of, segment_at}

pub at_first : (strings : Strings) (tag : ℕ) (rest : List ℕ) → segment_at strings (tag ∷ rest) ≡ segment_of strings tag
at_first InParts tag rest = refl
at_first Whole tag rest = refl

-- which of the two tests a string's tag passes
by_tests : (b c : Bool) (s : ℕ) → cond b (Some 0x03) (cond c (Some 0x04) None) ≡ Some s → (b ≡ true) ⊎ (c ≡ true)
by_tests true c s e = inl refl
by_tests false true s e = inr refl
by_tests false false s e = absurd (cc)

octets_range : (tag : ℕ) → is_octets tag ≡ true → (0x24 ≤ tag) × (tag ≤ 0x3E)
octets_range tag e = grind (arith, nat_tests)

bits_range : (tag : ℕ) → (tag == 0x23) ≡ true → tag ≡ 0x23
bits_range tag e = grind (arith, nat_tests)

string_range : (tag s : ℕ) → segment_tag tag ≡ Some s → (0x23 ≤ tag) × (tag ≤ 0x3E)
string_range tag s e = elim (by_tests (tag == 0x23) (is_octets tag) s e) [
  | inl one ↦ (let is = bits_range tag one in omega arith, let is = bits_range tag one in omega arith)
  | inr one ↦ (let is = octets_range tag one in omega arith, let is = octets_range tag one in omega arith)
]

not_reserved : (n : ℕ) → 3 ≤ n → n ≤ 0x1E → is_reserved n ≡ false
not_reserved n h k = grind (arith, nat_tests)

module _ (tag s : ℕ) (e : segment_tag tag ≡ Some s) where
  -- the tag of the primitive string
  pub whole_tag : IsTag (number_of tag) false
  whole_tag =
      let range = string_range tag s e in
      let number : tag % 32 ≡ tag - 0x20 = omega arith in
      let none : tag % 32 / 32 ≡ 0 = omega arith in
      record {
        number = omega arith;
        free = not_reserved (tag % 32) (omega arith) (omega arith);
        form = ap (λ n. n % 2 == 1) none;
      }

  -- that of the one in parts
  pub parts_tag : is_constructed tag ≡ true
  parts_tag =
      let range = string_range tag s e in
      let one : tag / 32 ≡ 1 = omega arith in
      ap (λ n. n % 2 == 1) one

pub whole_is_tag : (strings : Strings) (tag s : ℕ) → segment_of strings tag ≡ Some s → IsTag (number_of tag) false
whole_is_tag InParts tag s e = absurd (cc)
whole_is_tag Whole tag s e = whole_tag tag s e

pub parts_is_constructed : (strings : Strings) (tag s : ℕ) → segment_of strings tag ≡ Some s
    → is_constructed tag ≡ true
parts_is_constructed InParts tag s e = absurd (cc)
parts_is_constructed Whole tag s e = parts_tag tag s e
