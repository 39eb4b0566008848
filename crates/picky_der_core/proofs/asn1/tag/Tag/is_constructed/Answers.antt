use Rattle.std.proofs.Common.{◌≡◌, ℕ, ◌*◌, ◌/◌, ◌%◌, not, eqb, inl, inr, bit_and, refl, ◌∙◌, rules, arith, ne_eqb}
use Rattle.std.proofs.lemmas.Bool.Decides.{eqb_tells}
use Rattle.std.proofs.lemmas.Nat.{and_shr, and_mask, and_mod, and_le_r}
use Rattle.picky_der_core.specs.Tag.{is_constructed}
use Rattle.picky_der_core.proofs.asn1.tag.Tag.is_constructed.Goals as goal

-- bit 6 alone
bit_six : (n : ℕ) → bit_and n 32 ≡ n / 32 % 2 * 32
bit_six n =
    let high : bit_and n 32 / 32 ≡ n / 32 % 2 = and_shr n 32 5 ∙ and_mask (n / 32) 1 in
    let low : bit_and n 32 % 32 ≡ bit_and (n % 32) 0 = and_mod n 32 5 in
    let none = and_le_r (n % 32) 0 in
    omega (arith, high, low, none)

tests_bit_six : (n : ℕ) → not (eqb (bit_and n 32) 0) ≡ is_constructed n
tests_bit_six n = elim (eqb_tells (n / 32 % 2) 1) [
  | inl set ↦ rw (ne_eqb (bit_and n 32) 0 (λ e. absurd (omega (arith, e, bit_six n, set.1))), set.0) refl
  | inr clear ↦ let zero : bit_and n 32 ≡ 0 = omega (arith, bit_six n, clear.1) in rw (zero, clear.0) refl
]

pub returns-clause-bit : goal.returns-clause-bit
returns-clause-bit c = rw (← c.self.view_is) (tests_bit_six c.self.inside.0)
