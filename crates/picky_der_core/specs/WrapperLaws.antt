-- What holds of each wrapper.
use Rattle.std.proofs.Common.{◌≡◌, ℕ, Bool, true, false, ◌⊎◌, inl, inr, List, [], ◌∷◌, ◌++◌, refl, arith, ◌/◌, ◌%◌}
use Rattle.std.specs.Prelude.{if◌then◌else◌}
use Rattle.std.proofs.lemmas.Bool.Decides.{leb_tells, eqb_tells}
use Rattle.picky_der_core.specs.declared.asn1.wrapper.Wrapper.{Wrapper}
use Rattle.picky_der_core.specs.declared.asn1.wrapper.Wrapper.TheVariants.{OctetContainer, BitContainer, Explicit}
use Rattle.picky_der_core.specs.declared.asn1.wrapper.Wrapper.TheVariants.{Implicit, Application, ImplicitList}
use Rattle.picky_der_core.specs.Tag.{number_of, is_tag_number, IsTagNumber, IsConstructedTag, is_constructed_tag}
use Rattle.picky_der_core.specs.Wrapper.{wrapper_tag, wrapper_number, wrapper_front, counts_unused_bits, keeps_header}
use Rattle.picky_der_core.specs.Wrapper.{HasTagNumber, has_tag_number}

pub constructed_tag_tells : (tag : ℕ) → ((is_constructed_tag tag ≡ true) × IsConstructedTag tag)
    ⊎ ((is_constructed_tag tag ≡ false) × (IsConstructedTag tag → ⊥))
constructed_tag_tells tag = elim (leb_tells (number_of tag) 30) [
  | inl few ↦ elim (eqb_tells (tag / 32 % 2) 1) [
    | inl one ↦ inl (rw (few.0, one.0) refl, (few.1, one.1))
    | inr other ↦ inr (rw (few.0, other.0) refl, λ h. other.1 h.1)
  ]
  | inr past ↦ inr (rw past.0 refl, λ h. absurd (omega (arith, past.1, h.0)))
]

-- ---- wrappers

pub wrapper_tag_number : (w : Wrapper) → HasTagNumber w → IsTagNumber (number_of (wrapper_tag w))
wrapper_tag_number OctetContainer h = omega arith
wrapper_tag_number BitContainer h = omega arith
wrapper_tag_number (Explicit n) h = omega arith
wrapper_tag_number (Implicit n) h = omega arith
wrapper_tag_number (Application n) h = omega arith
wrapper_tag_number (ImplicitList tag) h = h.0

pub wrapper_number-small : (w : Wrapper) → HasTagNumber w → IsTagNumber (wrapper_number w)
wrapper_number-small OctetContainer h = omega arith
wrapper_number-small BitContainer h = omega arith
wrapper_number-small (Explicit n) h = h
wrapper_number-small (Implicit n) h = h
wrapper_number-small (Application n) h = h
wrapper_number-small (ImplicitList tag) h = h.0

number_tells : (n : ℕ) → ((is_tag_number n ≡ true) × IsTagNumber n) ⊎ ((is_tag_number n ≡ false) × (IsTagNumber n → ⊥))
number_tells n = elim (leb_tells n 30) [
  | inl few ↦ inl (few.0, few.1)
  | inr past ↦ inr (past.0, λ h. absurd (omega (arith, past.1, h)))
]

-- the test decides it
pub tag_number_tells : (w : Wrapper) → ((has_tag_number w ≡ true) × HasTagNumber w) ⊎ ((has_tag_number w ≡ false)
    × (HasTagNumber w → ⊥))
tag_number_tells OctetContainer = inl (refl, tt)
tag_number_tells BitContainer = inl (refl, tt)
tag_number_tells (Explicit n) = number_tells n
tag_number_tells (Implicit n) = number_tells n
tag_number_tells (Application n) = number_tells n
tag_number_tells (ImplicitList tag) = constructed_tag_tells tag

pub has_tag_number-true : (w : Wrapper) → HasTagNumber w → has_tag_number w ≡ true
has_tag_number-true w h = elim (tag_number_tells w) [ inl proved ↦ proved.0 | inr refuted ↦ absurd (refuted.1 h) ]

pub has_tag_number-false : (w : Wrapper) → (HasTagNumber w → ⊥) → has_tag_number w ≡ false
has_tag_number-false w h = elim (tag_number_tells w) [ inl proved ↦ absurd (h proved.1) | inr refuted ↦ refuted.0 ]

after_count : (counts : Bool) (c d : List ℕ)
    → (if counts then 0x00 ∷ [] else []) ++ c ≡ (if counts then 0x00 ∷ [] else []) ++ d → c ≡ d
after_count true c d e = let f : 0x00 ∷ c ≡ 0x00 ∷ d = e in cc
after_count false c d e = e

-- what follows the front of a wrapper
pub after_front : (w : Wrapper) (c d : List ℕ) → wrapper_front w ++ c ≡ wrapper_front w ++ d → c ≡ d
after_front w c d e = after_count (counts_unused_bits w) c d e

-- a wrapper that leaves the header of a plain value out has no front
pub no_front : (w : Wrapper) → keeps_header w ≡ false → wrapper_front w ≡ []
no_front (Implicit n) h = refl
no_front (ImplicitList tag) h = refl
no_front _ h = cc
