-- The numbers that an integer type has, and their contents.
use Rattle.std.proofs.Common.{◌≡◌, ℕ, ◌-◌, ◌^◌, ◌<◌, ◌≤◌, Bool, true, false, cond, List, ◌∷◌, length, Some, None, ℤ}
use Rattle.std.proofs.Common.{pos, negsuc, refl, sym, ap, subst, ◌∙◌, arith, pow_mono, ltb-true, le-ltb, nat_lt, ◌||◌}
use Rattle.std.proofs.lemmas.List.{length-map}
use Rattle.picky_der_core.specs.Element.{AreBytes}
use Rattle.picky_der_core.specs.Primitive.{unsigned_content}
use Rattle.picky_der_core.specs.Refusal.{int_error}
use Rattle.picky_der_core.specs.UnsignedLaws.{length-unsigned_content}
use Rattle.picky_der_core.specs.Integer.{is_integer, integer_value, integer_content, turned_byte, bits_of, fits_signed}
use Rattle.picky_der_core.specs.Integer.{fits_unsigned, content_within, int_tree, integer_tree}
use Rattle.picky_der_core.specs.IntegerLaws.{is_integer-content, content-value, value-content, same_integer}
use Rattle.picky_der_core.specs.IntegerLaws.{AreBytes-content}
use Rattle.picky_der_core.specs.declared.error.Asn1DerError.TheVariants.{InvalidData, UnsupportedValue}

-- ---- no type has a number of more than 128 bits and the sign

pub signed_is_narrow : (k : ℕ) → k ≤ 128 → (z : ℤ) → fits_signed k z ≡ true → bits_of z < 2 ^ 128
signed_is_narrow k h z f =
    let few : k - 1 ≤ 128 = omega arith in
    let most : 2 ^ (k - 1) ≤ 2 ^ 128 = pow_mono few in
    omega (arith, ltb-true (bits_of z) (2 ^ (k - 1)) f)

pub unsigned_is_narrow : (k : ℕ) → k ≤ 128 → (z : ℤ) → fits_unsigned k z ≡ true → bits_of z < 2 ^ 128
unsigned_is_narrow k h (pos n) f =
    let most : 2 ^ k ≤ 2 ^ 128 = pow_mono h in
    omega (arith, ltb-true n (2 ^ k) f)
unsigned_is_narrow k h (negsuc n) f = cc

pub length-integer_content : (z : ℤ) → bits_of z < 2 ^ 128 → length (integer_content z) ≤ 17
length-integer_content (pos n) h = length-unsigned_content n h
length-integer_content (negsuc n) h =
    omega (arith, length-unsigned_content n h, length-map (unsigned_content n) (turned_byte true))

-- ---- numbers that a type has

module _ (fits : ℤ → Bool) where
  -- each has its content
  pub within-fits : (z : ℤ) → fits z ≡ true → content_within fits z ≡ integer_content z
  within-fits z f = rw f refl

  pub tree-fits : (z : ℤ) → fits z ≡ true → int_tree fits z ≡ integer_tree z
  tree-fits z f = rw f refl

  -- no other number has one of bytes
  pub fits-within : (z : ℤ) → AreBytes (content_within fits z) → fits z ≡ true
  fits-within z p = by_fit (fits z) refl p
    where
      by_fit : (t : Bool) → fits z ≡ t → AreBytes (cond t (integer_content z) (0xFF ∷ 0x100 ∷ integer_content z))
          → fits z ≡ true
      by_fit true e p = e
      by_fit false e p = absurd (omega (arith, p.1.0))

  -- numbers with one content are one
  pub same_within : (y z : ℤ) → content_within fits y ≡ content_within fits z → y ≡ z
  same_within y z e = by_fits (fits y) (fits z) e
    where
      by_fits : (t u : Bool) → cond t (integer_content y) (0xFF ∷ 0x100 ∷ integer_content y)
          ≡ cond u (integer_content z) (0xFF ∷ 0x100 ∷ integer_content z) → y ≡ z
      by_fits true true e = same_integer y z e
      by_fits true false e = let p : AreBytes (0xFF ∷ 0x100 ∷ integer_content z) =
          subst AreBytes e (AreBytes-content y) in absurd (omega (arith, p.1.0))
      by_fits false true e = let p : AreBytes (0xFF ∷ 0x100 ∷ integer_content y) =
          subst AreBytes (sym e) (AreBytes-content z) in absurd (omega (arith, p.1.0))
      by_fits false false e = let f : integer_content y ≡ integer_content z = cc in same_integer y z f

  -- ---- how contents are judged

  -- that of a number of the type is refused with no error
  pub int_error-content : (z : ℤ) → fits z ≡ true → bits_of z < 2 ^ 128 → int_error fits (integer_content z) ≡ None
  int_error-content z f h =
      let value = ap fits (value-content z) ∙ f in
      rw (is_integer-content z, le-ltb 17 (length (integer_content z)) (length-integer_content z h), value) refl

  pub int_error-value : (bs : List ℕ) → AreBytes bs → is_integer bs ≡ true → fits (integer_value bs) ≡ true
      → bits_of (integer_value bs) < 2 ^ 128 → int_error fits bs ≡ None
  int_error-value bs p e f h = ap (int_error fits) (sym (content-value bs p e))
      ∙ int_error-content (integer_value bs) f h

  pub int_error-past : (bs : List ℕ) → is_integer bs ≡ true → fits (integer_value bs) ≡ false
      → int_error fits bs ≡ Some UnsupportedValue
  int_error-past bs e f = rw (e, f) (by_length (nat_lt 17 (length bs)))
    where
      by_length : (t : Bool) → cond (t || true) (Some UnsupportedValue) None ≡ Some UnsupportedValue
      by_length true = refl
      by_length false = refl

  -- and no other is
  pub content-int_error : (z : ℤ) → int_error fits (content_within fits z) ≡ None → fits z ≡ true
  content-int_error z h = by_fit (fits z) refl h
    where
      by_fit : (t : Bool) → fits z ≡ t → int_error fits (cond t (integer_content z) (0xFF ∷ 0x100 ∷ integer_content z))
          ≡ None → fits z ≡ true
      by_fit true e h = e
      by_fit false e h = absurd (let q : Some InvalidData ≡ None = h in cc)
