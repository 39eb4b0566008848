-- Laws of tags in both of their forms, and of tags that are numbered.
use Rattle.std.specs.Prelude.{◌≡◌, ℕ, zero, suc, ◌+◌, ◌-◌, ◌/◌, ◌≤◌, ◌<◌, Bool, true, false, ◌||◌, ◌==◌, List, [], ◌∷◌}
use Rattle.std.specs.Prelude.{map, if◌then◌else◌, refl}
use Rattle.std.proofs.Common.{◌∙◌, ap, arith}
use Rattle.std.proofs.lemmas.Bool.{and_parts}
use Rattle.std.proofs.lemmas.Bool.Decides.{nat_tests}
use Rattle.picky_der_core.specs.Tag.{is_constructed, number_of}
use Rattle.picky_der_core.specs.Shape.{contains, begins_outside}
use Rattle.picky_der_de.specs.OtherLaws.{are_outside, others_of}
use Rattle.picky_asn1_der.specs.LaterTags.{other_form, in_both_forms, numbered_below, is_numbered_from, ascend_from}
use Rattle.picky_asn1_der.specs.LaterTags.{are_numbered_from}

-- ---- both forms

turned_cases : (b t : ℕ) (x y : Bool) → is_constructed b ≡ x → is_constructed t ≡ y
    → (t == (if x then b - 0x20 else b + 0x20)) ≡ ((if y then t - 0x20 else t + 0x20) == b)
turned_cases b t true true p q = grind (arith, nat_tests)
turned_cases b t true false p q = grind (arith, nat_tests)
turned_cases b t false true p q = grind (arith, nat_tests)
turned_cases b t false false p q = grind (arith, nat_tests)

-- the other form of the one is the other one exactly if that has the one as its other form
turned : (b t : ℕ) → (t == other_form b) ≡ (other_form t == b)
turned b t = turned_cases b t (is_constructed b) (is_constructed t) refl refl

shuffled : (p q c d : Bool) → (p || (q || (c || d))) ≡ ((p || c) || (q || d))
shuffled true q c d = refl
shuffled false true true d = refl
shuffled false true false d = refl
shuffled false false c d = refl

-- a byte is one of them exactly if it is one of these bytes, or that of its other form is
pub in_either_form : (bs : List ℕ) (t : ℕ)
    → contains (in_both_forms bs) t ≡ (contains bs t || contains bs (other_form t))
in_either_form [] t = refl
in_either_form (b ∷ bs) t =
    ap (λ x. (t == b) || (x || contains (in_both_forms bs) t)) (turned b t)
    ∙ ap (λ x. (t == b) || ((other_form t == b) || x)) (in_either_form bs t)
    ∙ shuffled (t == b) (other_form t == b) (contains bs t) (contains bs (other_form t))

-- ---- numbers

other_number : (m b : ℕ) → m < number_of b → b / 64 ≡ 2 → ((b == 0x80 + m) ≡ false) × ((b == 0xA0 + m) ≡ false)
other_number m b h k = (grind (arith, nat_tests), grind (arith, nat_tests))

not_below : (n b : ℕ) → b / 64 ≡ 2 → n ≤ number_of b → contains (numbered_below n) b ≡ false
not_below zero b k h = refl
not_below (suc n) b k h =
    let other = other_number n b (omega arith) k in
    rw (other.0, other.1) (not_below n b k (omega arith))

numbered_outside : (n b : ℕ) → is_numbered_from n b ≡ true → contains (numbered_below n) b ≡ false
numbered_outside n b h = not_below n b (grind (arith, nat_tests)) (grind (arith, nat_tests))

module _ {E : Type 0} (bytes : E → List ℕ) where
  first_outside : (n : ℕ) (s : List ℕ) (ss : List (List ℕ)) → ascend_from n (s ∷ ss) ≡ true
      → begins_outside (numbered_below n) s ≡ true
  first_outside n [] ss h = cc
  first_outside n (b ∷ bs) ss h =
      let own = numbered_outside n b (and_parts (is_numbered_from n b) (ascend_from (number_of b + 1) ss) h).0 in
      rw own refl

  -- elements that are numbered from here on begin with no lower number
  pub numbered_are_outside : (n : ℕ) (es : List E) → are_numbered_from n bytes es ≡ true
      → are_outside (numbered_below n) bytes es ≡ true
  numbered_are_outside n [] h = refl
  numbered_are_outside n (e ∷ es) h = first_outside n (bytes e) (map bytes es) h

  -- elements with the same trees have the same bytes
  same_bytes : (es fs : List E) → others_of bytes es ≡ others_of bytes fs → map bytes es ≡ map bytes fs
  same_bytes [] [] e = refl
  same_bytes [] (y ∷ ys) e = cc
  same_bytes (x ∷ xs) [] e = cc
  same_bytes (x ∷ xs) (y ∷ ys) e =
      let first : bytes x ≡ bytes y = cc in
      let others : map bytes xs ≡ map bytes ys = same_bytes xs ys (cc) in
      cc

  -- and are numbered alike
  pub numbered_alike : (n : ℕ) (es fs : List E) → others_of bytes es ≡ others_of bytes fs
      → are_numbered_from n bytes es ≡ are_numbered_from n bytes fs
  numbered_alike n es fs e = ap (ascend_from n) (same_bytes es fs e)

  -- the first of them is numbered, or isn't
  pub numbered_next : (least b : ℕ) (bs : List ℕ) (e : E) (es : List E) → bytes e ≡ b ∷ bs
      → is_numbered_from least b ≡ true
      → are_numbered_from least bytes (e ∷ es) ≡ are_numbered_from (number_of b + 1) bytes es
  numbered_next least b bs e es is h = rw (is, h) refl

  pub numbered_no_more : (least b : ℕ) (bs : List ℕ) (e : E) (es : List E) → bytes e ≡ b ∷ bs
      → is_numbered_from least b ≡ false → are_numbered_from least bytes (e ∷ es) ≡ false
  numbered_no_more least b bs e es is h = rw (is, h) refl

  pub empty_not_numbered : (least : ℕ) (e : E) (es : List E) → bytes e ≡ []
      → are_numbered_from least bytes (e ∷ es) ≡ false
  empty_not_numbered least e es is = rw is refl
