-- Which element is at the front of bytes.
use Rattle.std.proofs.Common.{◌≡◌, ℕ, ◌+◌, ◌^◌, ◌<◌, ◌≤◌, List, [], ◌∷◌, ◌++◌, length, take, drop, get_or, sym, ap, ◌∙◌}
use Rattle.std.proofs.Common.{subst, arith, append_assoc, length-append, take-append-drop, length-take-le}
use Rattle.std.specs.Prelude.{slice_range}
use Rattle.std.proofs.lemmas.Slice.{first_rest}
use Rattle.picky_der_core.specs.Tag.{number_of, IsTagNumber}
use Rattle.picky_der_core.specs.Element.{tlv, length_octets}
use Rattle.picky_der_core.specs.ElementLaws.{length_octets_prefix, tlv_prefix}
use Rattle.der_path.specs.Elements.{BeginsWith, BeginsWithNone, HasNoLength}

-- the first byte, and those after it
pub first_of : (bytes : List ℕ) (tag : ℕ) → tag ≡ get_or bytes 0 0 → 1 ≤ length bytes
    → bytes ≡ tag ∷ slice_range bytes 1 (length bytes)
first_of bytes tag e some = first_rest bytes 0 some ∙ ap (λ t. t ∷ slice_range bytes 1 (length bytes)) (sym e)

-- the bytes of an element are its tag, its length and its content
parts_of : (bytes : List ℕ) (tag : ℕ) (content after : List ℕ) → BeginsWith bytes tag content after
    → bytes ≡ tag ∷ (length_octets (length content) ++ (content ++ after))
unfolding tlv
parts_of bytes tag content after b =
    b.is ∙ ap (λ l. tag ∷ l) (append_assoc (length_octets (length content)) content after)

pub sizes : (bytes : List ℕ) (tag : ℕ) (content after : List ℕ) → BeginsWith bytes tag content after
    → 1 + length content + length after ≤ length bytes
sizes bytes tag content after b = omega (
  arith,
  ap length (parts_of bytes tag content after b),
  length-append (length_octets (length content)) (content ++ after),
  length-append content after,
)

-- only one element is there
pub one_element : (bytes : List ℕ) (t u : ℕ) (c d a b : List ℕ) → BeginsWith bytes t c a → BeginsWith bytes u d b
    → (t ≡ u) × (c ≡ d) × (a ≡ b)
one_element bytes t u c d a b x y = tlv_prefix t u c d a b (sym x.is ∙ y.is)

-- ---- what `first_element` returns

none_empty : BeginsWithNone []
none_empty tag content after b = absurd (omega (arith, sizes [] tag content after b))

pub none_of_empty : (bytes : List ℕ) → length bytes ≤ 0 → BeginsWithNone bytes
none_of_empty [] e = none_empty
none_of_empty (b ∷ bs) e = absurd (omega arith)

module _ (bytes : List ℕ) (tag : ℕ) (others : List ℕ) (all : bytes ≡ tag ∷ others) where
  same_parts : (t : ℕ) (c a : List ℕ) → BeginsWith bytes t c a
      → (tag ≡ t) × (others ≡ length_octets (length c) ++ (c ++ a))
  same_parts t c a b =
      let e : tag ∷ others ≡ t ∷ (length_octets (length c) ++ (c ++ a)) = sym all ∙ parts_of bytes t c a b in
      (cc, cc)

  pub long_tag : 30 < number_of tag → BeginsWithNone bytes
  long_tag large t c a b =
      let same = (same_parts t c a b).0 in
      let small : number_of tag ≤ 30 = subst (λ g. IsTagNumber (number_of g)) (sym same) b.number in
      absurd (omega arith)

  pub no_length : length bytes < 2 ^ 64 → HasNoLength others → BeginsWithNone bytes
  no_length small h t c a b =
      let size : length c < 2 ^ 64 = omega (arith, sizes bytes t c a b) in
      h (length c) size (record { rest = c ++ a; is = (same_parts t c a b).1 })

  module _ (len : ℕ) (rest : List ℕ) (split : others ≡ length_octets len ++ rest) where
    pub past_end : length rest < len → BeginsWithNone bytes
    past_end few t c a b =
        let same = length_octets_prefix len (length c) rest (c ++ a) (sym split ∙ (same_parts t c a b).1) in
        absurd (omega (arith, ap length same.1, length-append c a, same.0))

    pub found : (content after : List ℕ) → IsTagNumber (number_of tag) → len ≤ length rest → content ≡ take len rest
        → after ≡ drop len rest → BeginsWith bytes tag content after
    unfolding tlv
    found content after number enough front back =
        let size : length content ≡ len = ap length front ∙ length-take-le len rest enough in
        let whole : rest ≡ content ++ after =
        sym (take-append-drop len rest) ∙ ap (λ l. l ++ drop len rest) (sym front)
        ∙ ap (λ l. content ++ l) (sym back) in
        record {
          number = number;
          is = all ∙ ap (λ l. tag ∷ l) (split ∙ ap (λ n. length_octets n ++ rest) (sym size)
              ∙ ap (λ l. length_octets (length content) ++ l) whole
              ∙ sym (append_assoc (length_octets (length content)) content after));
        }
