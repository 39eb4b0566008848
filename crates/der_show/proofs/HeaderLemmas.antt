-- Which headers begin bytes, and that none begins those that break a rule.
use Rattle.std.proofs.Common.{◌≡◌, ℕ, ◌+◌, ◌-◌, ◌^◌, ◌<◌, ◌≤◌, List, [], ◌∷◌, ◌++◌, length, take, drop, get_or, refl}
use Rattle.std.proofs.Common.{sym, ap, ◌∙◌, arith, append_assoc, length-append, take-append-drop, length-take-le}
use Rattle.std.specs.Prelude.{slice_range}
use Rattle.std.proofs.lemmas.Slice.{first_rest}
use Rattle.std.proofs.Math.Seq.{take-append_seam, drop-append_seam}
use Rattle.picky_der_core.specs.declared.error.Asn1DerError.TheVariants.{TruncatedData}
use Rattle.picky_der_core.specs.Tag.{number_of, IsTagNumber}
use Rattle.picky_der_core.specs.Element.{tlv, length_octets, IsElement, IsPrefix}
use Rattle.picky_der_core.specs.ElementLaws.{length_octets_prefix, tlv_prefix}
use Rattle.picky_der_core.specs.LengthLaws.{no_length_begins}
use Rattle.der_show.specs.declared.rule.Rule.{Rule}
use Rattle.der_show.specs.declared.rule.Rule.TheVariants as rule
use Rattle.der_show.specs.declared.header.Header.{Header}
use Rattle.der_show.specs.Headers.{HasHeader, BreaksHeader, empty, long_tag, no_length, past_end}

-- ---- what `header_of` has found

module _ (bytes : List ℕ) (tag : ℕ) (first : tag ≡ get_or bytes 0 0) (some : 1 ≤ length bytes) where
  pub whole : bytes ≡ tag ∷ slice_range bytes 1 (length bytes)
  whole = first_rest bytes 0 some ∙ ap (λ t. t ∷ slice_range bytes 1 (length bytes)) (sym first)

  module _ (n : ℕ) (rest : List ℕ) (after : slice_range bytes 1 (length bytes) ≡ length_octets n ++ rest) where
    pub header_read : IsTagNumber (number_of tag) → n ≤ length rest
        → HasHeader bytes (record { tag = tag; header_len = length bytes - length rest; content_len = n })
    unfolding tlv
    header_read number enough =
        let all : bytes ≡ tag ∷ (length_octets n ++ rest) = whole ∙ ap (λ s. tag ∷ s) after in
        let size : length (take n rest) ≡ n = length-take-le n rest enough in
        let counts : length bytes ≡ 1 + (length (length_octets n) + length rest) =
        ap length all ∙ (omega (arith, length-append (length_octets n) rest)) in
        let split : length_octets n ++ rest ≡ (length_octets n ++ take n rest) ++ drop n rest =
        ap (λ s. length_octets n ++ s) (sym (take-append-drop n rest))
        ∙ sym (append_assoc (length_octets n) (take n rest) (drop n rest)) in
        record {
          content = take n rest;
          rest = drop n rest;
          is = all ∙ ap (λ s. tag ∷ s) split ∙ ap (λ k. tag ∷ ((length_octets k ++ take n rest) ++ drop n rest))
              (sym size);
          number = number;
          content_len = size;
          header_len = ap (λ k. length (tag ∷ length_octets k)) size ∙ (omega arith);
        }

    pub passes_end : length rest < n → BreaksHeader bytes rule.PastEnd
    passes_end few = past_end tag n rest (whole ∙ ap (λ s. tag ∷ s) after) few refl

-- ---- no element begins bytes that break a rule of headers

module _ (tag : ℕ) (content rest bytes : List ℕ) (number : IsTagNumber (number_of tag)) (is : bytes
    ≡ tlv tag content ++ rest) (small : length bytes < 2 ^ 64) where
  split : bytes ≡ tag ∷ (length_octets (length content) ++ (content ++ rest))
  unfolding tlv
  split = is ∙ ap (λ s. tag ∷ s) (append_assoc (length_octets (length content)) content rest)

  short : length content < 2 ^ 64
  short = omega (
    arith,
    ap length split,
    length-append (length_octets (length content)) (content ++ rest),
    length-append content rest,
  )

  pub begins_well : (r : Rule) → BreaksHeader bytes r → ⊥
  begins_well r (empty e k) = let bad : [] ≡ tag ∷ (length_octets (length content) ++ (content ++ rest)) =
      sym e ∙ split in cc
  begins_well r (long_tag t others e high k) =
      let same : t ∷ others ≡ tag ∷ (length_octets (length content) ++ (content ++ rest)) = sym e ∙ split in
      let tags : t ≡ tag = cc in
      let above : 30 < number_of tag = rw (← tags) high in
      absurd (omega arith)
  begins_well r (no_length t others e broken) =
      let same : t ∷ others ≡ tag ∷ (length_octets (length content) ++ (content ++ rest)) = sym e ∙ split in
      let after : others ≡ length_octets (length content) ++ (content ++ rest) = cc in
      no_length_begins TruncatedData others (broken.error, broken.left) broken.refused (length content) short
      (record { rest = content ++ rest; is = after })
  begins_well r (past_end t n others e few k) =
      let same : t ∷ (length_octets n ++ others) ≡ tag ∷ (length_octets (length content) ++ (content ++ rest)) =
      sym e ∙ split in
      let after : length_octets n ++ others ≡ length_octets (length content) ++ (content ++ rest) = cc in
      let (sizes, left) = length_octets_prefix n (length content) others (content ++ rest) after in
      absurd (omega (arith, ap length left, length-append content rest))

-- ---- elements at the front of the same bytes

pub begins_with : (bytes : List ℕ) (r : Rule) → length bytes < 2 ^ 64 → BreaksHeader bytes r → (m : List ℕ)
    → IsElement m → IsPrefix m bytes → ⊥
begins_with bytes r small broken m element front =
    begins_well element.tag element.content front.rest bytes element.number (front.is
    ∙ ap (λ b. b ++ front.rest) element.is) small r broken

pub one_element : (a b s t : List ℕ) → IsElement a → IsElement b → a ++ s ≡ b ++ t → (a ≡ b) × (s ≡ t)
one_element a b s t x y e =
    let same : tlv x.tag x.content ++ s ≡ tlv y.tag y.content ++ t = ap (λ b. b ++ s) (sym x.is) ∙ e
    ∙ ap (λ b. b ++ t) y.is in
    let (tags, contents, after) = tlv_prefix x.tag y.tag x.content y.content s t same in
    (x.is ∙ ap (λ g. tlv g x.content) tags ∙ ap (tlv y.tag) contents ∙ sym y.is, after)

-- ---- the two parts of an element that was found

pub found : (bytes : List ℕ) (h : Header) → HasHeader bytes h → (IsElement (take (h.header_len + h.content_len) bytes))
    × (h.header_len + h.content_len ≤ length bytes)
unfolding tlv
found bytes h has =
    let whole = tlv h.tag has.content in
    let size : length whole ≡ h.header_len + h.content_len =
    omega (
      arith,
      has.header_len,
      has.content_len,
      length-append (length_octets (length has.content)) has.content,
    ) in
    let front : take (h.header_len + h.content_len) bytes ≡ whole =
    ap (λ b. take (h.header_len + h.content_len) b) has.is ∙ ap (λ n. take n (whole ++ has.rest)) (sym size)
    ∙ take-append_seam whole has.rest in (
      record { tag = h.tag; content = has.content; number = has.number; is = front },
      omega (arith, ap length has.is, length-append whole has.rest),
    )

pub content_found : (bytes : List ℕ) (h : Header) (has : HasHeader bytes h)
    → slice_range bytes h.header_len (h.header_len + h.content_len) ≡ has.content
unfolding tlv
content_found bytes h has =
    let front = h.tag ∷ length_octets (length has.content) in
    let all : bytes ≡ front ++ (has.content ++ has.rest) = has.is ∙ append_assoc front has.content has.rest in
    let size : (h.header_len + h.content_len) - h.header_len ≡ length has.content = omega (arith, has.content_len) in
    ap (λ k. take k (drop h.header_len bytes)) size
    ∙ ap (λ k. take (length has.content) (drop k bytes)) (sym has.header_len)
    ∙ ap (λ b. take (length has.content) (drop (length front) b)) all
    ∙ ap (take (length has.content)) (drop-append_seam front (has.content ++ has.rest))
    ∙ take-append_seam has.content has.rest

pub element_shorter : (m bytes after : List ℕ) → bytes ≡ m ++ after → IsElement m → length after < length bytes
unfolding tlv
element_shorter m bytes after e x = omega (arith, ap length e, length-append m after, ap length x.is)
