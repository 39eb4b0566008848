-- Inputs that are one element to their end.
use Rattle.std.proofs.Common.{◌≡◌, ℕ, ◌^◌, ◌-◌, ◌<◌, ◌≤◌, List, [], ◌∷◌, ◌++◌, length, get_or, take, drop, take_all, Ok}
use Rattle.std.proofs.Common.{sym, ap, ◌∙◌, subst, arith, length-append}
use Rattle.picky_der_core.specs.declared.error.Asn1DerError.TheVariants.{TruncatedData}
use Rattle.picky_der_core.specs.Tag.{number_of, IsTagNumber}
use Rattle.picky_der_core.specs.Element.{length_octets, tlv, IsElement, IsPrefix}
use Rattle.picky_der_core.specs.Refusal.{ReadOutcome, length_of}
use Rattle.picky_der_core.specs.LengthLaws.{length_of-length_octets}

pub element_of : (tag n : ℕ) (after content : List ℕ) → IsTagNumber (number_of tag)
    → after ≡ length_octets n ++ content → length content ≡ n → IsElement (tag ∷ after)
unfolding tlv
element_of tag n after content number is e =
    record {
      tag = tag;
      content = content;
      number = number;
      is =
          ap (λ l. tag ∷ l) (is ∙ ap (λ m. length_octets m ++ content) (sym e));
    }

-- what follows the tag of an element
after_tag : (tag : ℕ) (after : List ℕ) (h : IsElement (tag ∷ after))
    → (h.tag ≡ tag) × (after ≡ length_octets (length h.content) ++ h.content)
unfolding tlv
after_tag tag after h =
    let all : tag ∷ after ≡ h.tag ∷ (length_octets (length h.content) ++ h.content) = h.is in
    (cc, cc)

empty_no_element : IsElement [] → ⊥
unfolding tlv
empty_no_element h = let none : [] ≡ h.tag ∷ (length_octets (length h.content) ++ h.content) = h.is in cc

pub tag_of_element : (tag : ℕ) (after : List ℕ) → IsElement (tag ∷ after) → IsTagNumber (number_of tag)
tag_of_element tag after h = subst (λ t. IsTagNumber (number_of t)) (after_tag tag after h).0 h.number

content_short : (tag : ℕ) (after : List ℕ) (h : IsElement (tag ∷ after)) → length after < 2 ^ 64
    → length h.content < 2 ^ 64
content_short tag after h small =
    omega (
      arith,
      small,
      ap length (after_tag tag after h).1,
      length-append (length_octets (length h.content)) h.content,
    )

pub length_of_element : (tag n : ℕ) (after content : List ℕ) → length after < 2 ^ 64
    → length_of TruncatedData after ≡ Ok (n, content) → IsElement (tag ∷ after) → length content ≡ n
length_of_element tag n after content small one h =
    let other = length_of-length_octets TruncatedData (length h.content) h.content (content_short tag after h small) in
    let both : ◌≡◌ {A = ReadOutcome ℕ} (Ok (n, content)) (Ok (length h.content, h.content)) = sym one
    ∙ ap (length_of TruncatedData) (after_tag tag after h).1 ∙ other in
    let same : ◌≡◌ {A = ℕ × List ℕ} (n, content) (length h.content, h.content) = cc in
    ap (λ p. length p.1) same ∙ sym (ap (λ p. p.0) same)

pub no_length_no_element : (tag : ℕ) (after : List ℕ) → length after < 2 ^ 64
    → ((n : ℕ) → n < 2 ^ 64 → IsPrefix (length_octets n) after → ⊥) → IsElement (tag ∷ after) → ⊥
no_length_no_element tag after small none h =
    none (length h.content) (content_short tag after h small)
    (record { rest = h.content; is = (after_tag tag after h).1 })

pub first_byte_of : (input : List ℕ) → 1 ≤ length input
    → get_or input 0 0 ∷ take (length input - 1) (drop 1 input) ≡ input
first_byte_of [] h = absurd (omega (arith, h))
first_byte_of (b ∷ bs) h = ap (λ l. b ∷ l) (take_all (length (b ∷ bs) - 1) bs (omega arith))

pub shorter_no_element : (input : List ℕ) → length input < 1 → IsElement input → ⊥
shorter_no_element [] h k = empty_no_element k
shorter_no_element (b ∷ bs) h k = omega (arith, h)
