-- The length of an element that is put in place of another.
use Rattle.std.proofs.Common.{◌≡◌, ℕ, ◌+◌, ◌-◌, List, [], ◌∷◌, ◌++◌, length, take, drop, sym, ap, ◌∙◌}
use Rattle.std.proofs.Common.{arith, length-append, append_assoc}
use Rattle.std.proofs.Math.Seq.{take-append_seam, drop-append_seam}
use Rattle.picky_der_core.specs.Element.{tlv, length_octets}

-- the content is as long as its length says
pub length-kept : (bytes front content : List ℕ) (place start n len tag : ℕ) → length front ≡ place
    → bytes ≡ front ++ (tag ∷ (length_octets n ++ content)) → start ≡ place + 1 + length (length_octets n)
    → len ≡ length bytes - start → len ≡ n → bytes ≡ front ++ tlv tag content
unfolding tlv
length-kept bytes front content place start n len tag size is begin rest same =
    let count : n ≡ length content =
    omega (
      arith,
      ap length is ∙ length-append front (tag ∷ (length_octets n ++ content)),
      length-append (length_octets n) content,
      size,
      begin,
      rest,
      same,
    ) in
    is ∙ ap (λ m. front ++ (tag ∷ (length_octets m ++ content))) count

-- it isn't, and these bytes are its length
pub length-put : (old new front content octets : List ℕ) (place at start n len tag : ℕ) → length front ≡ place
    → old ≡ front ++ (tag ∷ (length_octets n ++ content)) → at ≡ place + 1 → start ≡ at + length (length_octets n)
    → len ≡ length old - start → octets ≡ length_octets len → new ≡ take at old ++ (octets ++ drop start old)
    → new ≡ front ++ tlv tag content
unfolding tlv
length-put old new front content octets place at start n len tag size is next begin rest own put =
    let begun = front ++ (tag ∷ []) in
    let opened = begun ++ length_octets n in
    let whole : old ≡ begun ++ (length_octets n ++ content) =
    is ∙ sym (append_assoc front (tag ∷ []) (length_octets n ++ content)) in
    let cut : old ≡ opened ++ content = whole ∙ sym (append_assoc begun (length_octets n) content) in
    let first : at ≡ length begun = omega (arith, length-append front (tag ∷ []), size, next) in
    let second : start ≡ length opened = omega (arith, length-append begun (length_octets n), first, begin) in
    let before : take at old ≡ begun =
    rw (first, whole) (take-append_seam begun (length_octets n ++ content)) in
    let after : drop start old ≡ content = rw (second, cut) (drop-append_seam opened content) in
    let count : len ≡ length content = omega (arith, ap length cut ∙ length-append opened content, second, rest) in
    put ∙ ap (λ s. s ++ (octets ++ drop start old)) before ∙ ap (λ s. begun ++ (octets ++ s)) after
    ∙ append_assoc front (tag ∷ []) (octets ++ content)
    ∙ ap (λ s. front ++ (tag ∷ (s ++ content))) (own ∙ ap length_octets count)
