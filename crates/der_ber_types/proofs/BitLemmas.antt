-- Bit strings in parts that are read one by one.
use Rattle.std.proofs.Common.{◌≡◌, ℕ, ◌<◌, List, [], ◌∷◌, ◌++◌, length, ap, refl, ◌∙◌, append_assoc}
use Rattle.std.proofs.Common.{append-nil, arith, subst, length-append, inl, inr}
use Rattle.std.proofs.lemmas.Bool.{cases_lt}
use Rattle.picky_der_core.specs.Element.{tlv}
use Rattle.der_ber_types.specs.Contents.{AreBitParts, AreJoinedBits, IsBitPart}

-- what may come after bit strings, of which so many bits of the last one are unused
pub data AreBitsAfter (last : ℕ) (rest : List ℕ) (unused : ℕ) (others : List ℕ) : Type 0 where
  zero : last ≡ 0 → AreBitParts rest unused others → AreBitsAfter last rest unused others
  end : 0 < last → rest ≡ [] → unused ≡ last → others ≡ [] → AreBitsAfter last rest unused others

-- what is made of the rest completes it
abbrev pub BitsSoFar : ℕ → List ℕ → List ℕ → List ℕ → Type 0
BitsSoFar last bytes rest bits =
    (unused : ℕ) (others : List ℕ) → AreBitsAfter last rest unused others → AreBitParts bytes unused (bits ++ others)

bits-first : (bytes : List ℕ) (unused : ℕ) (others : List ℕ) → AreBitsAfter 0 bytes unused others
    → AreBitParts bytes unused others
bits-first bytes unused others (AreBitsAfter.zero e are) = are
bits-first bytes unused others (AreBitsAfter.end some e f g) = absurd (omega (arith, some))

pub bits-begin : (last : ℕ) (bytes bits : List ℕ) → last ≡ 0 → bits ≡ [] → BitsSoFar last bytes bytes bits
bits-begin last bytes bits none empty unused others after =
    rw empty (bits-first bytes unused others (subst (λ l. AreBitsAfter l bytes unused others) none after))

one-more : (bytes rest after old first : List ℕ) (last u unused : ℕ) (others : List ℕ) → last ≡ 0
    → BitsSoFar last bytes rest old → IsBitPart rest u first after → AreBitsAfter u after unused others
    → AreBitParts bytes unused ((old ++ first) ++ others)
one-more bytes rest after old first last u unused others is_zero so_far part (AreBitsAfter.zero e are) =
    let begins : IsBitPart rest 0 first after = subst (λ l. IsBitPart rest l first after) e part in
    rw append_assoc (so_far unused (first ++ others) (AreBitsAfter.zero is_zero
    (AreBitParts.more first after others rest unused (first ++ others) begins are refl)))
one-more bytes rest after old first last u unused others is_zero so_far part (AreBitsAfter.end some e f g) =
    let alone : IsBitPart rest u first [] = subst (IsBitPart rest u first) e part in
    let bits : (old ++ first) ++ others ≡ old ++ first = ap (λ l. (old ++ first) ++ l) g ∙ append-nil (old ++ first) in
    rw (bits, f) (so_far u first (AreBitsAfter.zero is_zero (AreBitParts.last rest u first some alone)))

pub bits-more : (bytes rest after old first new : List ℕ) (last u : ℕ) → last ≡ 0 → BitsSoFar last bytes rest old
    → IsBitPart rest u first after → new ≡ old ++ first → BitsSoFar u bytes after new
bits-more bytes rest after old first new last u is_zero so_far part appended unused others are =
    rw appended (one-more bytes rest after old first last u unused others is_zero so_far part are)

none_after : (last : ℕ) (rest : List ℕ) → rest ≡ [] → AreBitsAfter last rest last []
none_after last rest none = elim (cases_lt 0 last) [
  | inl some ↦ AreBitsAfter.end some none refl refl
  | inr most ↦
      let is : last ≡ 0 = omega arith in
      AreBitsAfter.zero is (AreBitParts.none rest last [] none is refl)
]

-- the content of all of them
pub bits-end : (bytes rest bits slice content begun : List ℕ) (last : ℕ) → BitsSoFar last bytes rest bits → rest ≡ []
    → begun ≡ last ∷ [] → content ≡ begun ++ slice → slice ≡ bits → AreJoinedBits bytes content
bits-end bytes rest bits slice content begun last so_far none first whole same = record {
  unused = last;
  bits = bits;
  are = subst (AreBitParts bytes last) (append-nil bits) (so_far last [] (none_after last rest none));
  is = whole ∙ ap (λ l. l ++ slice) first ∙ ap (λ l. last ∷ l) same;
}

pub part-shorter : (rest after bits : List ℕ) (unused : ℕ) → IsBitPart rest unused bits after
    → length after < length rest
unfolding tlv
part-shorter rest after bits unused p = omega (arith, ap length p.is ∙ length-append (tlv 0x03 (unused ∷ bits)) after)
