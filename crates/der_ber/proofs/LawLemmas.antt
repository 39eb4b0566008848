-- DER is BER.
use Rattle.std.proofs.Common.{◌≡◌, ℕ, ◌^◌, ◌<◌, true, false, List, ◌∷◌, ◌++◌, length, refl, sym, ap}
use Rattle.std.proofs.Common.{subst, ◌∙◌, arith}
use Rattle.std.proofs.Common.{append_assoc, length-append}
use Rattle.picky_der_core.specs.Element.{tlv, length_octets}
use Rattle.der_ber.specs.Nodes.{Nodes, encoding}
use Rattle.picky_der_core.specs.Tag.{number_of}
use Rattle.der_ber.specs.declared.strings.Strings.{Strings}
use Rattle.der_ber.specs.declared.strings.Strings.TheVariants.{InParts, Whole}
use Rattle.der_ber.specs.LongLengths.{IsTag, IsDefinite, BeginsConstructed, HasLongLengths}
use Rattle.der_ber.specs.Strings.{BeginsWhole, HasParts}
use Rattle.der_ber.specs.Laws.{DerIsBer, StaysShort, OneWhole, StaysWhole}
use Rattle.der_ber.proofs.StringTags.{whole_is_tag}
use Rattle.der_ber.proofs.WholeLemmas.{stays, same_whole, whole_stays}
use Rattle.der_ber.proofs.LengthLemmas.{shortest}
use Rattle.der_ber.proofs.Splits.{one_meaning}

length-content : (tag : ℕ) (c : List ℕ) → length c < length (tlv tag c)
unfolding tlv
length-content tag c = omega (arith, length-append (length_octets (length c)) c)

pub tlv_definite : (tag : ℕ) (c after : List ℕ) → length c < 2 ^ 64 → IsDefinite tag c (tlv tag c ++ after) after
unfolding tlv
tlv_definite tag c after small = record {
  octets = length_octets (length c);
  is_length = shortest (length c) small;
  is = ap (λ l. tag ∷ l) (append_assoc (length_octets (length c)) c after);
}

small_parts : (tag : ℕ) (c after : List ℕ) → length (tlv tag c ++ after) < 2 ^ 64
    → (length c < 2 ^ 64) × (length after < 2 ^ 64)
small_parts tag c after small =
    let whole = length-append (tlv tag c) after in
    let within = length-content tag c in
    (omega arith, omega arith)

-- the tags, and what is in them
record IsOpened (tag : ℕ) (AreInside AreOthers : List ℕ → Type 0) : Type 0 where
  pub is_tag : IsTag tag true
  pub content : List ℕ
  pub inside : AreInside content
  pub after : List ℕ
  pub others : AreOthers after

opened : (tag : ℕ) (I O : List ℕ → Type 0) (s : List ℕ) → BeginsConstructed tag I O s → IsOpened tag I O
opened tag I O s (BeginsConstructed.definite c after is_tag d inside others) =
    record { is_tag = is_tag; content = c; inside = inside; after = after; others = others }
opened tag I O s (BeginsConstructed.indefinite c after is_tag e inside others) =
    record { is_tag = is_tag; content = c; inside = inside; after = after; others = others }

-- the encoding of these elements has them
abbrev IsOwn : Nodes → Type 0
IsOwn w = length (encoding w) < 2 ^ 64 → HasLongLengths w (encoding w)

primitive_own : (tag : ℕ) (c : List ℕ) (a : Nodes) → IsTag tag false → IsOwn a → IsOwn (Nodes.primitive tag c a)
unfolding encoding
primitive_own tag c a is_tag own small =
    let (few, others) = small_parts tag c (encoding a) small in
    record {
      is_tag = is_tag;
      after = encoding a;
      definite = tlv_definite tag c (encoding a) few;
      others = own others;
    }

constructed_own : (tag : ℕ) (i a : Nodes) → IsTag tag true → IsOwn i → IsOwn a → IsOwn (Nodes.constructed tag i a)
unfolding encoding
constructed_own tag i a is_tag inside own small =
    let (few, others) = small_parts tag (encoding i) (encoding a) small in
    BeginsConstructed.definite (encoding i) (encoding a) is_tag (tlv_definite tag (encoding i) (encoding a) few)
    (inside few) (own others)

whole_own : (strings : Strings) (n w : Nodes) (bytes : List ℕ) → HasLongLengths n bytes → HasParts strings n w → IsOwn w
unfolding encoding
whole_own strings Nodes.none w s h p = subst IsOwn (sym p) (λ small. refl)
whole_own strings (Nodes.primitive tag c a) w s h p =
    subst IsOwn (sym p.is)
    (primitive_own tag c p.after h.is_tag (whole_own strings a p.after h.after h.others p.others))
whole_own strings (Nodes.constructed tag i a) w s h (BeginsWhole.string part c after e content is others) =
    let o = opened tag (HasLongLengths i) (HasLongLengths a) s h in
    subst IsOwn (sym is)
    (primitive_own (number_of tag) c after (whole_is_tag strings tag part e)
    (whole_own strings a after o.after o.others others))
whole_own strings (Nodes.constructed tag i a) w s h (BeginsWhole.other within after e inside is others) =
    let o = opened tag (HasLongLengths i) (HasLongLengths a) s h in
    subst IsOwn (sym is)
    (constructed_own tag within after o.is_tag (whole_own strings i within o.content o.inside inside)
    (whole_own strings a after o.after o.others others))

pub der_is_ber : DerIsBer
der_is_ber nodes bytes h small = whole_own InParts nodes nodes bytes h (stays nodes) small

pub stays_short : StaysShort
stays_short bytes der again small first second =
    let whole : HasLongLengths first.nodes der =
    subst (HasLongLengths first.nodes) (sym first.is)
    (der_is_ber first.nodes bytes first.elements (subst (λ l. length l < 2 ^ 64) first.is small)) in
    second.is ∙ ap encoding (one_meaning second.nodes first.nodes der second.elements whole) ∙ sym first.is

-- ---- whole strings

pub one_whole : OneWhole
one_whole bytes der other first second =
    let nodes : first.nodes ≡ second.nodes =
    one_meaning first.nodes second.nodes bytes first.elements second.elements in
    first.is
    ∙ ap encoding
    (same_whole Whole second.nodes first.whole second.whole
    (subst (λ n. HasParts Whole n first.whole) nodes first.has_parts) second.has_parts)
    ∙ sym second.is

pub stays_whole : StaysWhole
stays_whole bytes der again small first second =
    let own : HasLongLengths first.whole der =
    subst (HasLongLengths first.whole) (sym first.is)
    (whole_own Whole first.nodes first.whole bytes first.elements first.has_parts
    (subst (λ l. length l < 2 ^ 64) first.is small)) in
    let nodes : second.nodes ≡ first.whole = one_meaning second.nodes first.whole der second.elements own in
    second.is
    ∙ ap encoding
    (same_whole Whole first.whole second.whole first.whole
    (subst (λ n. HasParts Whole n second.whole) nodes second.has_parts)
    (whole_stays Whole first.nodes first.whole first.has_parts))
    ∙ sym first.is
