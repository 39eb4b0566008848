-- The parts of elements.
use Rattle.std.proofs.Common.{◌≡◌, ℕ, true, false, ◌&&◌, List, [], ◌∷◌, ◌++◌, refl, sym, ap, ap₂, subst, ◌∙◌}
use Rattle.std.proofs.Common.{append_assoc}
use Rattle.std.proofs.lemmas.List.Concat.{flat_map-append}
use Rattle.der_ber.specs.declared.parts.Part.{Part}
use Rattle.der_ber.specs.declared.parts.Part.TheVariants as part
use Rattle.der_ber.specs.Nodes.{Nodes}
use Rattle.der_ber.specs.Strings.{is_part, are_segments, segments}
use Rattle.der_ber.specs.Parts.{part_bytes, written, content_in, contents, is_in, are_in, ArePartsOf}
use Rattle.der_ber.proofs.Joined.{join}

pub written-append : (ps qs : List Part) → written (ps ++ qs) ≡ written ps ++ written qs
written-append ps qs = flat_map-append part_bytes ps qs

pub contents-append : (ps qs : List Part) → contents (ps ++ qs) ≡ contents ps ++ contents qs
contents-append ps qs = flat_map-append content_in ps qs

pub are_in-append : (s : ℕ) (ps qs : List Part) → are_in s (ps ++ qs) ≡ (are_in s ps && are_in s qs)
are_in-append s [] qs = refl
are_in-append s (p ∷ ps) qs =
    ap (λ b. is_in s p && b) (are_in-append s ps qs)
    ∙ (elim (is_in s p) as (λ b. (b && (are_in s ps && are_in s qs)) ≡ ((b && are_in s ps) && are_in s qs))
    [ true ↦ refl | false ↦ refl ])

pub parts_joined : (a b : Nodes) (ps qs : List Part) → ArePartsOf a ps → ArePartsOf b qs
    → ArePartsOf (join a b) (ps ++ qs)
parts_joined Nodes.none b ps qs h k = subst (λ l. ArePartsOf b (l ++ qs)) (sym h) k
parts_joined (Nodes.primitive tag c a) b ps qs h k = record {
  content_len = h.content_len;
  second = h.second;
  others = h.others ++ qs;
  is = ap (λ l. l ++ qs) h.is;
  is_content = h.is_content;
  no_tag = h.no_tag;
  after = parts_joined a b h.others qs h.after k;
}
parts_joined (Nodes.constructed tag i a) b ps qs h k = record {
  content_len = h.content_len;
  within = h.within;
  others = h.others ++ qs;
  is = ap (λ l. l ++ qs) h.is
      ∙ ap (λ l. part.Header tag h.content_len ∷ l) (append_assoc h.within h.others qs);
  inside = h.inside;
  after = parts_joined a b h.others qs h.after k;
}

pub segments_of : (n : Nodes) (ps : List Part) → ArePartsOf n ps → contents ps ≡ segments n
segments_of Nodes.none ps h = ap contents h
segments_of (Nodes.primitive tag c a) ps h =
    ap contents h.is ∙ ap₂ (λ l m. l ++ m) h.is_content (segments_of a h.others h.after)
segments_of (Nodes.constructed tag i a) ps h =
    ap contents h.is ∙ contents-append h.within h.others
    ∙ ap₂ (λ l m. l ++ m) (segments_of i h.within h.inside) (segments_of a h.others h.after)

pub tags_of : (s : ℕ) (n : Nodes) (ps : List Part) → ArePartsOf n ps → are_in s ps ≡ are_segments s n
tags_of s Nodes.none ps h = ap (are_in s) h
tags_of s (Nodes.primitive tag c a) ps h =
    ap (are_in s) h.is
    ∙ ap (λ b. is_part s tag && (b && are_in s h.others)) (h.no_tag s)
    ∙ ap (λ b. is_part s tag && b) (tags_of s a h.others h.after)
tags_of s (Nodes.constructed tag i a) ps h =
    ap (are_in s) h.is
    ∙ ap (λ b. is_part s tag && b)
    (are_in-append s h.within h.others
    ∙ ap₂ (λ b d. b && d) (tags_of s i h.within h.inside) (tags_of s a h.others h.after))
