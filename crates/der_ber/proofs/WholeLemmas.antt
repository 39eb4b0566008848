-- Elements, and the same with whole strings.
use Rattle.std.proofs.Common.{◌≡◌, refl, sym, ap, subst, ◌∙◌}
use Rattle.std.specs.Prelude.{Some, None}
use Rattle.picky_der_core.specs.Tag.{number_of}
use Rattle.der_ber.specs.declared.strings.Strings.{Strings}
use Rattle.der_ber.specs.declared.strings.Strings.TheVariants.{InParts}
use Rattle.der_ber.specs.Nodes.{Nodes}
use Rattle.der_ber.specs.Strings.{IsWholeContent, BeginsWhole, HasParts, segments}
use Rattle.der_ber.proofs.BitLemmas.{same_joined}
use Rattle.der_ber.proofs.Joined.{join}

-- strings that stay in parts
pub stays : (n : Nodes) → HasParts InParts n n
stays Nodes.none = refl
stays (Nodes.primitive tag c a) = record { after = a; is = refl; others = stays a }
stays (Nodes.constructed tag i a) = BeginsWhole.other i a refl (stays i) refl (stays a)

-- ---- one after another

pub whole_joined : (strings : Strings) (a b v w : Nodes) → HasParts strings a v → HasParts strings b w
    → HasParts strings (join a b) (join v w)
whole_joined strings Nodes.none b v w h k = subst (λ x. HasParts strings b (join x w)) (sym h) k
whole_joined strings (Nodes.primitive tag c a) b v w h k = record {
  after = join h.after w;
  is = ap (λ x. join x w) h.is;
  others = whole_joined strings a b h.after w h.others k;
}
whole_joined strings (Nodes.constructed tag i a) b v w (BeginsWhole.string part content after e s is others) k =
    BeginsWhole.string part content (join after w) e s (ap (λ x. join x w) is)
    (whole_joined strings a b after w others k)
whole_joined strings (Nodes.constructed tag i a) b v w (BeginsWhole.other within after e inside is others) k =
    BeginsWhole.other within (join after w) e inside (ap (λ x. join x w) is)
    (whole_joined strings a b after w others k)

-- elements that have whole strings
pub record CanBeWhole (strings : Strings) (nodes : Nodes) : Type 0 where
  pub whole : Nodes
  pub has_parts : HasParts strings nodes whole

pub whole_second : (strings : Strings) (a b w : Nodes) → HasParts strings (join a b) w → CanBeWhole strings b
whole_second strings Nodes.none b w h = record { whole = w; has_parts = h }
whole_second strings (Nodes.primitive tag c a) b w h = whole_second strings a b h.after h.others
whole_second strings (Nodes.constructed tag i a) b w (BeginsWhole.string part content after e s is others) =
    whole_second strings a b after others
whole_second strings (Nodes.constructed tag i a) b w (BeginsWhole.other within after e inside is others) =
    whole_second strings a b after others

-- ---- one whole

pub same_whole : (strings : Strings) (n v w : Nodes) → HasParts strings n v → HasParts strings n w → v ≡ w
same_whole strings Nodes.none v w h k = h ∙ sym k
same_whole strings (Nodes.primitive tag c a) v w h k =
    h.is
    ∙ ap (λ x. Nodes.primitive tag c x) (same_whole strings a h.after k.after h.others k.others)
    ∙ sym k.is
same_whole strings (Nodes.constructed tag i a) v w (BeginsWhole.string part c after e s is others)
    (BeginsWhole.string part' c' after' e' s' is' others') =
    let parts : Some part ≡ Some part' = sym e ∙ e' in
    let part_is : part' ≡ part = cc in
    let contents : c ≡ c' =
    same_joined part (segments i) c c' s.joined (subst (λ p. IsWholeContent p i c') part_is s').joined in
    let afters : after ≡ after' = same_whole strings a after after' others others' in
    is ∙ ap (λ x. Nodes.primitive (number_of tag) x after) contents ∙ ap (Nodes.primitive (number_of tag) c') afters
    ∙ sym is'
same_whole strings (Nodes.constructed tag i a) v w (BeginsWhole.string part c after e s is others)
    (BeginsWhole.other within after' e' inside is' others') =
    let bad : Some part ≡ None = sym e ∙ e' in absurd (cc)
same_whole strings (Nodes.constructed tag i a) v w (BeginsWhole.other within after e inside is others)
    (BeginsWhole.string part c after' e' s is' others') =
    let bad : Some part ≡ None = sym e' ∙ e in absurd (cc)
same_whole strings (Nodes.constructed tag i a) v w (BeginsWhole.other within after e inside is others)
    (BeginsWhole.other within' after' e' inside' is' others') =
    let insides : within ≡ within' = same_whole strings i within within' inside inside' in
    let afters : after ≡ after' = same_whole strings a after after' others others' in
    is ∙ ap (λ x. Nodes.constructed tag x after) insides ∙ ap (Nodes.constructed tag within') afters ∙ sym is'

-- whole strings stay
pub whole_stays : (strings : Strings) (n w : Nodes) → HasParts strings n w → HasParts strings w w
whole_stays strings Nodes.none w h = subst (λ x. HasParts strings x x) (sym h) refl
whole_stays strings (Nodes.primitive tag c a) w h =
    subst (λ x. HasParts strings x x) (sym h.is)
    (record { after = h.after; is = refl; others = whole_stays strings a h.after h.others })
whole_stays strings (Nodes.constructed tag i a) w (BeginsWhole.string part c after e s is others) =
    subst (λ x. HasParts strings x x) (sym is)
    (record { after = after; is = refl; others = whole_stays strings a after others })
whole_stays strings (Nodes.constructed tag i a) w (BeginsWhole.other within after e inside is others) =
    subst (λ x. HasParts strings x x) (sym is)
    (BeginsWhole.other within after e (whole_stays strings i within inside) refl
    (whole_stays strings a after others))
