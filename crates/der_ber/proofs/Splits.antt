-- Bytes are those of one list of elements only.
use Rattle.std.proofs.Common.{◌≡◌, ℕ, List, [], ◌∷◌, ◌++◌, refl, sym, ap, ◌∙◌}
use Rattle.std.proofs.lemmas.List.{append_cancel_right}
use Rattle.der_ber.specs.declared.front.Until.{Until}
use Rattle.der_ber.specs.declared.front.Until.TheVariants as until
use Rattle.der_ber.specs.Nodes.{Nodes}
use Rattle.der_ber.specs.LongLengths.{HasLongLengths}
use Rattle.der_ber.specs.Fronts.{IsEnd}
use Rattle.der_ber.specs.Laws.{OneMeaning}
use Rattle.der_ber.proofs.Firsts.{primitive_tag, constructed_tag, other_form, not_ended, same_definite, same_firsts}
use Rattle.der_ber.proofs.Firsts.{AreClosed}
use Rattle.der_ber.proofs.Joined.{join, join_none}

-- no element is before the end of all bytes
pub nothing_left : (n : Nodes) (u y : List ℕ) → HasLongLengths n u → [] ≡ u ++ y → n ≡ Nodes.none
nothing_left Nodes.none u y h e = refl
nothing_left (Nodes.primitive tag c a) u y h e =
    absurd (not_ended tag _ u y [] until.End [] (primitive_tag tag c (HasLongLengths a) u h) (sym e) (refl, refl))
nothing_left (Nodes.constructed tag i a) u y h e =
    absurd (not_ended tag _ u y [] until.End []
    (constructed_tag tag (HasLongLengths i) (HasLongLengths a) u h) (sym e) (refl, refl))

-- nor before an end-of-contents
nothing_before : (n : Nodes) (u x y : List ℕ) → HasLongLengths n u → 0x00 ∷ (0x00 ∷ x) ≡ u ++ (0x00 ∷ (0x00 ∷ y))
    → x ≡ y
nothing_before Nodes.none u x y h e =
    let same : 0x00 ∷ (0x00 ∷ x) ≡ 0x00 ∷ (0x00 ∷ y) = e ∙ ap (λ l. l ++ (0x00 ∷ (0x00 ∷ y))) h in
    cc
nothing_before (Nodes.primitive tag c a) u x y h e =
    absurd (not_ended tag _ u (0x00 ∷ (0x00 ∷ y)) (0x00 ∷ (0x00 ∷ x)) until.EndOfContents x
    (primitive_tag tag c (HasLongLengths a) u h) (sym e) refl)
nothing_before (Nodes.constructed tag i a) u x y h e =
    absurd (not_ended tag _ u (0x00 ∷ (0x00 ∷ y)) (0x00 ∷ (0x00 ∷ x)) until.EndOfContents x
    (constructed_tag tag (HasLongLengths i) (HasLongLengths a) u h) (sym e) refl)

-- The elements b begin with the elements a, and these are after them.
pub record Rest (a b : Nodes) (x y : List ℕ) : Type 0 where
  pub nodes : Nodes
  pub bytes : List ℕ
  pub elements : HasLongLengths nodes bytes
  pub is : x ≡ bytes ++ y
  pub whole : b ≡ join a nodes

-- contents before an end-of-contents are the same
closed_by : (i i' : Nodes)
    → ((c c' x y : List ℕ) → HasLongLengths i c → HasLongLengths i' c'
    → c ++ (0x00 ∷ (0x00 ∷ x)) ≡ c' ++ (0x00 ∷ (0x00 ∷ y))
    → Rest i i' (0x00 ∷ (0x00 ∷ x)) (0x00 ∷ (0x00 ∷ y))) → AreClosed (HasLongLengths i) (HasLongLengths i')
closed_by i i' splits c c' x y h k e =
    let r = splits c c' x y h k e in
    let after : x ≡ y = nothing_before r.nodes r.bytes x y r.elements r.is in
    let same : c ++ (0x00 ∷ (0x00 ∷ x)) ≡ c' ++ (0x00 ∷ (0x00 ∷ x)) =
    e ∙ ap (λ l. c' ++ (0x00 ∷ (0x00 ∷ l))) (sym after) in
    (append_cancel_right c c' (0x00 ∷ (0x00 ∷ x)) same, after)

-- elements of one content are the same
same_by : (i i' : Nodes) → Rest i i' [] [] → i' ≡ i
same_by i i' r =
    r.whole ∙ ap (join i) (nothing_left r.nodes r.bytes [] r.elements r.is) ∙ join_none i

pub split : (a : Nodes) (s x : List ℕ) → HasLongLengths a s → (b : Nodes) (t y : List ℕ) → HasLongLengths b t
    → s ++ x ≡ t ++ y → (u : Until) (z : List ℕ) → IsEnd u y z → Rest a b x y
split Nodes.none s x h b t y k e u z end = record {
  nodes = b;
  bytes = t;
  elements = k;
  is = ap (λ l. l ++ x) (sym h) ∙ e;
  whole = refl;
}
split (Nodes.primitive tag c a) s x h Nodes.none t y k e u z end =
    absurd (not_ended tag _ s x y u z (primitive_tag tag c (HasLongLengths a) s h) (e ∙ ap (λ l. l ++ y) k) end)
split (Nodes.primitive tag c a) s x h (Nodes.primitive tag' c' b) t y k e u z end =
    let (tags, contents, others) = same_definite tag tag' c c' s t h.after k.after x y h.definite k.definite e in
    let r = split a h.after x h.others b k.after y k.others others u z end in
    let same : b ≡ join a r.nodes = r.whole in
    record { nodes = r.nodes; bytes = r.bytes; elements = r.elements; is = r.is; whole = cc (tags, contents, same) }
split (Nodes.primitive tag c a) s x h (Nodes.constructed tag' i' b) t y k e u z end =
    absurd (other_form tag tag' s t x y (primitive_tag tag c (HasLongLengths a) s h)
    (constructed_tag tag' (HasLongLengths i') (HasLongLengths b) t k) e)
split (Nodes.constructed tag i a) s x h Nodes.none t y k e u z end =
    absurd (not_ended tag _ s x y u z (constructed_tag tag (HasLongLengths i) (HasLongLengths a) s h)
    (e ∙ ap (λ l. l ++ y) k) end)
split (Nodes.constructed tag i a) s x h (Nodes.primitive tag' c' b) t y k e u z end =
    absurd (other_form tag' tag t s y x (primitive_tag tag' c' (HasLongLengths b) t k)
    (constructed_tag tag (HasLongLengths i) (HasLongLengths a) s h) (sym e))
split (Nodes.constructed tag i a) s x h (Nodes.constructed tag' i' b) t y k e u z end =
    let closed : AreClosed (HasLongLengths i) (HasLongLengths i') =
    closed_by i i' (λ c c' x' y' p q w. split i c (0x00 ∷ (0x00 ∷ x')) p i' c' (0x00 ∷ (0x00 ∷ y')) q w
    until.EndOfContents y' refl) in
    let f =
    same_firsts tag tag' (HasLongLengths i) (HasLongLengths a) (HasLongLengths i') (HasLongLengths b) s t x y closed h k
    e in
    let inside : i' ≡ i = same_by i i' (split i f.content [] f.inside i' f.content [] f.inside' refl until.End []
    (refl, refl)) in
    let r = split a f.after x f.others b f.after' y f.others' f.is u z end in
    let same : b ≡ join a r.nodes = r.whole in
    let tags : tag ≡ tag' = f.tags in
    record { nodes = r.nodes; bytes = r.bytes; elements = r.elements; is = r.is; whole = cc (tags, inside, same) }

pub one_meaning : OneMeaning
one_meaning a b s h k = sym (same_by a b (split a s [] h b s [] k refl until.End [] (refl, refl)))
