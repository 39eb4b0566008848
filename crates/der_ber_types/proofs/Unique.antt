-- Bytes have one DER by a type.
use Rattle.std.proofs.Common.{◌≡◌, ◌≢◌, ℕ, List, [], ◌∷◌, ◌++◌, sym, ap, ap₂, refl, ◌∙◌, subst}
use Rattle.std.proofs.Common.{arith, append_assoc, ◌⊎◌, inl, inr}
use Rattle.std.specs.List.{AllByRecursion, concat}
use Rattle.picky_der_core.specs.Element.{tlv, IsElement}
use Rattle.picky_der_core.specs.ElementLaws.{tlv_prefix, tlv-same}
use Rattle.picky_der_core.specs.Order.{in_ascending_order}
use Rattle.der_path.specs.Elements.{BeginsWithNone}
use Rattle.der_schema.specs.declared.node.Member.{Member}
use Rattle.der_schema.specs.declared.node.Node.{Node}
use Rattle.der_ber_types.specs.declared.inside.Inside.{Inside}
use Rattle.der_ber_types.specs.Content.{IsContent, IsOne, AreEach, AreMembers}
use Rattle.der_ber_types.specs.Contents.{IsTruth, AreParts, AreBitParts, AreJoinedBits, IsBitPart}
use Rattle.der_ber_types.specs.Inside.{IsInside, HasTag}
use Rattle.der_ber_types.specs.Kinds.{tag_in_der}
use Rattle.der_ber_types.specs.Order.{AreInOrder}
use Rattle.der_ber_types.specs.Reordered.{AreOthers, AreReordered, IsAhead, IsTagged}
use Rattle.der_ber_types.specs.Values.{IsDefault}
use Rattle.der_ber_types.proofs.InsideLemmas.{inside-same, tag_of}

-- ---- elements one after another

-- an element isn't nothing
tlv-some : (tag : ℕ) (content rest : List ℕ) → [] ≡ tlv tag content ++ rest → ⊥
unfolding tlv
tlv-some tag content rest e = cc

pub empty-some : (bytes : List ℕ) (tag : ℕ) (content rest : List ℕ) → bytes ≡ [] → bytes ≡ tlv tag content ++ rest → ⊥
empty-some bytes tag content rest e f = tlv-some tag content rest (sym e ∙ f)

-- the front is the same
pub tlv-fronts : (bytes : List ℕ) (t u : ℕ) (c v r s : List ℕ) → bytes ≡ tlv t c ++ r → bytes ≡ tlv u v ++ s
    → (t ≡ u) × (c ≡ v) × (r ≡ s)
tlv-fronts bytes t u c v r s e f = tlv_prefix t u c v r s (sym e ∙ f)

-- ---- contents

truth-is : (b d : List ℕ) → IsTruth b d
    → ((b ≡ 0x00 ∷ []) × (d ≡ 0x00 ∷ [])) ⊎ ((v : ℕ) × ((v ≢ 0x00) × ((b ≡ v ∷ []) × (d ≡ 0xFF ∷ []))))
truth-is _ _ IsTruth.false = inl (refl, refl)
truth-is _ _ (IsTruth.true v some) = inr (v, (some, (refl, refl)))

truth-unique : (b d e : List ℕ) → IsTruth b d → IsTruth b e → d ≡ e
truth-unique b d e p q = by_cases (truth-is b d p) (truth-is b e q)
  where
    by_cases : ((b ≡ 0x00 ∷ []) × (d ≡ 0x00 ∷ [])) ⊎ ((v : ℕ) × ((v ≢ 0x00) × ((b ≡ v ∷ []) × (d ≡ 0xFF ∷ []))))
        → ((b ≡ 0x00 ∷ []) × (e ≡ 0x00 ∷ [])) ⊎ ((v : ℕ) × ((v ≢ 0x00) × ((b ≡ v ∷ []) × (e ≡ 0xFF ∷ []))))
        → d ≡ e
    by_cases (inl f) (inl g) = f.1 ∙ sym g.1
    by_cases (inl f) (inr (v, (some, (g, h)))) = let wrong : v ≡ 0x00 = cc in absurd (some wrong)
    by_cases (inr (v, (some, (g, h)))) (inl f) = let wrong : v ≡ 0x00 = cc in absurd (some wrong)
    by_cases (inr (v, (some, (g, h)))) (inr (w, (also, (k, l)))) = h ∙ sym l

parts-unique : (b d e : List ℕ) → AreParts b d → AreParts b e → d ≡ e
parts-unique b d e (AreParts.none _ _ p f) (AreParts.none _ _ q g) = f ∙ sym g
parts-unique b d e (AreParts.none _ _ p f) (AreParts.more c rest others _ _ are q g) =
    absurd (empty-some b 0x04 c rest p q)
parts-unique b d e (AreParts.more c rest others _ _ are p f) (AreParts.none _ _ q g) =
    absurd (empty-some b 0x04 c rest q p)
parts-unique b d e (AreParts.more c rest others _ _ are p f) (AreParts.more v last more _ _ also q g) =
    let same = tlv-fronts b 0x04 0x04 c v rest last p q in
    let ends : others ≡ more =
    parts-unique rest others more are (subst (λ l. AreParts l more) (sym same.2) also) in
    f ∙ ap₂ (λ x y. x ++ y) same.1 ends ∙ sym g

pub bit-fronts : (b : List ℕ) (u w : ℕ) (c v r s : List ℕ) → IsBitPart b u c r → IsBitPart b w v s
    → (u ≡ w) × (c ≡ v) × (r ≡ s)
bit-fronts b u w c v r s p q =
    let same = tlv-fronts b 0x03 0x03 (u ∷ c) (w ∷ v) r s p.is q.is in
    let list : u ∷ c ≡ w ∷ v = same.1 in
    (cc, cc, same.2)

bits-unique : (b : List ℕ) (u w : ℕ) (c v : List ℕ) → AreBitParts b u c → AreBitParts b w v → (u ≡ w) × (c ≡ v)
bits-unique b u w c v (AreBitParts.none _ _ _ e f g) (AreBitParts.none _ _ _ h k l) = (f ∙ sym k, g ∙ sym l)
bits-unique b u w c v (AreBitParts.none _ _ _ e f g) (AreBitParts.last _ _ _ some q) =
    absurd (empty-some b 0x03 (w ∷ v) [] e q.is)
bits-unique b u w c v (AreBitParts.none _ _ _ e f g) (AreBitParts.more first rest others _ _ _ q also l) =
    absurd (empty-some b 0x03 (0x00 ∷ first) rest e q.is)
bits-unique b u w c v (AreBitParts.last _ _ _ some p) (AreBitParts.none _ _ _ h k l) =
    absurd (empty-some b 0x03 (u ∷ c) [] h p.is)
bits-unique b u w c v (AreBitParts.last _ _ _ some p) (AreBitParts.last _ _ _ more q) =
    let same = bit-fronts b u w c v [] [] p q in
    (same.0, same.1)
bits-unique b u w c v (AreBitParts.last _ _ _ some p) (AreBitParts.more first rest others _ _ _ q also l) =
    let same = bit-fronts b u 0 c first [] rest p q in
    absurd (omega (arith, some, same.0))
bits-unique b u w c v (AreBitParts.more first rest others _ _ _ p are g) (AreBitParts.none _ _ _ h k l) =
    absurd (empty-some b 0x03 (0x00 ∷ first) rest h p.is)
bits-unique b u w c v (AreBitParts.more first rest others _ _ _ p are g) (AreBitParts.last _ _ _ some q) =
    let same = bit-fronts b 0 w first v rest [] p q in
    absurd (omega (arith, some, same.0))
bits-unique b u w c v (AreBitParts.more first rest others _ _ _ p are g)
    (AreBitParts.more second last more _ _ _ q also l) =
    let same = bit-fronts b 0 0 first second rest last p q in
    let ends = bits-unique rest u w others more are (subst (λ k. AreBitParts k w more) (sym same.2) also) in
    (ends.0, g ∙ ap₂ (λ x y. x ++ y) same.1 ends.1 ∙ sym l)

joined-unique : (b d e : List ℕ) → AreJoinedBits b d → AreJoinedBits b e → d ≡ e
joined-unique b d e p q =
    let same = bits-unique b p.unused q.unused p.bits q.bits p.are q.are in
    p.is ∙ ap₂ (λ u c. u ∷ c) same.0 same.1 ∙ sym q.is

-- ---- elements in order

elements-unique : (es fs : List (List ℕ)) → AllByRecursion IsElement es → AllByRecursion IsElement fs
    → concat es ≡ concat fs → es ≡ fs
elements-unique [] [] p q e = refl
elements-unique [] (f ∷ fs) p q e =
    absurd (tlv-some q.0.tag q.0.content (concat fs) (e ∙ ap (λ l. l ++ concat fs) q.0.is))
elements-unique (e ∷ es) [] p q h =
    absurd (tlv-some p.0.tag p.0.content (concat es) (sym h ∙ ap (λ l. l ++ concat es) p.0.is))
elements-unique (e ∷ es) (f ∷ fs) p q h =
    let same = tlv-fronts (e ++ concat es) p.0.tag q.0.tag p.0.content q.0.content (concat es) (concat fs)
    (ap (λ l. l ++ concat es) p.0.is) (h ∙ ap (λ l. l ++ concat fs) q.0.is) in
    let first : e ≡ f = p.0.is ∙ ap₂ tlv same.0 same.1 ∙ sym q.0.is in
    ap₂ (λ x xs. x ∷ xs) first (elements-unique es fs p.1 q.1 same.2)

pub order-unique : (b d e : List ℕ) → AreInOrder b d → AreInOrder b e → d ≡ e
order-unique b d e p q =
    let same = elements-unique p.elements q.elements p.are_elements.each q.are_elements.each
    (sym p.are_elements.is ∙ q.are_elements.is) in
    p.is ∙ ap (λ es. concat (in_ascending_order es)) same ∙ sym q.is

-- ---- the members of a SET

first-unique : (nodes : List Node) (i : ℕ) (b xs ys e f r s : List ℕ) (t u : ℕ) (c v : List ℕ) → AreOthers nodes i xs
    → AreOthers nodes i ys → HasTag nodes i t → HasTag nodes i u → e ≡ tlv t c → f ≡ tlv u v
    → b ≡ xs ++ (e ++ r) → b ≡ ys ++ (f ++ s) → (xs ≡ ys) × (e ≡ f) × (r ≡ s)
first-unique nodes i b xs ys e f r s t u c v (AreOthers.none _ p) (AreOthers.none _ q) h k is also l m =
    let begins : b ≡ tlv t c ++ r = l ∙ ap₂ (λ x y. x ++ (y ++ r)) p is in
    let other : b ≡ tlv u v ++ s = m ∙ ap₂ (λ x y. x ++ (y ++ s)) q also in
    let same = tlv-fronts b t u c v r s begins other in
    (p ∙ sym q, is ∙ ap₂ tlv same.0 same.1 ∙ sym also, same.2)
first-unique nodes i b xs ys e f r s t u c v (AreOthers.none _ p) (AreOthers.more w d rest _ n un others q) h k is also
    l m =
    let begins : b ≡ tlv t c ++ r = l ∙ ap₂ (λ x y. x ++ (y ++ r)) p is in
    let other : b ≡ tlv w d ++ (rest ++ (f ++ s)) =
    m ∙ ap (λ x. x ++ (f ++ s)) q ∙ append_assoc (tlv w d) rest (f ++ s) in
    let same = tlv-fronts b t w c d r (rest ++ (f ++ s)) begins other in
    absurd (un (subst (HasTag nodes i) same.0 h))
first-unique nodes i b xs ys e f r s t u c v (AreOthers.more w d rest _ n un others p) (AreOthers.none _ q) h k is also
    l m =
    let begins : b ≡ tlv u v ++ s = m ∙ ap₂ (λ x y. x ++ (y ++ s)) q also in
    let other : b ≡ tlv w d ++ (rest ++ (e ++ r)) =
    l ∙ ap (λ x. x ++ (e ++ r)) p ∙ append_assoc (tlv w d) rest (e ++ r) in
    let same = tlv-fronts b u w v d s (rest ++ (e ++ r)) begins other in
    absurd (un (subst (HasTag nodes i) same.0 k))
first-unique nodes i b xs ys e f r s t u c v (AreOthers.more w d rest _ n un others p)
    (AreOthers.more z g last _ o free latter q) h k is also l m =
    let begins : b ≡ tlv w d ++ (rest ++ (e ++ r)) =
    l ∙ ap (λ x. x ++ (e ++ r)) p ∙ append_assoc (tlv w d) rest (e ++ r) in
    let other : b ≡ tlv z g ++ (last ++ (f ++ s)) =
    m ∙ ap (λ x. x ++ (f ++ s)) q ∙ append_assoc (tlv z g) last (f ++ s) in
    let same = tlv-fronts b w z d g (rest ++ (e ++ r)) (last ++ (f ++ s)) begins other in
    let ends = first-unique nodes i (rest ++ (e ++ r)) rest last e f r s t u c v others latter h k is also refl same.2
    in
    (p ∙ ap₂ (λ x y. x ++ y) (ap₂ tlv same.0 same.1) ends.0 ∙ sym q, ends.1, ends.2)

-- an element is found, and none is
first-none : (nodes : List Node) (i : ℕ) (b xs ys e r s : List ℕ) (t : ℕ) (c : List ℕ) → AreOthers nodes i xs
    → AreOthers nodes i ys → HasTag nodes i t → e ≡ tlv t c → BeginsWithNone s → IsTagged nodes i e
    → b ≡ xs ++ (e ++ r) → b ≡ ys ++ s → ⊥
first-none nodes i b xs ys e r s t c (AreOthers.none _ p) (AreOthers.none _ q) h is none g l m =
    let begins : s ≡ tlv g.tag g.content ++ r =
    sym (m ∙ ap (λ x. x ++ s) q) ∙ l ∙ ap₂ (λ x y. x ++ (y ++ r)) p g.is in
    none g.tag g.content r (record { number = g.number; is = begins })
first-none nodes i b xs ys e r s t c (AreOthers.none _ p) (AreOthers.more w d rest _ n un others q) h is none g l m =
    let begins : b ≡ tlv t c ++ r = l ∙ ap₂ (λ x y. x ++ (y ++ r)) p is in
    let other : b ≡ tlv w d ++ (rest ++ s) = m ∙ ap (λ x. x ++ s) q ∙ append_assoc (tlv w d) rest s in
    un (subst (HasTag nodes i) (tlv-fronts b t w c d r (rest ++ s) begins other).0 h)
first-none nodes i b xs ys e r s t c (AreOthers.more w d rest _ n un others p) (AreOthers.none _ q) h is none g l m =
    let begins : s ≡ tlv w d ++ (rest ++ (e ++ r)) =
    sym (m ∙ ap (λ x. x ++ s) q) ∙ l ∙ ap (λ x. x ++ (e ++ r)) p ∙ append_assoc (tlv w d) rest (e ++ r) in
    none w d (rest ++ (e ++ r)) (record { number = n; is = begins })
first-none nodes i b xs ys e r s t c (AreOthers.more w d rest _ n un others p)
    (AreOthers.more z f last _ o free latter q) h is none g l m =
    let begins : b ≡ tlv w d ++ (rest ++ (e ++ r)) =
    l ∙ ap (λ x. x ++ (e ++ r)) p ∙ append_assoc (tlv w d) rest (e ++ r) in
    let other : b ≡ tlv z f ++ (last ++ s) = m ∙ ap (λ x. x ++ s) q ∙ append_assoc (tlv z f) last s in
    let same = tlv-fronts b w z d f (rest ++ (e ++ r)) (last ++ s) begins other in
    first-none nodes i (rest ++ (e ++ r)) rest last e r s t c others latter h is none g refl same.2

pub reordered-unique : (nodes : List Node) (ms : List Member) (b d e : List ℕ) → AreReordered nodes ms b d
    → AreReordered nodes ms b e → d ≡ e
reordered-unique nodes ms b d e (AreReordered.end _ _ f) (AreReordered.end _ _ g) = f ∙ sym g
reordered-unique nodes ms b d e (AreReordered.present m ns xs x r others _ _ p are f)
    (AreReordered.present _ _ ys y s more _ _ q also g) =
    let same = first-unique nodes m.node b xs ys x y r s p.tagged.tag q.tagged.tag p.tagged.content q.tagged.content
    p.others q.others p.tagged.has_tag q.tagged.has_tag p.tagged.is q.tagged.is p.is q.is in
    let ends : others ≡ more = reordered-unique nodes ns (xs ++ r) others more are
    (subst (λ l. AreReordered nodes ns l more) (sym (ap₂ (λ l k. l ++ k) same.0 same.2)) also) in
    f ∙ ap₂ (λ l k. l ++ k) same.1 ends ∙ sym g
reordered-unique nodes ms b d e (AreReordered.present m ns xs x r others _ _ p are f)
    (AreReordered.absent _ _ _ _ none also) =
    absurd (first-none nodes m.node b xs none.before x r none.after p.tagged.tag p.tagged.content p.others none.others
    p.tagged.has_tag p.tagged.is none.ends p.tagged p.is none.is)
reordered-unique nodes ms b d e (AreReordered.absent m ns _ _ none are)
    (AreReordered.present _ _ ys y s more _ _ q also g) =
    absurd (first-none nodes m.node b ys none.before y s none.after q.tagged.tag q.tagged.content q.others none.others
    q.tagged.has_tag q.tagged.is none.ends q.tagged q.is none.is)
reordered-unique nodes ms b d e (AreReordered.absent m ns _ _ none are) (AreReordered.absent _ _ _ _ also more) =
    reordered-unique nodes ns b d e are more

-- ---- elements of a type

-- the front is an element with one of its tags
pub one-ahead : (nodes : List Node) (i : ℕ) (bytes element d rest : List ℕ) → IsOne nodes i element d
    → bytes ≡ element ++ rest → IsAhead nodes i bytes rest
one-ahead nodes i bytes element d rest (IsOne.element _ tag x content _ _ _ number it is e f) whole = record {
  tag = tag;
  content = content;
  begins = record { number = number; is = whole ∙ ap (λ b. b ++ rest) e };
  has_tag = tag_of nodes i tag x it;
}

pub one-fronts : (nodes : List Node) (i j : ℕ) (bytes a b d e r s : List ℕ) → IsOne nodes i a d → IsOne nodes j b e
    → bytes ≡ a ++ r → bytes ≡ b ++ s → (a ≡ b) × (r ≡ s)
one-fronts nodes i j bytes a b d e r s (IsOne.element _ t x c _ _ _ n it is p f)
    (IsOne.element _ u y v _ _ _ m that iz q g) whole also =
    let same = tlv-fronts bytes t u c v r s (whole ∙ ap (λ l. l ++ r) p) (also ∙ ap (λ l. l ++ s) q) in
    (p ∙ ap₂ tlv same.0 same.1 ∙ sym q, same.2)

pub one-some : (nodes : List Node) (i : ℕ) (bytes element d rest : List ℕ) → IsOne nodes i element d → bytes ≡ []
    → bytes ≡ element ++ rest → ⊥
one-some nodes i bytes element d rest one e whole =
    let a = one-ahead nodes i bytes element d rest one whole in
    empty-some bytes a.tag a.content rest e a.begins.is

mutual
  pub one-unique : (nodes : List Node) (i : ℕ) (b d e : List ℕ) → IsOne nodes i b d → IsOne nodes i b e → d ≡ e
  one-unique nodes i b d e (IsOne.element _ t x c k _ _ n it is p f) (IsOne.element _ u y v l _ _ m that iz q g) =
      let same = tlv-same t u c v (sym p ∙ q) in
      let inner : x ≡ y = inside-same nodes i t x y it (subst (λ w. IsInside nodes i w y) (sym same.0) that) in
      let other : IsContent nodes x c l =
      subst (λ w. IsContent nodes w c l) (sym inner) (subst (λ w. IsContent nodes y w l) (sym same.1) iz) in
      f ∙ ap₂ tlv (ap₂ tag_in_der inner same.0) (content-unique nodes x c k l is other) ∙ sym g

  pub each-unique : (nodes : List Node) (i : ℕ) (b d e : List ℕ) → AreEach nodes i b d → AreEach nodes i b e → d ≡ e
  each-unique nodes i b d e (AreEach.no_more _ _ _ p f) (AreEach.no_more _ _ _ q g) = f ∙ sym g
  each-unique nodes i b d e (AreEach.no_more _ _ _ p f) (AreEach.more _ y k s more _ _ one also q g) =
      absurd (one-some nodes i b y k s one p q)
  each-unique nodes i b d e (AreEach.more _ x k r others _ _ one are p f) (AreEach.no_more _ _ _ q g) =
      absurd (one-some nodes i b x k r one q p)
  each-unique nodes i b d e (AreEach.more _ x k r others _ _ one are p f)
      (AreEach.more _ y l s more _ _ other also q g) =
      let same = one-fronts nodes i i b x y k l r s one other p q in
      let first : k ≡ l = one-unique nodes i x k l one (subst (λ w. IsOne nodes i w l) (sym same.0) other) in
      let ends : others ≡ more =
      each-unique nodes i r others more are (subst (λ w. AreEach nodes i w more) (sym same.1) also) in
      f ∙ ap₂ (λ v w. v ++ w) first ends ∙ sym g

  members-unique : (nodes : List Node) (ms : List Member) (b d e : List ℕ) → AreMembers nodes ms b d
      → AreMembers nodes ms b e → d ≡ e
  members-unique nodes ms b d e (AreMembers.end _ _ p f) (AreMembers.end _ _ q g) = f ∙ sym g
  members-unique nodes ms b d e (AreMembers.present m ns x k r others _ _ one un are p f)
      (AreMembers.present _ _ y l s more _ _ other lacks also q g) =
      let same = one-fronts nodes m.node m.node b x y k l r s one other p q in
      let first : k ≡ l =
      one-unique nodes m.node x k l one (subst (λ w. IsOne nodes m.node w l) (sym same.0) other) in
      let ends : others ≡ more =
      members-unique nodes ns r others more are (subst (λ w. AreMembers nodes ns w more) (sym same.1) also) in
      f ∙ ap₂ (λ v w. v ++ w) first ends ∙ sym g
  members-unique nodes ms b d e (AreMembers.present m ns x k r others _ _ one un are p f)
      (AreMembers.written _ _ y l s _ _ other given also q) =
      let same = one-fronts nodes m.node m.node b x y k l r s one other p q in
      let first : k ≡ l =
      one-unique nodes m.node x k l one (subst (λ w. IsOne nodes m.node w l) (sym same.0) other) in
      absurd (un (subst (IsDefault nodes m) (sym first) given))
  members-unique nodes ms b d e (AreMembers.present m ns x k r others _ _ one un are p f)
      (AreMembers.absent _ _ _ _ free none also) =
      absurd (none r (one-ahead nodes m.node b x k r one p))
  members-unique nodes ms b d e (AreMembers.written m ns x k r _ _ one given are p)
      (AreMembers.present _ _ y l s more _ _ other lacks also q g) =
      let same = one-fronts nodes m.node m.node b x y k l r s one other p q in
      let first : k ≡ l =
      one-unique nodes m.node x k l one (subst (λ w. IsOne nodes m.node w l) (sym same.0) other) in
      absurd (lacks (subst (IsDefault nodes m) first given))
  members-unique nodes ms b d e (AreMembers.written m ns x k r _ _ one given are p)
      (AreMembers.written _ _ y l s _ _ other also more q) =
      let same = one-fronts nodes m.node m.node b x y k l r s one other p q in
      members-unique nodes ns r d e are (subst (λ w. AreMembers nodes ns w e) (sym same.1) more)
  members-unique nodes ms b d e (AreMembers.written m ns x k r _ _ one given are p)
      (AreMembers.absent _ _ _ _ free none also) =
      absurd (none r (one-ahead nodes m.node b x k r one p))
  members-unique nodes ms b d e (AreMembers.absent m ns _ _ free none are)
      (AreMembers.present _ _ y l s more _ _ other lacks also q g) =
      absurd (none s (one-ahead nodes m.node b y l s other q))
  members-unique nodes ms b d e (AreMembers.absent m ns _ _ free none are)
      (AreMembers.written _ _ y l s _ _ other given more q) =
      absurd (none s (one-ahead nodes m.node b y l s other q))
  members-unique nodes ms b d e (AreMembers.absent m ns _ _ free none are) (AreMembers.absent _ _ _ _ also un more) =
      members-unique nodes ns b d e are more

  content-unique : (nodes : List Node) (x : Inside) (b d e : List ℕ) → IsContent nodes x b d → IsContent nodes x b e
      → d ≡ e
  content-unique nodes x b d e (IsContent.same _ _ f) (IsContent.same _ _ g) = f ∙ sym g
  content-unique nodes x b d e (IsContent.number _ _ f) (IsContent.number _ _ g) = f ∙ sym g
  content-unique nodes x b d e (IsContent.boolean _ _ f) (IsContent.boolean _ _ g) = truth-unique b d e f g
  content-unique nodes x b d e (IsContent.octets _ _ f) (IsContent.octets _ _ g) = f ∙ sym g
  content-unique nodes x b d e (IsContent.parts _ _ f) (IsContent.parts _ _ g) = parts-unique b d e f g
  content-unique nodes x b d e (IsContent.bits _ _ f) (IsContent.bits _ _ g) = f ∙ sym g
  content-unique nodes x b d e (IsContent.bit_parts _ _ f) (IsContent.bit_parts _ _ g) = joined-unique b d e f g
  content-unique nodes x b d e (IsContent.members ms _ _ f) (IsContent.members _ _ _ g) =
      members-unique nodes ms.now b d e f g
  content-unique nodes x b d e (IsContent.any_order ms _ k _ o f) (IsContent.any_order _ _ l _ q g) =
      let same = reordered-unique nodes ms.now b k l o q in
      members-unique nodes ms.now k d e f (subst (λ w. AreMembers nodes ms.now w e) (sym same) g)
  content-unique nodes x b d e (IsContent.each i _ _ f) (IsContent.each _ _ _ g) = each-unique nodes i b d e f g
  content-unique nodes x b d e (IsContent.set i _ k _ f o) (IsContent.set _ _ l _ g q) =
      let same = each-unique nodes i b k l f g in
      order-unique k d e o (subst (λ w. AreInOrder w e) (sym same) q)
  content-unique nodes x b d e (IsContent.explicit i _ _ f) (IsContent.explicit _ _ _ g) =
      one-unique nodes i b d e f g
