-- What has no DER by a type.
use Rattle.std.proofs.Common.{◌≡◌, ◌≢◌, ℕ, ◌+◌, ◌<◌, ◌≤◌, List, [], ◌∷◌, ◌++◌, sym, ap, refl, ◌∙◌, subst, append-nil}
use Rattle.std.proofs.Common.{arith, length, drop, get_or, Result, Ok, Err, IfErr}
use Rattle.std.proofs.lemmas.List.{drop_all, drop_more}
use Rattle.std.specs.Borrow.{Bor}
use Rattle.std.specs.List.{AllByRecursion, concat}
use Rattle.picky_der_core.specs.Element.{tlv, IsElement}
use Rattle.der_path.specs.Elements.{BeginsWith, BeginsWithNone}
use Rattle.der_schema.specs.declared.node.Member.{Member}
use Rattle.der_schema.specs.declared.node.Node.{Node}
use Rattle.der_schema.specs.declared.node.Presence.TheVariants.{Required}
use Rattle.der_ber_types.specs.declared.error.TypeError.{TypeError}
use Rattle.der_ber_types.specs.declared.inside.Inside.{Inside}
use Rattle.der_ber_types.specs.declared.inside.Inside.TheVariants as inside
use Rattle.der_ber_types.specs.Content.{IsContent, IsOne, AreEach, AreMembers}
use Rattle.der_ber_types.specs.Contents.{AreParts, AreBitParts, IsBitPart, most_unused}
use Rattle.der_ber_types.specs.Inside.{IsInside}
use Rattle.der_ber_types.specs.Order.{AreElements, AreInOrder}
use Rattle.der_ber_types.specs.Pushed.{IsPushed, IsMemberPushed}
use Rattle.der_ber_types.specs.Refusals.{HasNoOne, HasNoEach, HasNoMembers, HasNoMember, HasNoFront, HasNoContent}
use Rattle.der_ber_types.specs.Refusals.{IsRefusal, IsNoBitPart, IsNoTruth, AreNoParts, AreNoBits, AreNotInOrder}
use Rattle.der_ber_types.specs.Reordered.{AreReordered, IsNotAhead}
use Rattle.der_ber_types.proofs.BitLemmas.{AreBitsAfter}
use Rattle.der_ber_types.proofs.InsideLemmas.{inside-same, tag_of}
use Rattle.der_ber_types.proofs.Unique.{tlv-fronts, empty-some, bit-fronts, one-ahead, one-fronts, one-some}
use Rattle.der_ber_types.proofs.Unique.{each-unique, reordered-unique}

-- ---- one element

pub no_front : (nodes : List Node) (i tag : ℕ) (x : Inside) (bytes content after : List ℕ)
    → BeginsWith bytes tag content after → IsInside nodes i tag x → HasNoContent nodes x content
    → HasNoFront nodes i bytes
no_front nodes i tag x bytes content after begins here none = record {
  after = after;
  ahead = record { tag = tag; content = content; begins = begins; has_tag = tag_of nodes i tag x here };
  none = refused;
}
  where
    refused : (element der rest : List ℕ) → IsOne nodes i element der → bytes ≡ element ++ rest → ⊥
    refused element der rest (IsOne.element _ t y c k _ _ n it is p f) whole =
        let same = tlv-fronts bytes tag t content c after rest begins.is (whole ∙ ap (λ l. l ++ rest) p) in
        let inner : x ≡ y = inside-same nodes i tag x y here (subst (λ w. IsInside nodes i w y) (sym same.0) it) in
        none k (subst (λ w. IsContent nodes w content k) (sym inner)
        (subst (λ w. IsContent nodes y w k) (sym same.1) is))

pub no_one-front : (nodes : List Node) (i : ℕ) (bytes : List ℕ) → HasNoFront nodes i bytes → HasNoOne nodes i bytes
no_one-front nodes i bytes front der one = front.none bytes der [] one (sym (append-nil bytes))

pub no_one-tag : (nodes : List Node) (i : ℕ) (bytes : List ℕ) → IsNotAhead nodes i bytes → HasNoOne nodes i bytes
no_one-tag nodes i bytes none der one = none [] (one-ahead nodes i bytes bytes der [] one (sym (append-nil bytes)))

pub no_one-more : (nodes : List Node) (i : ℕ) (bytes after old new : List ℕ) → IsPushed nodes i bytes after old new
    → (after ≡ [] → ⊥) → HasNoOne nodes i bytes
no_one-more nodes i bytes after old new p more der one =
    more (one-fronts nodes i i bytes p.element bytes p.in_der der after [] p.is_one one p.is
    (sym (append-nil bytes))).1

-- ---- any number of elements

-- these are some
pub record SomeEach (nodes : List Node) (i : ℕ) (bytes : List ℕ) : Type 0 where
  pub der : List ℕ
  pub are : AreEach nodes i bytes der

pub some-next : (nodes : List Node) (i : ℕ) (rest after old new : List ℕ) → IsPushed nodes i rest after old new
    → SomeEach nodes i rest → SomeEach nodes i after
some-next nodes i rest after old new p some = next some.der some.are
  where
    next : (der : List ℕ) → AreEach nodes i rest der → SomeEach nodes i after
    next der (AreEach.no_more _ _ _ e f) = absurd (one-some nodes i rest p.element p.in_der after p.is_one e p.is)
    next der (AreEach.more _ x k r others _ _ one are e f) =
        let same = one-fronts nodes i i rest p.element x p.in_der k after r p.is_one one p.is e in
        record { der = others; are = subst (λ w. AreEach nodes i w others) (sym same.1) are }

pub no_each-front : (nodes : List Node) (i : ℕ) (rest : List ℕ) → (rest ≡ [] → ⊥) → HasNoFront nodes i rest
    → SomeEach nodes i rest → ⊥
no_each-front nodes i rest more front some = none some.der some.are
  where
    none : (der : List ℕ) → AreEach nodes i rest der → ⊥
    none der (AreEach.no_more _ _ _ e f) = more e
    none der (AreEach.more _ x k r others _ _ one are e f) = front.none x k r one e

pub no_each-tag : (nodes : List Node) (i : ℕ) (rest : List ℕ) → (rest ≡ [] → ⊥) → IsNotAhead nodes i rest
    → SomeEach nodes i rest → ⊥
no_each-tag nodes i rest more front some = none some.der some.are
  where
    none : (der : List ℕ) → AreEach nodes i rest der → ⊥
    none der (AreEach.no_more _ _ _ e f) = more e
    none der (AreEach.more _ x k r others _ _ one are e f) = front r (one-ahead nodes i rest x k r one e)

-- ---- members

pub record SomeMembers (nodes : List Node) (ms : List Member) (bytes : List ℕ) : Type 0 where
  pub der : List ℕ
  pub are : AreMembers nodes ms bytes der

pub member-then : (nodes : List Node) (m : Member) (ms : List Member) (rest after old new : List ℕ)
    → IsMemberPushed nodes m rest after old new → SomeMembers nodes (m ∷ ms) rest → SomeMembers nodes ms after
member-then nodes m ms rest after old new pushed some = next pushed some.der some.are
  where
    -- the element that was pushed is that of the member
    after_one : (element d der : List ℕ) → IsOne nodes m.node element d → rest ≡ element ++ after
        → AreMembers nodes (m ∷ ms) rest der → SomeMembers nodes ms after
    after_one element d der one whole (AreMembers.present _ _ x k r others _ _ other un are e f) =
        let same = one-fronts nodes m.node m.node rest element x d k after r one other whole e in
        record { der = others; are = subst (λ w. AreMembers nodes ms w others) (sym same.1) are }
    after_one element d der one whole (AreMembers.written _ _ x k r _ _ other given are e) =
        let same = one-fronts nodes m.node m.node rest element x d k after r one other whole e in
        record { der = der; are = subst (λ w. AreMembers nodes ms w der) (sym same.1) are }
    after_one element d der one whole (AreMembers.absent _ _ _ _ free none are) =
        absurd (none after (one-ahead nodes m.node rest element d after one whole))

    after_none : (der : List ℕ) → IsNotAhead nodes m.node rest → AreMembers nodes (m ∷ ms) rest der
        → SomeMembers nodes ms rest
    after_none der none (AreMembers.present _ _ x k r others _ _ other un are e f) =
        absurd (none r (one-ahead nodes m.node rest x k r other e))
    after_none der none (AreMembers.written _ _ x k r _ _ other given are e) =
        absurd (none r (one-ahead nodes m.node rest x k r other e))
    after_none der none (AreMembers.absent _ _ _ _ free un are) = record { der = der; are = are }

    next : IsMemberPushed nodes m rest after old new → (der : List ℕ) → AreMembers nodes (m ∷ ms) rest der
        → SomeMembers nodes ms after
    next (IsMemberPushed.present p un) der are = after_one p.element p.in_der der p.is_one p.is are
    next (IsMemberPushed.written element d one given e same) der are = after_one element d der one e are
    next (IsMemberPushed.absent free none same nothing) der are =
        subst (SomeMembers nodes ms) (sym same) (after_none der none are)

pub no_member-front : (nodes : List Node) (m : Member) (bytes : List ℕ) → HasNoFront nodes m.node bytes
    → HasNoMember nodes m bytes
no_member-front nodes m bytes front ms der (AreMembers.present _ _ x k r others _ _ one un are e f) =
    front.none x k r one e
no_member-front nodes m bytes front ms der (AreMembers.written _ _ x k r _ _ one given are e) = front.none x k r one e
no_member-front nodes m bytes front ms der (AreMembers.absent _ _ _ _ free none are) = none front.after front.ahead

pub no_member-tag : (nodes : List Node) (m : Member) (bytes : List ℕ) → IsNotAhead nodes m.node bytes
    → m.presence ≡ Required → HasNoMember nodes m bytes
no_member-tag nodes m bytes none required ms der (AreMembers.present _ _ x k r others _ _ one un are e f) =
    none r (one-ahead nodes m.node bytes x k r one e)
no_member-tag nodes m bytes none required ms der (AreMembers.written _ _ x k r _ _ one given are e) =
    none r (one-ahead nodes m.node bytes x k r one e)
no_member-tag nodes m bytes none required ms der (AreMembers.absent _ _ _ _ free un are) = free required

-- the one at this index
pub members-next : (nodes : List Node) (all : List Member) (k : ℕ) (d : Member) (rest after old new : List ℕ)
    → k < length all → IsMemberPushed nodes (get_or all k d) rest after old new → SomeMembers nodes (drop k all) rest
    → SomeMembers nodes (drop (k + 1) all) after
members-next nodes all k d rest after old new within pushed some =
    member-then nodes (get_or all k d) (drop (k + 1) all) rest after old new pushed
    (subst (λ ms. SomeMembers nodes ms rest) (drop_more all k d within) some)

pub no_members-more : (nodes : List Node) (rest : List ℕ) → (rest ≡ [] → ⊥) → SomeMembers nodes [] rest → ⊥
no_members-more nodes rest more some = none some.der some.are
  where
    none : (der : List ℕ) → AreMembers nodes [] rest der → ⊥
    none der (AreMembers.end _ _ e f) = more e

pub no_members-at : (nodes : List Node) (all : List Member) (k : ℕ) (d : Member) (rest : List ℕ) → k < length all
    → HasNoMember nodes (get_or all k d) rest → SomeMembers nodes (drop k all) rest → ⊥
no_members-at nodes all k d rest within none some =
    let here = subst (λ ms. SomeMembers nodes ms rest) (drop_more all k d within) some in
    none (drop (k + 1) all) here.der here.are

pub no_members-past : (nodes : List Node) (all : List Member) (k : ℕ) (rest : List ℕ) → length all ≤ k
    → (rest ≡ [] → ⊥) → SomeMembers nodes (drop k all) rest → ⊥
no_members-past nodes all k rest past more some =
    no_members-more nodes rest more (subst (λ ms. SomeMembers nodes ms rest) (drop_all k all past) some)

-- ---- contents

pub no_content-members : (nodes : List Node) (ms : Bor (List Member)) (bytes : List ℕ)
    → HasNoMembers nodes ms.now bytes → HasNoContent nodes (inside.Members ms) bytes
no_content-members nodes ms bytes none der (IsContent.members _ _ _ are) = none der are

pub no_content-order : (nodes : List Node) (ms : Bor (List Member)) (bytes ordered : List ℕ)
    → AreReordered nodes ms.now bytes ordered → HasNoMembers nodes ms.now ordered
    → HasNoContent nodes (inside.AnyOrder ms) bytes
no_content-order nodes ms bytes ordered order none der (IsContent.any_order _ _ other _ reordered are) =
    let same = reordered-unique nodes ms.now bytes ordered other order reordered in
    none der (subst (λ w. AreMembers nodes ms.now w der) (sym same) are)

pub no_content-each : (nodes : List Node) (i : ℕ) (bytes : List ℕ) → HasNoEach nodes i bytes
    → HasNoContent nodes (inside.Each i) bytes
no_content-each nodes i bytes none der (IsContent.each _ _ _ are) = none der are

pub no_content-set : (nodes : List Node) (i : ℕ) (bytes : List ℕ) → HasNoEach nodes i bytes
    → HasNoContent nodes (inside.Set i) bytes
no_content-set nodes i bytes none der (IsContent.set _ _ elements _ are order) = none elements are

pub no_content-sorted : (nodes : List Node) (i : ℕ) (bytes elements : List ℕ) → AreEach nodes i bytes elements
    → AreNotInOrder elements → HasNoContent nodes (inside.Set i) bytes
no_content-sorted nodes i bytes elements each none der (IsContent.set _ _ other _ are order) =
    let same = each-unique nodes i bytes elements other each are in
    none der (subst (λ w. AreInOrder w der) (sym same) order)

pub no_content-one : (nodes : List Node) (i : ℕ) (bytes : List ℕ) → HasNoOne nodes i bytes
    → HasNoContent nodes (inside.One i) bytes
no_content-one nodes i bytes none der (IsContent.explicit _ _ _ one) = none der one

pub no_content-truth : (nodes : List Node) (bytes : List ℕ) → IsNoTruth bytes → HasNoContent nodes inside.Boolean bytes
no_content-truth nodes bytes none der (IsContent.boolean _ _ is) = none der is

pub no_content-parts : (nodes : List Node) (bytes : List ℕ) → AreNoParts bytes → HasNoContent nodes inside.Parts bytes
no_content-parts nodes bytes none der (IsContent.parts _ _ are) = none der are

pub no_content-bits : (nodes : List Node) (bytes : List ℕ) → AreNoBits bytes → HasNoContent nodes inside.BitParts bytes
no_content-bits nodes bytes none der (IsContent.bit_parts _ _ are) = none der are

-- what a call refuses of a content has no DER
pub content-refused : {A : Type 0} (nodes : List Node) (x y : Inside) (bytes : List ℕ) (r : Result A TypeError)
    (P : Type 0) → x ≡ y → (P → HasNoContent nodes y bytes) → IfErr r (IsRefusal P)
    → IfErr r (IsRefusal (HasNoContent nodes x bytes))
content-refused nodes x y bytes (Ok v) P e f h = tt
content-refused nodes x y bytes (Err error) P e f h =
    λ some der is. f (h some) der (subst (λ l. IsContent nodes l bytes der) e is)

-- ---- strings in parts

-- these are parts
pub record SomeParts (bytes : List ℕ) : Type 0 where
  pub der : List ℕ
  pub are : AreParts bytes der

pub parts-next : (rest content after : List ℕ) → rest ≡ tlv 0x04 content ++ after → SomeParts rest → SomeParts after
parts-next rest content after begins some = next some.der some.are
  where
    next : (der : List ℕ) → AreParts rest der → SomeParts after
    next der (AreParts.none _ _ e f) = absurd (empty-some rest 0x04 content after e begins)
    next der (AreParts.more c r others _ _ are e f) =
        let same = tlv-fronts rest 0x04 0x04 content c after r begins e in
        record { der = others; are = subst (λ w. AreParts w others) (sym same.2) are }

-- the next element isn't a part
pub no_parts-front : (rest : List ℕ) → (rest ≡ [] → ⊥)
    → ((content after : List ℕ) → rest ≡ tlv 0x04 content ++ after → ⊥) → SomeParts rest → ⊥
no_parts-front rest more none some = refused some.der some.are
  where
    refused : (der : List ℕ) → AreParts rest der → ⊥
    refused der (AreParts.none _ _ e f) = more e
    refused der (AreParts.more c r others _ _ are e f) = none c r e

-- ---- elements

pub record SomeElements (bytes : List ℕ) : Type 0 where
  pub elements : List (List ℕ)
  pub are : AreElements elements bytes

pub elements-next : (rest : List ℕ) (tag : ℕ) (content after : List ℕ) → BeginsWith rest tag content after
    → SomeElements rest → SomeElements after
elements-next rest tag content after begins some = next some.elements some.are.each some.are.is
  where
    next : (es : List (List ℕ)) → AllByRecursion IsElement es → rest ≡ concat es → SomeElements after
    next [] all is = absurd (empty-some rest tag content after is begins.is)
    next (e ∷ es) all is =
        let same = tlv-fronts rest tag all.0.tag content all.0.content after (concat es) begins.is
        (is ∙ ap (λ l. l ++ concat es) all.0.is) in
        record { elements = es; are = record { each = all.1; is = same.2 } }

pub no_elements-front : (rest : List ℕ) → (rest ≡ [] → ⊥) → BeginsWithNone rest → SomeElements rest → ⊥
no_elements-front rest more none some = refused some.elements some.are.each some.are.is
  where
    refused : (es : List (List ℕ)) → AllByRecursion IsElement es → rest ≡ concat es → ⊥
    refused [] all is = more is
    refused (e ∷ es) all is = none all.0.tag all.0.content (concat es)
        (record { number = all.0.number; is = is ∙ ap (λ l. l ++ concat es) all.0.is })

-- ---- bit strings in parts

-- the element at the front isn't one
pub no_bit_part : (bytes content after : List ℕ) (tag : ℕ) → bytes ≡ tlv tag content ++ after
    → ((u : ℕ) (bits : List ℕ) → content ≡ u ∷ bits → tag ≡ 0x03 → u ≤ most_unused bits → ⊥) → IsNoBitPart bytes
no_bit_part bytes content after tag is none u bits rest p =
    let same = tlv-fronts bytes tag 0x03 content (u ∷ bits) after rest is p.is in
    none u bits same.1 same.0 p.most

pub record SomeBits (last : ℕ) (rest : List ℕ) : Type 0 where
  pub unused : ℕ
  pub bits : List ℕ
  pub after : AreBitsAfter last rest unused bits

pub bits-then : (last : ℕ) (rest : List ℕ) (u : ℕ) (first after : List ℕ) → last ≡ 0 → IsBitPart rest u first after
    → SomeBits last rest → SomeBits u after
bits-then last rest u first after is_zero part some = next some.unused some.bits some.after
  where
    of_zero : (w : ℕ) (bits : List ℕ) → AreBitParts rest w bits → SomeBits u after
    of_zero w bits (AreBitParts.none _ _ _ e f g) = absurd (empty-some rest 0x03 (u ∷ first) after e part.is)
    of_zero w bits (AreBitParts.last _ _ _ more p) =
        let same = bit-fronts rest u w first bits after [] part p in
        let more_too : 0 < u = omega (arith, more, same.0) in
        record { unused = u; bits = []; after = AreBitsAfter.end more_too same.2 refl refl }
    of_zero w bits (AreBitParts.more begun others more _ _ _ p are g) =
        let same = bit-fronts rest u 0 first begun after others part p in
        record {
          unused = w;
          bits = more;
          after = AreBitsAfter.zero same.0 (subst (λ l. AreBitParts l w more) (sym same.2) are);
        }

    next : (w : ℕ) (bits : List ℕ) → AreBitsAfter last rest w bits → SomeBits u after
    next w bits (AreBitsAfter.zero e are) = of_zero w bits are
    next w bits (AreBitsAfter.end more e f g) = absurd (omega (arith, more, is_zero))

pub no_bits-front : (last : ℕ) (rest : List ℕ) → (rest ≡ [] → ⊥)
    → ((u : ℕ) (bits after : List ℕ) → IsBitPart rest u bits after → ⊥) → SomeBits last rest → ⊥
no_bits-front last rest more none some = refused some.unused some.bits some.after
  where
    of_zero : (w : ℕ) (bits : List ℕ) → AreBitParts rest w bits → ⊥
    of_zero w bits (AreBitParts.none _ _ _ e f g) = more e
    of_zero w bits (AreBitParts.last _ _ _ least p) = none w bits [] p
    of_zero w bits (AreBitParts.more begun others last _ _ _ p are g) = none 0 begun others p

    refused : (w : ℕ) (bits : List ℕ) → AreBitsAfter last rest w bits → ⊥
    refused w bits (AreBitsAfter.zero e are) = of_zero w bits are
    refused w bits (AreBitsAfter.end least e f g) = more e

-- unused bits in the middle
pub no_bits-unused : (last : ℕ) (rest : List ℕ) → (rest ≡ [] → ⊥) → last ≢ 0 → SomeBits last rest → ⊥
no_bits-unused last rest more used some = refused some.unused some.bits some.after
  where
    refused : (w : ℕ) (bits : List ℕ) → AreBitsAfter last rest w bits → ⊥
    refused w bits (AreBitsAfter.zero e are) = used e
    refused w bits (AreBitsAfter.end least e f g) = more e
