-- Elements that are read from the front one by one, and written in DER.
use Rattle.std.proofs.Common.{◌≡◌, ℕ, ◌+◌, ◌-◌, ◌<◌, ◌≤◌, List, [], ◌∷◌, ◌++◌, length, sym, ap, refl, ◌∙◌}
use Rattle.std.proofs.Common.{append_assoc}
use Rattle.std.proofs.Common.{arith, length-append, append-nil, drop, take, get_or, subst}
use Rattle.std.proofs.Math.Seq.{take-append_seam, drop-append_seam}
use Rattle.std.proofs.lemmas.List.{drop_all, drop_more, take_all, length-drop}
use Rattle.std.specs.Prelude.{slice_range}
use Rattle.picky_der_core.specs.Element.{tlv, length_octets}
use Rattle.der_path.specs.Elements.{BeginsWith, BeginsWithNone}
use Rattle.der_path.proofs.Elements.{one_element}
use Rattle.der_schema.specs.declared.node.Member.{Member}
use Rattle.der_schema.specs.declared.node.Node.{Node}
use Rattle.std.proofs.lemmas.Bool.{false≢true}
use Rattle.std.proofs.Common.{Bool, true, false, ◌==◌, eqb-true, Result, Ok, Err, OnOk, ◌⊎◌, inl, inr}
use Rattle.der_ber_types.specs.declared.error.TypeError.{TypeError}
use Rattle.der_ber_types.specs.declared.inside.Inside.{Inside}
use Rattle.der_ber_types.specs.declared.inside.Inside.TheVariants as inside
use Rattle.der_ber_types.specs.Content.{IsContent, IsOne, AreEach, AreMembers}
use Rattle.der_ber_types.specs.Contents.{AreParts}
use Rattle.der_ber_types.specs.Inside.{IsInside, HasTag}
use Rattle.der_ber_types.specs.Reordered.{IsNotAhead}
use Rattle.der_ber_types.specs.Values.{IsDefault}
use Rattle.der_ber_types.specs.Kinds.{tag_in_der}
use Rattle.der_ber_types.specs.Order.{AreInOrder}
use Rattle.der_ber_types.specs.Pushed.{IsAppended, IsPushed, IsMemberPushed}

one-has_bytes : (nodes : List Node) (i : ℕ) (element in_der : List ℕ) → IsOne nodes i element in_der
    → 1 ≤ length element
unfolding tlv
one-has_bytes nodes i element in_der (IsOne.element _ tag x content d _ _ number inside is e f) = rw e (omega arith)

-- the bytes after an element are fewer
pub pushed-shorter : (nodes : List Node) (i : ℕ) (bytes after old new : List ℕ) → IsPushed nodes i bytes after old new
    → length after < length bytes
pushed-shorter nodes i bytes after old new p =
    omega (
      arith,
      one-has_bytes nodes i p.element p.in_der p.is_one,
      ap length p.is ∙ length-append p.element after,
    )

-- ---- what is appended

pub appended-then : (old mid new first second : List ℕ) → mid ≡ old ++ first → new ≡ mid ++ second
    → new ≡ old ++ (first ++ second)
appended-then old mid new first second e f = f ∙ ap (λ s. s ++ second) e ∙ append_assoc old first second

-- nothing yet
pub appended-none : (P : List ℕ → Type 0) (old : List ℕ) → P [] → IsAppended P old old
appended-none P old is = record { in_der = []; is = is; appended = sym (append-nil old) }

-- before it was nothing
pub appended-only : (P : List ℕ → Type 0) (old new : List ℕ) → old ≡ [] → IsAppended P old new → P new
appended-only P old new empty a =
    subst P (sym (a.appended ∙ ap (λ s. s ++ a.in_der) empty)) a.is

-- these bytes
pub appended-slice : (P : List ℕ → Type 0) (old new slice made : List ℕ) → P made → new ≡ old ++ slice → slice ≡ made
    → IsAppended P old new
appended-slice P old new slice made is e same =
    record { in_der = made; is = is; appended = e ∙ ap (λ s. old ++ s) same }

-- it is what is past the old ones
pub appended-is : (P : List ℕ → Type 0) (old new : List ℕ) (place : ℕ) → (a : IsAppended P old new)
    → place ≡ length old → drop place new ≡ a.in_der
appended-is P old new place a size = rw (size, a.appended) (drop-append_seam old a.in_der)

-- ---- any number of elements

-- with what is made of the rest, this is the DER of all
abbrev pub CompletesEach : List Node → ℕ → List ℕ → List ℕ → List ℕ → Type 0
CompletesEach nodes i bytes rest made =
    (others : List ℕ) → AreEach nodes i rest others → AreEach nodes i bytes (made ++ others)

pub each-none : (nodes : List Node) (i : ℕ) (bytes old : List ℕ)
    → IsAppended (CompletesEach nodes i bytes bytes) old old
each-none nodes i bytes old = appended-none (CompletesEach nodes i bytes bytes) old (λ others are. are)

-- one more of several elements
pub each-more : (nodes : List Node) (i : ℕ) (bytes rest after old mid new : List ℕ)
    → IsAppended (CompletesEach nodes i bytes rest) old mid → IsPushed nodes i rest after mid new
    → IsAppended (CompletesEach nodes i bytes after) old new
each-more nodes i bytes rest after old mid new made p =
    record {
      in_der = made.in_der ++ p.in_der;
      is = λ others are.
          let whole = p.in_der ++ others in
          rw (append_assoc made.in_der p.in_der others) (made.is whole
          (AreEach.more i p.element p.in_der after others rest whole p.is_one are p.is refl));
      appended = appended-then old mid new made.in_der p.in_der made.appended p.appended;
    }

-- ---- members

-- the bytes after a member aren't more
pub member-fewer : (nodes : List Node) (m : Member) (bytes after old new : List ℕ)
    → IsMemberPushed nodes m bytes after old new → length after ≤ length bytes
member-fewer nodes m bytes after old new (IsMemberPushed.present p other) =
    omega (arith, pushed-shorter nodes m.node bytes after old new p)
member-fewer nodes m bytes after old new (IsMemberPushed.written element in_der one given e same) =
    omega (arith, ap length e, length-append element after)
member-fewer nodes m bytes after old new (IsMemberPushed.absent free none same nothing) = omega (arith, ap length same)

-- with what is made of the rest by these members, this is the DER of all
abbrev pub CompletesMembers : List Node → List Member → List ℕ → List Member → List ℕ → List ℕ → Type 0
CompletesMembers nodes all bytes ms rest made =
    (others : List ℕ) → AreMembers nodes ms rest others → AreMembers nodes all bytes (made ++ others)

pub members-none : (nodes : List Node) (all : List Member) (bytes old : List ℕ)
    → IsAppended (CompletesMembers nodes all bytes all bytes) old old
members-none nodes all bytes old =
    appended-none (CompletesMembers nodes all bytes all bytes) old (λ others are. are)

-- one more of the members
member-more : (nodes : List Node) (all ms : List Member) (m : Member) (bytes rest after old mid new : List ℕ)
    → IsAppended (CompletesMembers nodes all bytes (m ∷ ms) rest) old mid → IsMemberPushed nodes m rest after mid new
    → IsAppended (CompletesMembers nodes all bytes ms after) old new
member-more nodes all ms m bytes rest after old mid new made (IsMemberPushed.present p other) =
    record {
      in_der = made.in_der ++ p.in_der;
      is = λ others are.
          let whole = p.in_der ++ others in
          rw (append_assoc made.in_der p.in_der others) (made.is whole
          (AreMembers.present m ms p.element p.in_der after others rest whole p.is_one other are p.is refl));
      appended = appended-then old mid new made.in_der p.in_der made.appended p.appended;
    }
member-more nodes all ms m bytes rest after old mid new made (IsMemberPushed.written element in_der one given e same) =
    record {
      in_der = made.in_der;
      is = λ others are. made.is others (AreMembers.written m ms element in_der after rest others one given are e);
      appended = same ∙ made.appended;
    }
member-more nodes all ms m bytes rest after old mid new made (IsMemberPushed.absent free none same nothing) =
    record {
      in_der = made.in_der;
      is = λ others are. made.is others (AreMembers.absent m ms rest others free none
          (subst (λ l. AreMembers nodes ms l others) same are));
      appended = nothing ∙ made.appended;
    }

-- the one at this index
pub member-next : (nodes : List Node) (all : List Member) (k : ℕ) (d : Member) (bytes rest after old mid new : List ℕ)
    → k < length all → IsAppended (CompletesMembers nodes all bytes (drop k all) rest) old mid
    → IsMemberPushed nodes (get_or all k d) rest after mid new
    → IsAppended (CompletesMembers nodes all bytes (drop (k + 1) all) after) old new
member-next nodes all k d bytes rest after old mid new inside made pushed =
    let m = get_or all k d in
    let first : drop k all ≡ m ∷ drop (k + 1) all = drop_more all k d inside in
    member-more nodes all (drop (k + 1) all) m bytes rest after old mid new
    (subst (λ ms. IsAppended (CompletesMembers nodes all bytes ms rest) old mid) first made) pushed

pub nothing_left : (rest : List ℕ) (b : Bool) → b ≡ (length rest == 0) → b ≡ true → rest ≡ []
nothing_left [] b e h = refl
nothing_left (x ∷ rest) b e h = absurd (omega (arith, eqb-true (length (x ∷ rest)) 0 (sym e ∙ h)))

pub something_left : (rest : List ℕ) (b : Bool) → b ≡ (length rest == 0) → b ≡ false → rest ≡ [] → ⊥
something_left [] b e h same = absurd (false≢true (sym h ∙ e))
something_left (x ∷ rest) b e h same = cc

-- all of them
pub members-end : (nodes : List Node) (all : List Member) (k : ℕ) (bytes rest old new : List ℕ) → length all ≤ k
    → rest ≡ [] → IsAppended (CompletesMembers nodes all bytes (drop k all) rest) old new
    → IsAppended (AreMembers nodes all bytes) old new
members-end nodes all k bytes rest old new past none made =
    let empty : AreMembers nodes (drop k all) rest [] =
    rw (drop_all k all past) (AreMembers.end rest [] none refl) in
    record {
      in_der = made.in_der;
      is = subst (AreMembers nodes all bytes) (append-nil made.in_der) (made.is [] empty);
      appended = made.appended;
    }

pub each-end : (nodes : List Node) (i : ℕ) (bytes rest old new : List ℕ) → rest ≡ []
    → IsAppended (CompletesEach nodes i bytes rest) old new → IsAppended (AreEach nodes i bytes) old new
each-end nodes i bytes rest old new none made = record {
  in_der = made.in_der;
  is = subst (AreEach nodes i bytes) (append-nil made.in_der) (made.is [] (AreEach.no_more i rest [] none refl));
  appended = made.appended;
}

-- ---- the parts of a string

-- with the contents of the rest, this is that of all
abbrev pub CompletesParts : List ℕ → List ℕ → List ℕ → Type 0
CompletesParts bytes rest made = (others : List ℕ) → AreParts rest others → AreParts bytes (made ++ others)

pub parts-none : (bytes old : List ℕ) → IsAppended (CompletesParts bytes bytes) old old
parts-none bytes old = appended-none (CompletesParts bytes bytes) old (λ others are. are)

-- one more part of a string
pub part-more : (bytes rest content after old mid new : List ℕ) → IsAppended (CompletesParts bytes rest) old mid
    → rest ≡ tlv 0x04 content ++ after → new ≡ mid ++ content → IsAppended (CompletesParts bytes after) old new
part-more bytes rest content after old mid new made is appended =
    record {
      in_der = made.in_der ++ content;
      is = λ others are.
          let whole = content ++ others in
          rw (append_assoc made.in_der content others) (made.is whole
          (AreParts.more content after others rest whole are is refl));
      appended = appended-then old mid new made.in_der content made.appended appended;
    }

pub parts-end : (bytes rest old new : List ℕ) → rest ≡ [] → IsAppended (CompletesParts bytes rest) old new
    → IsAppended (AreParts bytes) old new
parts-end bytes rest old new none made = record {
  in_der = made.in_der;
  is = subst (AreParts bytes) (append-nil made.in_der) (made.is [] (AreParts.none rest [] none refl));
  appended = made.appended;
}

-- ---- contents

-- a content that stays
content-same : (nodes : List Node) (x : Inside) (bytes : List ℕ)
    → (x ≡ inside.Same) ⊎ ((x ≡ inside.Number) ⊎ ((x ≡ inside.Octets) ⊎ (x ≡ inside.Bits)))
    → IsContent nodes x bytes bytes
content-same nodes x bytes (inl e) = rw e (IsContent.same bytes bytes refl)
content-same nodes x bytes (inr (inl e)) = rw e (IsContent.number bytes bytes refl)
content-same nodes x bytes (inr (inr (inl e))) = rw e (IsContent.octets bytes bytes refl)
content-same nodes x bytes (inr (inr (inr e))) = rw e (IsContent.bits bytes bytes refl)

pub content-copied : (nodes : List Node) (x : Inside) (bytes old new : List ℕ)
    → (x ≡ inside.Same) ⊎ ((x ≡ inside.Number) ⊎ ((x ≡ inside.Octets) ⊎ (x ≡ inside.Bits))) → new ≡ old ++ bytes
    → IsAppended (IsContent nodes x bytes) old new
content-copied nodes x bytes old new kind e =
    record { in_der = bytes; is = content-same nodes x bytes kind; appended = e }

-- one that was appended
pub content-appended : (nodes : List Node) (x y : Inside) (bytes old new : List ℕ) (P : List ℕ → Type 0) → x ≡ y
    → ((der : List ℕ) → P der → IsContent nodes y bytes der) → IsAppended P old new
    → IsAppended (IsContent nodes x bytes) old new
content-appended nodes x y bytes old new P e f a =
    record { in_der = a.in_der; is = rw e (f a.in_der a.is); appended = a.appended }

-- one that a call appends
pub content-of : {A : Type 0} (nodes : List Node) (x y : Inside) (bytes old new : List ℕ) (r : Result A TypeError)
    (P : List ℕ → Type 0) → x ≡ y → ((der : List ℕ) → P der → IsContent nodes y bytes der)
    → OnOk r (IsAppended P old new) → OnOk r (IsAppended (IsContent nodes x bytes) old new)
content-of nodes x y bytes old new (Ok v) P e f a = content-appended nodes x y bytes old new P e f a
content-of nodes x y bytes old new (Err error) P e f a = tt

-- the elements of a set, which were appended and then put in order
pub content-sorted : {A : Type 0} (nodes : List Node) (x : Inside) (i : ℕ) (bytes old mid new : List ℕ) (place : ℕ)
    (r : Result A TypeError) → x ≡ inside.Set i → place ≡ length old → IsAppended (AreEach nodes i bytes) old mid
    → OnOk r (IsAppended (AreInOrder (drop place mid)) (take place mid) new)
    → OnOk r (IsAppended (IsContent nodes x bytes) old new)
content-sorted nodes x i bytes old mid new place (Ok v) e size made a =
    let elements = appended-is (AreEach nodes i bytes) old mid place made size in
    let front : take place mid ≡ old = rw (size, made.appended) (take-append_seam old made.in_der) in
    let ordered : AreInOrder made.in_der a.in_der = subst (λ s. AreInOrder s a.in_der) elements a.is in
    record {
      in_der = a.in_der;
      is = rw e (IsContent.set i bytes made.in_der a.in_der made.is ordered);
      appended = a.appended ∙ ap (λ s. s ++ a.in_der) front;
    }
content-sorted nodes x i bytes old mid new place (Err error) e size made a = tt

-- ---- an element

-- its tag and the length of the content as it was, then the content, and the length as it is
pub pushed : (nodes : List Node) (i tag : ℕ) (x : Inside) (content bytes after old first mid new : List ℕ) (t n : ℕ)
    → BeginsWith bytes tag content after → IsInside nodes i tag x → t ≡ tag_in_der x tag
    → first ≡ old ++ (t ∷ length_octets n) → IsAppended (IsContent nodes x content) first mid
    → ((front c : List ℕ) (u : ℕ) → length front ≡ length old → mid ≡ front ++ (u ∷ (length_octets n ++ c))
    → new ≡ front ++ tlv u c)
    → IsPushed nodes i bytes after old new
pushed nodes i tag x content bytes after old first mid new t n begins here own header made ends =
    let in_der = made.in_der in
    let whole : mid ≡ old ++ (t ∷ (length_octets n ++ in_der)) =
    appended-then old first mid (t ∷ length_octets n) in_der header made.appended in
    record {
      element = tlv tag content;
      in_der = tlv t in_der;
      is_one = IsOne.element i tag x content in_der _ _ begins.number here made.is refl (ap (λ u. tlv u in_der) own);
      is = begins.is;
      appended = ends old in_der t refl whole;
    }

-- the only one
pub pushed-only : (nodes : List Node) (i : ℕ) (bytes after old new : List ℕ) → IsPushed nodes i bytes after old new
    → after ≡ [] → IsAppended (IsOne nodes i bytes) old new
pushed-only nodes i bytes after old new p none =
    let same : bytes ≡ p.element = p.is ∙ ap (λ s. p.element ++ s) none ∙ append-nil p.element in
    record {
      in_der = p.in_der;
      is = subst (λ s. IsOne nodes i s p.in_der) (sym same) p.is_one;
      appended = p.appended;
    }

-- no element with a tag of the type is at the front
pub not_ahead-none : (nodes : List Node) (i : ℕ) (bytes : List ℕ) → BeginsWithNone bytes → IsNotAhead nodes i bytes
not_ahead-none nodes i bytes none after a = none a.tag a.content after a.begins

pub not_ahead-tag : (nodes : List Node) (i tag : ℕ) (bytes content after : List ℕ)
    → BeginsWith bytes tag content after → (HasTag nodes i tag → ⊥) → IsNotAhead nodes i bytes
not_ahead-tag nodes i tag bytes content after begins none end a =
    let same = one_element bytes tag a.tag content a.content after end begins a.begins in
    none (subst (HasTag nodes i) (sym same.0) a.has_tag)

-- ---- a member

-- it is kept
pub member-kept : (nodes : List Node) (m : Member) (bytes after old new slice : List ℕ) (place : ℕ)
    → (p : IsPushed nodes m.node bytes after old new) → place ≡ length old → slice ≡ drop place new
    → (IsDefault nodes m slice → ⊥) → IsMemberPushed nodes m bytes after old new
member-kept nodes m bytes after old new slice place p size is other =
    let own : slice ≡ p.in_der = is ∙ rw (size, p.appended) (drop-append_seam old p.in_der) in
    IsMemberPushed.present p (λ given. other (subst (IsDefault nodes m) (sym own) given))

-- it has its default value, and is cut off
pub member-cut : (nodes : List Node) (m : Member) (bytes after old new slice last : List ℕ) (place : ℕ)
    → (p : IsPushed nodes m.node bytes after old new) → place ≡ length old → slice ≡ drop place new
    → IsDefault nodes m slice → last ≡ take place new → IsMemberPushed nodes m bytes after old last
member-cut nodes m bytes after old new slice last place p size is given cut =
    let own : slice ≡ p.in_der = is ∙ rw (size, p.appended) (drop-append_seam old p.in_der) in
    IsMemberPushed.written p.element p.in_der p.is_one (subst (IsDefault nodes m) own given) p.is
    (cut ∙ rw (size, p.appended) (take-append_seam old p.in_der))

-- the bytes from a place on
pub range-end : (xs ys : List ℕ) (place : ℕ) → xs ≡ ys → slice_range xs place (length xs) ≡ drop place ys
range-end xs ys place e =
    take_all (length xs - place) (drop place xs) (omega (arith, length-drop place xs)) ∙ ap (drop place) e

pub member-same : (nodes : List Node) (m : Member) (bytes after old new last : List ℕ) → last ≡ new
    → IsMemberPushed nodes m bytes after old new → IsMemberPushed nodes m bytes after old last
member-same nodes m bytes after old new last e p = subst (IsMemberPushed nodes m bytes after old) (sym e) p
