-- The elements of a SET in the order of its members.
use Rattle.std.proofs.Common.{◌≡◌, ℕ, ◌+◌, ◌-◌, ◌<◌, ◌≤◌, List, [], ◌∷◌, ◌++◌, length, sym, ap, ap₂, refl, ◌∙◌}
use Rattle.std.proofs.Common.{append_assoc}
use Rattle.std.proofs.Common.{arith, length-append, append-nil, drop, take, get_or, subst}
use Rattle.std.proofs.Math.Seq.{take-append_seam, drop-append_seam}
use Rattle.std.proofs.lemmas.List.{drop_all, drop_more}
use Rattle.picky_der_core.specs.Element.{tlv}
use Rattle.picky_der_core.specs.Tag.{number_of, IsTagNumber}
use Rattle.der_path.specs.Elements.{BeginsWith, BeginsWithNone}
use Rattle.der_schema.specs.declared.node.Member.{Member}
use Rattle.der_schema.specs.declared.node.Node.{Node}
use Rattle.der_ber_types.specs.Inside.{HasTag}
use Rattle.der_ber_types.specs.Pushed.{IsMoved}
use Rattle.der_ber_types.specs.Reordered.{AreOthers, AreReordered, HasNone, IsFirst}
use Rattle.der_ber_types.proofs.Cutting.{cut_off}

-- elements without a tag of the type were passed, and these bytes are after them
pub record ArePassed (nodes : List Node) (i : ℕ) (bytes rest : List ℕ) : Type 0 where
  pub before : List ℕ
  pub others : AreOthers nodes i before
  pub is : bytes ≡ before ++ rest

pub passed-none : (nodes : List Node) (i : ℕ) (bytes : List ℕ) → ArePassed nodes i bytes bytes
passed-none nodes i bytes = record { before = []; others = AreOthers.none [] refl; is = refl }

others-more : (nodes : List Node) (i : ℕ) (before : List ℕ) (tag : ℕ) (content : List ℕ) → AreOthers nodes i before
    → IsTagNumber (number_of tag) → (HasTag nodes i tag → ⊥) → AreOthers nodes i (before ++ tlv tag content)
others-more nodes i before tag content (AreOthers.none _ e) number none =
    rw e (AreOthers.more tag content [] (tlv tag content) number none (AreOthers.none [] refl)
    (sym (append-nil (tlv tag content))))
others-more nodes i before tag content (AreOthers.more t c rest _ n free others e) number none =
    AreOthers.more t c (rest ++ tlv tag content) (before ++ tlv tag content) n free
    (others-more nodes i rest tag content others number none)
    (ap (λ b. b ++ tlv tag content) e ∙ append_assoc (tlv t c) rest (tlv tag content))

pub passed-more : (nodes : List Node) (i : ℕ) (bytes rest : List ℕ) (tag : ℕ) (content after : List ℕ)
    → ArePassed nodes i bytes rest → BeginsWith rest tag content after → (HasTag nodes i tag → ⊥)
    → ArePassed nodes i bytes after
passed-more nodes i bytes rest tag content after p begins none = record {
  before = p.before ++ tlv tag content;
  others = others-more nodes i p.before tag content p.others begins.number none;
  is = p.is ∙ ap (λ b. p.before ++ b) begins.is ∙ sym (append_assoc p.before (tlv tag content) after);
}

pub none-left : (nodes : List Node) (i : ℕ) (bytes rest : List ℕ) → ArePassed nodes i bytes rest
    → BeginsWithNone rest → HasNone nodes i bytes
none-left nodes i bytes rest p none =
    record { before = p.before; after = rest; others = p.others; is = p.is; ends = none }

-- what is cut off at the two ends of an element
pub first-found : (nodes : List Node) (i : ℕ) (bytes rest : List ℕ) (tag : ℕ) (content after : List ℕ)
    (front back element end : List ℕ) (m n : ℕ) → ArePassed nodes i bytes rest → BeginsWith rest tag content after
    → HasTag nodes i tag → m ≡ length bytes - length rest → front ≡ take m bytes → back ≡ drop m bytes
    → n ≡ length rest - length after → element ≡ take n back → end ≡ drop n back
    → IsFirst nodes i bytes front element end
first-found nodes i bytes rest tag content after front back element end m n p begins has size fronts backs count
    elements ends =
    let all : length bytes ≡ length p.before + length rest = ap length p.is ∙ length-append p.before rest in
    let here : m ≡ length p.before = omega (arith, all, size) in
    let first : front ≡ p.before = fronts ∙ rw (here, p.is) (take-append_seam p.before rest) in
    let second : back ≡ rest = backs ∙ rw (here, p.is) (drop-append_seam p.before rest) in
    let cut = cut_off rest after tag content n begins count in
    let own : element ≡ tlv tag content = elements ∙ ap (take n) second ∙ cut.0 in
    let last : end ≡ after = ends ∙ ap (drop n) second ∙ cut.1 in
    let whole : element ++ end ≡ tlv tag content ++ after = ap₂ (λ e a. e ++ a) own last in
    record {
      others = subst (AreOthers nodes i) (sym first) p.others;
      tagged = record { tag = tag; content = content; number = begins.number; has_tag = has; is = own };
      is = p.is ∙ ap (λ b. b ++ rest) (sym first) ∙ ap (λ b. front ++ b) (begins.is ∙ sym whole);
    }

-- ---- the members one by one

-- one more of the members
moved-more : (nodes : List Node) (all ms : List Member) (m : Member) (bytes rest without old new : List ℕ)
    → ((others : List ℕ) → AreReordered nodes (m ∷ ms) rest others → AreReordered nodes all bytes (old ++ others))
    → IsMoved nodes m rest without old new
    → (others : List ℕ) → AreReordered nodes ms without others → AreReordered nodes all bytes (new ++ others)
moved-more nodes all ms m bytes rest without old new so_far (IsMoved.present before element after first is appended)
    others are =
    let whole = element ++ others in
    let same : new ++ others ≡ old ++ whole =
    ap (λ s. s ++ others) appended ∙ append_assoc old element others in
    rw same (so_far whole (AreReordered.present m ms before element after others rest whole first
    (subst (λ l. AreReordered nodes ms l others) is are) refl))
moved-more nodes all ms m bytes rest without old new so_far (IsMoved.absent none same nothing) others are =
    rw nothing (so_far others (AreReordered.absent m ms rest others none
    (subst (λ l. AreReordered nodes ms l others) same are)))

-- the one at this index
pub moved-next : (nodes : List Node) (all : List Member) (k : ℕ) (d : Member) (bytes rest without old new : List ℕ)
    → k < length all
    → ((others : List ℕ) → AreReordered nodes (drop k all) rest others → AreReordered nodes all bytes (old ++ others))
    → IsMoved nodes (get_or all k d) rest without old new → (others : List ℕ)
    → AreReordered nodes (drop (k + 1) all) without others → AreReordered nodes all bytes (new ++ others)
moved-next nodes all k d bytes rest without old new inside so_far moved =
    let m = get_or all k d in
    let first : drop k all ≡ m ∷ drop (k + 1) all = drop_more all k d inside in
    moved-more nodes all (drop (k + 1) all) m bytes rest without old new
    (λ others are. so_far others (subst (λ ms. AreReordered nodes ms rest others) (sym first) are)) moved

-- all of them
pub moved-end : (nodes : List Node) (all : List Member) (k : ℕ) (bytes rest slice old new : List ℕ) → length all ≤ k
    → ((others : List ℕ) → AreReordered nodes (drop k all) rest others → AreReordered nodes all bytes (old ++ others))
    → new ≡ old ++ slice → slice ≡ rest → AreReordered nodes all bytes new
moved-end nodes all k bytes rest slice old new past so_far appended same =
    let left : AreReordered nodes (drop k all) rest slice =
    rw (drop_all k all past) (AreReordered.end rest slice same) in
    subst (AreReordered nodes all bytes) (sym appended) (so_far slice left)

-- ---- they are as many bytes

first-length : (nodes : List Node) (i : ℕ) (bytes before element after : List ℕ)
    → IsFirst nodes i bytes before element after
    → length bytes ≡ length element + length (before ++ after)
first-length nodes i bytes before element after f =
    omega (
      arith,
      ap length f.is,
      length-append before (element ++ after),
      length-append element after,
      length-append before after,
    )

pub reordered-length : (nodes : List Node) (ms : List Member) (bytes ordered : List ℕ)
    → AreReordered nodes ms bytes ordered → length ordered ≡ length bytes
reordered-length nodes ms bytes ordered (AreReordered.end _ _ e) = ap length e
reordered-length nodes ms bytes ordered (AreReordered.present m rest before element after others _ _ first are e) =
    omega (
      arith,
      first-length nodes m.node bytes before element after first,
      reordered-length nodes rest (before ++ after) others are,
      ap length e,
      length-append element others,
    )
reordered-length nodes ms bytes ordered (AreReordered.absent m rest _ _ none are) =
    reordered-length nodes rest bytes ordered are
