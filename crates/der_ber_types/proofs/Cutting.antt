-- Elements that are cut from the front one by one.
use Rattle.std.proofs.Common.{◌≡◌, ℕ, List, [], ◌∷◌, ◌++◌, map, sym, ap, subst, ◌∙◌, append_assoc, append-nil}
use Rattle.std.proofs.Common.{◌+◌, ◌-◌, ◌<◌, length, take, drop, arith, length-append}
use Rattle.std.proofs.Math.Seq.{take-append_seam, drop-append_seam}
use Rattle.std.specs.Borrow.{Bor}
use Rattle.std.specs.List.{AllByRecursion, concat}
use Rattle.std.proofs.lemmas.List.{map-append, take-append-drop}
use Rattle.picky_der_core.specs.Order.{is_less}
use Rattle.picky_der_core.specs.OrderLaws.{in_ascending_order-same, IsSortedBy-one}
use Rattle.picky_der_core.specs.Element.{IsElement, tlv, length_octets}
use Rattle.der_path.specs.Elements.{BeginsWith}
use Rattle.der_ber_types.specs.Order.{AreInOrder}
use Rattle.der_ber_types.specs.Pushed.{IsAppended}

all_and_one : (es : List (List ℕ)) (e : List ℕ) → AllByRecursion IsElement es → IsElement e
    → AllByRecursion IsElement (es ++ (e ∷ []))
all_and_one [] e all is = (is, tt)
all_and_one (d ∷ ds) e all is = (all.0, all_and_one ds e all.1 is)

concat_and_one : (es : List (List ℕ)) (e rest : List ℕ) → concat (es ++ (e ∷ [])) ++ rest ≡ concat es ++ (e ++ rest)
concat_and_one [] e rest = append_assoc e [] rest
concat_and_one (d ∷ ds) e rest = append_assoc d (concat (ds ++ (e ∷ []))) rest
    ∙ ap (λ b. d ++ b) (concat_and_one ds e rest) ∙ sym (append_assoc d (concat ds) (e ++ rest))

-- one more is cut off
pub one_more : (xs ys : List (Bor (List ℕ))) (x : Bor (List ℕ)) (bytes rest after : List ℕ) → ys ≡ xs ++ (x ∷ [])
    → AllByRecursion IsElement (map (λ e. e.now) xs) → bytes ≡ concat (map (λ e. e.now) xs) ++ rest
    → IsElement x.now → rest ≡ x.now ++ after
    → AllByRecursion IsElement (map (λ e. e.now) ys) × (bytes ≡ concat (map (λ e. e.now) ys) ++ after)
one_more xs ys x bytes rest after same elements is element e =
    let es : List (List ℕ) = map (λ e. e.now) xs in
    let all : map (λ e. e.now) ys ≡ es ++ (x.now ∷ []) =
    ap (map (λ e. e.now)) same ∙ map-append (λ e. e.now) xs (x ∷ []) in (
      subst (AllByRecursion IsElement) (sym all) (all_and_one es x.now elements element),
      is ∙ ap (λ b. concat es ++ b) e ∙ sym (concat_and_one es x.now after) ∙ ap (λ a. concat a ++ after) (sym all),
    )

-- the first element is what is before the bytes after it
pub cut_off : (rest after : List ℕ) (tag : ℕ) (content : List ℕ) (size : ℕ) → BeginsWith rest tag content after
    → size ≡ length rest - length after
    → (take size rest ≡ tlv tag content) × (drop size rest ≡ after)
cut_off rest after tag content size begins is =
    let element = tlv tag content in
    let all : length rest ≡ length element + length after = ap length begins.is ∙ length-append element after in
    let same : size ≡ length element = omega (arith, all, is) in
    rw (same, begins.is) (take-append_seam element after, drop-append_seam element after)

pub smaller_after : (rest after : List ℕ) (tag : ℕ) (content : List ℕ) → BeginsWith rest tag content after
    → length after < length rest
unfolding tlv
smaller_after rest after tag content begins =
    omega (arith, ap length begins.is ∙ length-append (tlv tag content) after)

pub smaller_content : (bytes after : List ℕ) (tag : ℕ) (content : List ℕ) → BeginsWith bytes tag content after
    → length content < length bytes
unfolding tlv
smaller_content bytes after tag content begins =
    omega (
      arith,
      ap length begins.is,
      length-append (tlv tag content) after,
      length-append (length_octets (length content)) content,
    )

-- ---- elements in ascending order

-- the bytes are one element
pub is_one : (bytes : List ℕ) (tag : ℕ) (content after : List ℕ) → BeginsWith bytes tag content after → after ≡ []
    → IsElement bytes
is_one bytes tag content after begins none = record {
  tag = tag;
  content = content;
  number = begins.number;
  is = begins.is ∙ ap (λ s. tlv tag content ++ s) none ∙ append-nil (tlv tag content);
}

one_in_order : (bytes : List ℕ) → IsElement bytes → AreInOrder bytes bytes
one_in_order bytes element = record {
  elements = bytes ∷ [];
  are_elements = record { each = (element, tt); is = sym (append-nil bytes) };
  is = sym (ap concat (in_ascending_order-same (bytes ∷ []) (IsSortedBy-one is_less bytes)) ∙ append-nil bytes);
}

-- the one from a place on stays
pub one_from : (bytes elements : List ℕ) (place : ℕ) → elements ≡ drop place bytes → IsElement elements
    → IsAppended (AreInOrder (drop place bytes)) (take place bytes) bytes
one_from bytes elements place is element = record {
  in_der = drop place bytes;
  is = one_in_order (drop place bytes) (subst IsElement is element);
  appended = sym (take-append-drop place bytes);
}

-- those from a place on were put in order
pub ordered_from : (bytes elements cut ordered new : List ℕ) (place : ℕ) → elements ≡ drop place bytes
    → AreInOrder elements ordered → cut ≡ take place bytes → new ≡ cut ++ ordered
    → IsAppended (AreInOrder (drop place bytes)) (take place bytes) new
ordered_from bytes elements cut ordered new place is order front appended = record {
  in_der = ordered;
  is = subst (λ s. AreInOrder s ordered) is order;
  appended = appended ∙ ap (λ s. s ++ ordered) front;
}
