-- Why the laws hold.
use Rattle.std.proofs.Common.{sym, [], ◌∙◌, append-nil, ap, refl, ◌≡◌, List, ◌∷◌, map, ℕ}
use Rattle.picky_der_core.specs.ElementLaws.{length_octets_prefix}
use Rattle.picky_der_core.specs.Laws.{LengthBothWays, WrapperLengths, FirstsTell, UniqueReadability, OneValue}
use Rattle.picky_der_core.specs.Laws.{RoundTrip, SameBytes, OneInside, SetOrder}
use Rattle.picky_der_core.specs.EncodingLaws.{der-wrapped, der-list, der-wrapped_present, implicit_content-plain}
use Rattle.picky_der_core.specs.EncodingLaws.{encodings-trees}
use Rattle.picky_der_core.specs.WrapperLaws.{wrapper_tag_number}
use Rattle.picky_der_core.specs.FirstLaws.{begins_in}
use Rattle.picky_der_core.specs.Encoding.{der, list_tag, list_content}
use Rattle.picky_der_core.proofs.Unique.{same_tree, not_empty}
use Rattle.std.specs.List.{AllByRecursion, concat}
use Rattle.picky_der_core.specs.Tree.{Tree, ListKind, trees}
use Rattle.picky_der_core.specs.Readable.{IsReadable}
use Rattle.picky_der_core.specs.Shape.{Shape, IsOf, IsSound}
use Rattle.picky_der_core.specs.Reading.{Place}
use Rattle.picky_der_core.proofs.UniqueAt.{same_tree_at}
use Rattle.std.proofs.lemmas.List.Sorted.{IsPermutation-map}
use Rattle.picky_der_core.specs.Element.{tlv}
use Rattle.picky_der_core.specs.OrderLaws.{in_ascending_order-permuted}
use Rattle.std.specs.List.Sorted.{IsPermutation}
use Rattle.picky_der_core.specs.declared.asn1.wrapper.Wrapper.TheVariants.{ImplicitList}

pub length_both_ways : LengthBothWays
length_both_ways n k rest b = sym (length_octets_prefix k n rest b.rest b.is).0

pub wrapper_lengths : WrapperLengths
wrapper_lengths = λ w t n e. (wrapper_tag_number w n, der-wrapped w t e)

pub firsts_tell : FirstsTell
firsts_tell s t p r = let b = begins_in s t p r in (b.first, b.others, b.is, b.listed)

pub unique_readability : UniqueReadability
unique_readability s sound t u p q r v b =
    (same_tree s sound t u p q r v b.rest [] (sym b.is ∙ sym (append-nil (der u)))).0

pub one_value : OneValue
one_value s sound input limit t u r v =
    let same = same_tree s sound t u r.of_shape v.of_shape r.readable v.readable r.front.rest v.front.rest
    (sym r.front.is ∙ v.front.is) in
    (same.0, ap der same.0)

pub round_trip : RoundTrip
round_trip s sound t rest limit p r small = (
  record { of_shape = p; readable = r; may_be_there = tt; within = small; front = record { rest = rest; is = refl } },
  λ u v. same_tree s sound u t v.of_shape p v.readable r v.front.rest rest (sym v.front.is),
)

same_lists : (s : Shape) → IsSound s → (ts us : List Tree) → AllByRecursion (λ t. IsOf s t × IsReadable t) ts
    → AllByRecursion (λ t. IsOf s t × IsReadable t) us → concat (map der ts) ≡ concat (map der us) → ts ≡ us
same_lists s sound [] [] p q e = refl
same_lists s sound [] (u ∷ us) p q e = absurd (not_empty u (concat (map der us)) q.0.1 (sym e))
same_lists s sound (t ∷ ts) [] p q e = absurd (not_empty t (concat (map der ts)) p.0.1 e)
same_lists s sound (t ∷ ts) (u ∷ us) p q e =
    let same = same_tree s sound t u p.0.0 q.0.0 p.0.1 q.0.1 (concat (map der ts)) (concat (map der us)) e in
    let first : t ≡ u = same.0 in
    let others : ts ≡ us = same_lists s sound ts us p.1 q.1 same.1 in
    cc

pub same_bytes : SameBytes
same_bytes s sound ts us p q = (same_lists s sound ts us p q, λ e. ap (λ l. concat (map der l)) e)

pub one_inside : OneInside
one_inside s sound rest ahead t u r v =
    same_tree_at (Place.under_implicit ahead) s sound t u r.of_shape v.of_shape r.readable v.readable r.may_be_there
    v.may_be_there r.front.rest v.front.rest (sym r.front.is ∙ v.front.is)

pub set_order : SetOrder
set_order ts us moved =
    let same = in_ascending_order-permuted (map der ts) (map der us) (IsPermutation-map der ts us moved) in
    der-list ListKind.set ts ∙ ap (λ l. tlv (list_tag ListKind.set) (concat l)) same ∙ sym (der-list ListKind.set us)

-- ---- a list under another tag: its encoding, with that tag in place of its own

pub implicit_list : (tag : ℕ) (kind : ListKind) (ts : List Tree)
    → der (Tree.wrapped (ImplicitList tag) (Tree.list kind (trees ts))) ≡ tlv tag (list_content kind (map der ts))
implicit_list tag kind ts =
    der-wrapped_present (ImplicitList tag) (Tree.list kind (trees ts)) refl
    ∙ ap (tlv tag) (implicit_content-plain (Tree.list kind (trees ts)) refl
    ∙ ap (list_content kind) (encodings-trees ts))

-- sets of the same members, each as often, in any order, have one encoding under the tag, too
pub implicit_list_set_order : (tag : ℕ) (ts us : List Tree) → IsPermutation ts us
    → der (Tree.wrapped (ImplicitList tag) (Tree.list ListKind.set (trees ts)))
    ≡ der (Tree.wrapped (ImplicitList tag) (Tree.list ListKind.set (trees us)))
implicit_list_set_order tag ts us moved =
    let same = in_ascending_order-permuted (map der ts) (map der us) (IsPermutation-map der ts us moved) in
    implicit_list tag ListKind.set ts ∙ ap (λ l. tlv tag (concat l)) same ∙ sym (implicit_list tag ListKind.set us)
