-- Parts of an encoding.
use Rattle.std.proofs.Common.{◌≡◌, ℕ, zero, suc, ◌+◌, ◌-◌, ◌^◌, ◌<◌, ◌≤◌, true, List, [], ◌∷◌, ◌++◌, length, get_or}
use Rattle.std.proofs.Common.{take, drop, refl, sym, ap, subst, ◌∙◌, arith, append_assoc, append-nil, length-append}
use Rattle.std.proofs.Common.{length-drop, take-append-drop}
use Rattle.std.specs.Prelude.{Option, Some, None, slice_range, option_and_then}
use Rattle.std.specs.List.{AllByRecursion, concat}
use Rattle.std.proofs.lemmas.List.{drop_all, length-take-le}
use Rattle.std.proofs.lemmas.List.Folds.{concat-append}
use Rattle.std.proofs.lemmas.Slice.{first_rest}
use Rattle.std.proofs.Math.Seq.{take-length, take-append_seam, drop-append_seam}
use Rattle.picky_der_core.specs.Element.{length_octets, tlv, IsElement, IsPrefix}
use Rattle.picky_der_core.specs.ElementLaws.{length_octets_prefix}
use Rattle.picky_der_core.specs.Tag.{number_of, IsTagNumber}
use Rattle.picky_der_core.specs.declared.asn1.wrapper.Wrapper.{Wrapper}
use Rattle.picky_der_core.specs.declared.asn1.wrapper.Wrapper.TheVariants.{OctetContainer, BitContainer, Explicit}
use Rattle.picky_der_core.specs.declared.asn1.wrapper.Wrapper.TheVariants.{Implicit, Application, ImplicitList}
use Rattle.picky_der_core.specs.Tree.{ListKind, Tree, Trees}
use Rattle.picky_der_core.specs.Shape.{Shape, Layout, IsOf}
use Rattle.picky_der_core.specs.Wrapper.{wrapper_tag}
use Rattle.picky_der_core.specs.Encoding.{der, implicit_content, tree_bytes, encodings, content, list_tag}
use Rattle.picky_der_core.specs.EncodingLaws.{der-plain, der-choice, der-wrapped_present, der-element}
use Rattle.picky_der_core.specs.EncodingLaws.{implicit_content-plain, implicit_content-other, is_absent-readable}
use Rattle.picky_der_core.specs.EncodingLaws.{list_content-in_order}
use Rattle.picky_der_core.specs.OpenWrappers.{wrapped_content}
use Rattle.picky_der_core.specs.Readable.{IsReadable, AreReadable}
use Rattle.picky_asn1_der.specs.declared.parts.Header.{Header}
use Rattle.picky_asn1_der.specs.Parts.{tree_at, members_of, inside_wrapper, inside_implicit, part_at, HasMember}
use Rattle.picky_asn1_der.specs.Parts.{IsHeaderOf, IsPiece, has_first_member, first_member_of, WithoutTag}
use Rattle.picky_asn1_der.specs.Parts.{HasHeader, HasShortTag, IsMemberAt, IsPartAt}

-- ---- headers

module _ (bytes : List ℕ) (tag : ℕ) (content rest : List ℕ) (is : bytes ≡ tlv tag content ++ rest) where
  pub not_empty : length bytes < 1 → ⊥
  unfolding tlv
  not_empty h = absurd (omega (arith, ap length is))

  split : bytes ≡ tag ∷ (length_octets (length content) ++ (content ++ rest))
  unfolding tlv
  split = is ∙ ap (λ s. tag ∷ s) (append_assoc (length_octets (length content)) content rest)

  pub content_small : length bytes < 2 ^ 64 → length content < 2 ^ 64
  content_small h = omega (
    arith,
    ap length split,
    length-append (length_octets (length content)) (content ++ rest),
    length-append content rest,
  )

  pub after_tag : 1 ≤ length bytes
      → slice_range bytes 1 (length bytes) ≡ length_octets (length content) ++ (content ++ rest)
  after_tag some =
      let e : get_or bytes 0 0 ∷ slice_range bytes 1 (length bytes)
      ≡ tag ∷ (length_octets (length content) ++ (content ++ rest)) = sym (first_rest bytes 0 some) ∙ split in
      cc

  pub some_length : 1 ≤ length bytes → length bytes < 2 ^ 64
      → ((n : ℕ) → n < 2 ^ 64 → IsPrefix (length_octets n) (slice_range bytes 1 (length bytes)) → ⊥) → ⊥
  some_length some small none =
      none (length content) (content_small small) (record { rest = content ++ rest; is = after_tag some })

  module _ (some : 1 ≤ length bytes) (n : ℕ) (left : List ℕ) (read : slice_range bytes 1 (length bytes)
      ≡ length_octets n ++ left) where
    parts : (n ≡ length content) × (left ≡ content ++ rest)
    parts = length_octets_prefix n (length content) left (content ++ rest) (sym read ∙ after_tag some)

    pub enough : length left < n → ⊥
    enough h = absurd (omega (arith, parts.0, ap length parts.1, length-append content rest))

    pub header_found : (h : Header) → h.len ≡ length bytes - length left → h.content_len ≡ n → IsHeaderOf content h
    header_found h len content_len = record {
      len = omega (
        arith,
        len,
        ap length split,
        length-append (length_octets (length content)) (content ++ rest),
        ap length parts.1,
      );
      content_len = content_len ∙ parts.0;
    }

-- a length and a content of it are after the first byte
pub has_header : (bytes : List ℕ) (n : ℕ) (left : List ℕ) → 1 ≤ length bytes
    → slice_range bytes 1 (length bytes) ≡ length_octets n ++ left → n ≤ length left → (h : Header)
    → h.len ≡ length bytes - length left → h.content_len ≡ n → HasHeader bytes h
unfolding tlv
has_header bytes n left some read enough h len content_len =
    let size : length (take n left) ≡ n = length-take-le n left enough in
    let octets : length_octets n ≡ length_octets (length (take n left)) = ap length_octets (sym size) in
    let all : bytes ≡ get_or bytes 0 0 ∷ slice_range bytes 1 (length bytes) = first_rest bytes 0 some in
    let split : slice_range bytes 1 (length bytes)
    ≡ (length_octets (length (take n left)) ++ take n left) ++ drop n left =
    read ∙ ap (λ l. length_octets n ++ l) (sym (take-append-drop n left))
    ∙ ap (λ o. o ++ (take n left ++ drop n left)) octets
    ∙ sym (append_assoc (length_octets (length (take n left))) (take n left) (drop n left)) in
    record {
      tag = get_or bytes 0 0;
      content = take n left;
      rest = drop n left;
      is = all ∙ ap (λ s. get_or bytes 0 0 ∷ s) split;
      header = record {
        len = omega (
          arith,
          len,
          ap length all,
          ap length read,
          length-append (length_octets n) left,
          ap length octets,
        );
        content_len = content_len ∙ sym size;
      };
    }

-- ---- elements

length-element : (tag : ℕ) (content : List ℕ)
    → length (tlv tag content) ≡ 1 + length (length_octets (length content)) + length content
unfolding tlv
length-element tag content = omega (arith, length-append (length_octets (length content)) content)

range_to_end : (bytes : List ℕ) (k : ℕ) → slice_range bytes k (length bytes) ≡ drop k bytes
range_to_end bytes k = ap (λ n. take n (drop k bytes)) (sym (length-drop k bytes)) ∙ take-length (drop k bytes)

no_bytes : (bs : List ℕ) → length bs ≡ 0 → bs ≡ []
no_bytes [] e = refl
no_bytes (b ∷ bs) e = absurd (omega (arith, e))

-- the header of an element at the front says where this ends
pub element_ends : (element content : List ℕ) (tag : ℕ) (h : Header) → element ≡ tlv tag content → IsHeaderOf content h
    → h.len + h.content_len ≡ length element
element_ends element content tag h is header =
    omega (arith, header.len, header.content_len, ap length is, length-element tag content)

module _ (element rest bytes : List ℕ) (n : ℕ) (is : bytes ≡ element ++ rest) (size : n ≡ length element) where
  pub front_is : take n bytes ≡ element
  front_is = ap (λ k. take k bytes) size ∙ ap (take (length element)) is ∙ take-append_seam element rest

  pub back_is : drop n bytes ≡ rest
  back_is = ap (λ k. drop k bytes) size ∙ ap (drop (length element)) is ∙ drop-append_seam element rest

-- the element at the front has as many bytes as its header says
module _ (bytes : List ℕ) (h : Header) (has : HasHeader bytes h) where
  abbrev front_element : List ℕ
  front_element = tlv has.tag has.content

  pub front_size : h.len + h.content_len ≡ length front_element
  front_size = element_ends front_element has.content has.tag h refl has.header

  pub front_cut : (n : ℕ) → n ≡ h.len + h.content_len → take n bytes ≡ front_element
  front_cut n e = front_is front_element has.rest bytes n has.is (e ∙ front_size)

  -- nothing is after it
  pub nothing_after : length bytes ≤ h.len + h.content_len → bytes ≡ front_element
  nothing_after whole =
      let none : length has.rest ≡ 0 =
      omega (arith, front_size, ap length has.is, length-append front_element has.rest) in
      has.is ∙ ap (λ r. front_element ++ r) (no_bytes has.rest none) ∙ append-nil front_element

  -- the first byte is its tag
  pub front_tagged : HasShortTag bytes → IsElement front_element
  unfolding tlv
  front_tagged short =
      let same : short.tag ∷ short.rest ≡ has.tag ∷ ((length_octets (length has.content) ++ has.content) ++ has.rest) =
      sym short.is ∙ has.is in
      let tag : short.tag ≡ has.tag = cc in
      record {
        tag = has.tag;
        content = has.content;
        number = subst (λ t. IsTagNumber (number_of t)) tag short.number;
        is = refl;
      }

pub element_tagged : (element rest bytes : List ℕ) → IsElement element → bytes ≡ element ++ rest → HasShortTag bytes
unfolding tlv
element_tagged element rest bytes one is = record {
  tag = one.tag;
  rest = (length_octets (length one.content) ++ one.content) ++ rest;
  is = is ∙ ap (λ e. e ++ rest) one.is;
  number = one.number;
}

-- what is after the header of an element is its content
pub content_is : (element content : List ℕ) (tag : ℕ) (h : Header) → element ≡ tlv tag content → IsHeaderOf content h
    → drop h.len element ≡ content
unfolding tlv
content_is element content tag h is header =
    back_is (tag ∷ length_octets (length content)) content element h.len is (omega (arith, header.len))

-- ---- members

-- what a loop knows that has skipped so many members
pub record Skips (element : List ℕ) (index i : ℕ) (rest : List ℕ) : Type 0 where
  pub found : (tag : ℕ) (content member : List ℕ) → element ≡ tlv tag content → HasMember index content member
      → HasMember (index - i) rest member
  pub front : List ℕ
  pub is : element ≡ front ++ rest
  pub before : List (List ℕ)
  pub elements : AllByRecursion IsElement before
  pub count : length before ≡ i
  pub within : i ≤ index
  pub front_is : (h : Header) → HasHeader element h → front ≡ take h.len element ++ concat before

all_and : (P : List ℕ → Type 0) (xs : List (List ℕ)) (x : List ℕ) → AllByRecursion P xs → P x
    → AllByRecursion P (xs ++ (x ∷ []))
all_and P [] x h p = (p, tt)
all_and P (y ∷ ys) x h p = (h.0, all_and P ys x h.1 p)

concat_and : (xs : List (List ℕ)) (x : List ℕ) → concat (xs ++ (x ∷ [])) ≡ concat xs ++ x
concat_and xs x = concat-append xs (x ∷ []) ∙ ap (λ y. concat xs ++ y) (append-nil x)

-- the first of some members, and those after it
abbrev pub FirstOf : ℕ → List ℕ → List ℕ → Type 0
FirstOf n bytes member = (e more : List ℕ) × IsElement e × (bytes ≡ e ++ more) × HasMember (n - 1) more member

first_of : (n : ℕ) (bytes member : List ℕ) → 0 < n → (before : List (List ℕ)) (has : HasMember n bytes member)
    → before ≡ has.before → FirstOf n bytes member
first_of n bytes member some [] has e = absurd (omega (arith, has.count, ap length e))
first_of n bytes member some (b ∷ before) has e =
    let all : AllByRecursion IsElement (b ∷ before) = subst (AllByRecursion IsElement) (sym e) has.elements in
    let is : bytes ≡ concat (b ∷ before) ++ (member ++ concat has.after) =
    has.is ∙ ap (λ ms. concat ms ++ (member ++ concat has.after)) (sym e) in (
      b,
      concat before ++ (member ++ concat has.after),
      all.0,
      is ∙ append_assoc b (concat before) (member ++ concat has.after),
      record {
        before = before;
        after = has.after;
        elements = all.1;
        element = has.element;
        count = omega (arith, has.count, ap length e);
        is = refl;
      },
    )

pub first_member : (n : ℕ) (bytes member : List ℕ) → 0 < n → HasMember n bytes member → FirstOf n bytes member
first_member n bytes member some has = first_of n bytes member some has.before has refl

last_of : (bytes member : List ℕ) (before : List (List ℕ)) (has : HasMember 0 bytes member) → before ≡ has.before
    → (more : List ℕ) × (bytes ≡ member ++ more)
last_of bytes member [] has e =
    (concat has.after, has.is ∙ ap (λ ms. concat ms ++ (member ++ concat has.after)) (sym e))
last_of bytes member (b ∷ before) has e = absurd (omega (arith, has.count, ap length e))

pub at_member : (bytes member : List ℕ) → HasMember 0 bytes member → (more : List ℕ) × (bytes ≡ member ++ more)
at_member bytes member has = last_of bytes member has.before has refl

module _ (element : List ℕ) (index : ℕ) where
  pub none_skipped : (h : Header) → ((tag : ℕ) (content rest : List ℕ) → element ≡ tlv tag content ++ rest
      → IsHeaderOf content h) → Skips element index 0 (slice_range element h.len (length element))
  none_skipped h header = subst (Skips element index 0) (sym (range_to_end element h.len)) (record {
    found = λ tag content member is has.
        let same = content_is element content tag h is
        (header tag content [] (is ∙ sym (append-nil (tlv tag content)))) in
        let all : index ≡ index - 0 = omega arith in
        subst (λ n. HasMember n (drop h.len element) member) all (subst (λ b. HasMember index b member) (sym same) has);
    front = take h.len element;
    is = sym (take-append-drop h.len element);
    before = [];
    elements = tt;
    count = refl;
    within = omega arith;
    front_is = λ k has.
        let own : IsHeaderOf has.content h = header has.tag has.content has.rest has.is in
        ap (λ n. take n element) (own.len ∙ sym has.header.len) ∙ sym (append-nil (take k.len element));
  })

  module _ (i : ℕ) (rest : List ℕ) (s : Skips element index i rest) where
    -- one that could be there is found
    pub one_more : (pair : List ℕ × List ℕ) → i < index
        → ((e more : List ℕ) → IsElement e → rest ≡ e ++ more → (pair.0 ≡ e) × (pair.1 ≡ more))
        → rest ≡ pair.0 ++ pair.1 → IsElement pair.0
        → Skips element index (i + 1) pair.1
    one_more pair less splits all one = record {
      found = λ tag content member is has.
          let first = first_member (index - i) rest member (omega arith) (s.found tag content member is has) in
          let same = (splits first.0 first.1 first.2 first.3).1 in
          let next : index - i - 1 ≡ index - (i + 1) = omega arith in
          subst (λ n. HasMember n pair.1 member) next
          (subst (λ b. HasMember (index - i - 1) b member) (sym same) first.4);
      front = s.front ++ pair.0;
      is = s.is ∙ ap (λ b. s.front ++ b) all ∙ sym (append_assoc s.front pair.0 pair.1);
      before = s.before ++ (pair.0 ∷ []);
      elements = all_and IsElement s.before pair.0 s.elements one;
      count = omega (arith, length-append s.before (pair.0 ∷ []), s.count);
      within = omega arith;
      front_is = λ h has. ap (λ f. f ++ pair.0) (s.front_is h has)
          ∙ append_assoc (take h.len element) (concat s.before) pair.0
          ∙ ap (λ c. take h.len element ++ c) (sym (concat_and s.before pair.0));
    }

    pub some_more : i < index → ((e more : List ℕ) → IsElement e → rest ≡ e ++ more → ⊥)
        → (tag : ℕ) (content member : List ℕ) → element ≡ tlv tag content → HasMember index content member → ⊥
    some_more less none tag content member is has =
        let first = first_member (index - i) rest member (omega arith) (s.found tag content member is has) in
        none first.0 first.1 first.2 first.3

    reached : index ≤ i → (tag : ℕ) (content member : List ℕ) → element ≡ tlv tag content
        → HasMember index content member → IsElement member × (more : List ℕ) × (rest ≡ member ++ more)
    reached here tag content member is has =
        let none : index - i ≡ 0 = omega arith in
        let at : HasMember 0 rest member =
        subst (λ n. HasMember n rest member) none (s.found tag content member is has) in
        let ahead = at_member rest member at in
        (at.element, ahead.0, ahead.1)

    pub member_there : index ≤ i → ((e more : List ℕ) → IsElement e → rest ≡ e ++ more → ⊥)
        → (tag : ℕ) (content member : List ℕ) → element ≡ tlv tag content → HasMember index content member → ⊥
    member_there here none tag content member is has = let r = reached here tag content member is has in
        none member r.1 r.0 r.2

    pub member_is : index ≤ i → (pair : List ℕ × List ℕ)
        → ((e more : List ℕ) → IsElement e → rest ≡ e ++ more → (pair.0 ≡ e) × (pair.1 ≡ more))
        → (tag : ℕ) (content member : List ℕ) → element ≡ tlv tag content → HasMember index content member
        → pair.0 ≡ member
    member_is here pair splits tag content member is has = let r = reached here tag content member is has in
        (splits member r.1 r.0 r.2).0

    pub rest_within : length rest ≤ length element
    rest_within = omega (arith, ap length s.is, length-append s.front rest)

    pub member_piece : (pair : List ℕ × List ℕ) → rest ≡ pair.0 ++ pair.1
        → IsPiece element (length element - length rest) pair.0
    member_piece pair all = record {
      before = s.front;
      after = pair.1;
      count = omega (arith, ap length s.is, length-append s.front rest);
      is = s.is ∙ ap (λ b. s.front ++ b) all;
    }

    -- one that is there is the member
    pub member_at : (h : Header) → (has : HasHeader element h) → length element ≤ h.len + h.content_len → index ≤ i
        → (pair : List ℕ × List ℕ) → rest ≡ pair.0 ++ pair.1 → IsElement pair.0
        → IsMemberAt index element (length element - length rest) pair.0
    member_at h has whole here pair all one =
        let is : element ≡ tlv has.tag has.content = nothing_after element h has whole in
        let head = take h.len element in
        let low : h.len ≤ length element =
        omega (arith, has.header.len, ap length is, length-element has.tag has.content) in
        let head_size : length head ≡ h.len = length-take-le h.len element low in
        let split : element ≡ head ++ (concat s.before ++ rest) =
        s.is ∙ ap (λ f. f ++ rest) (s.front_is h has) ∙ append_assoc head (concat s.before) rest in
        let inside : drop h.len element ≡ concat s.before ++ rest =
        back_is head (concat s.before ++ rest) element h.len split (sym head_size) in
        let content : drop h.len element ≡ has.content = content_is element has.content has.tag h is has.header in
        record {
          tag = has.tag;
          content = has.content;
          is = is;
          has = record {
            before = s.before;
            after = pair.1 ∷ [];
            elements = s.elements;
            element = one;
            count = omega (arith, s.count, s.within);
            is = sym content ∙ inside
                ∙ ap (λ r. concat s.before ++ r) (all ∙ ap (λ m. pair.0 ++ m) (sym (append-nil pair.1)));
          };
          place = omega (
            arith,
            ap length split,
            length-append head (concat s.before ++ rest),
            length-append (concat s.before) rest,
            head_size,
            has.header.len,
          );
        }

-- ---- parts of a tree

-- the bytes are an element of these trees
pub record Holds (bytes : List ℕ) (ts : Trees) : Type 0 where
  pub tag : ℕ
  pub is : bytes ≡ tlv tag (concat (encodings ts))
  pub readable : AreReadable ts

encodings_more : (t : Tree) (ts : Trees) → encodings (Trees.more t ts) ≡ der t ∷ encodings ts
unfolding der tree_bytes
encodings_more t ts = refl

one_tree : (t : Tree) → concat (encodings (Trees.more t Trees.none)) ≡ der t
unfolding der tree_bytes
one_tree t = append-nil (der t)

list_holds : (kind : ListKind) (ts : Trees) → IsReadable (Tree.list kind ts) → Holds (der (Tree.list kind ts)) ts
list_holds kind ts r = record {
  tag = list_tag kind;
  is = der-plain (Tree.list kind ts) refl ∙ ap (tlv (list_tag kind)) (list_content-in_order kind (encodings ts) r.0);
  readable = r.1;
}

holds_one : (tag : ℕ) (t : Tree) (bytes content : List ℕ) → IsReadable t → bytes ≡ tlv tag content → content ≡ der t
    → Holds bytes (Trees.more t Trees.none)
holds_one tag t bytes content r is e = record {
  tag = tag;
  is = is ∙ ap (tlv tag) (e ∙ sym (one_tree t));
  readable =
      (r, tt);
}

implicit_holds : (tag : ℕ) (t : Tree) (bytes : List ℕ) → IsReadable t → bytes ≡ tlv tag (implicit_content t)
    → (ts : Trees) → inside_implicit t ≡ Some ts → Holds bytes ts
implicit_holds tag (Tree.list kind us) bytes r is ts e =
    let same : us ≡ ts = cc in
    let content = implicit_content-plain (Tree.list kind us) refl ∙ list_content-in_order kind (encodings us) r.0 in
    subst (Holds bytes) same (record { tag = tag; is = is ∙ ap (tlv tag) content; readable = r.1 })
implicit_holds tag (Tree.wrapped w t) bytes r is ts e =
    let same : Trees.more (Tree.wrapped w t) Trees.none ≡ ts = cc in
    subst (Holds bytes) same
    (holds_one tag (Tree.wrapped w t) bytes _ r is (implicit_content-other (Tree.wrapped w t) refl tt))
implicit_holds tag (Tree.raw s) bytes r is ts e =
    let same : Trees.more (Tree.raw s) Trees.none ≡ ts = cc in
    subst (Holds bytes) same (holds_one tag (Tree.raw s) bytes _ r is (implicit_content-other (Tree.raw s) refl tt))
implicit_holds tag (Tree.primitive p) bytes r is ts e = cc
implicit_holds tag (Tree.choice t) bytes r is ts e = cc
implicit_holds tag Tree.absent bytes r is ts e = cc

wrapper_holds : (w : Wrapper) (t : Tree) (bytes : List ℕ) → IsReadable t
    → bytes ≡ tlv (wrapper_tag w) (wrapped_content w t) → (ts : Trees) → inside_wrapper w t ≡ Some ts → Holds bytes ts
wrapper_holds OctetContainer t bytes r is ts e = let same : Trees.more t Trees.none ≡ ts = cc in
    subst (Holds bytes) same (holds_one 0x04 t bytes _ r is refl)
wrapper_holds BitContainer t bytes r is ts e = cc
wrapper_holds (Explicit n) t bytes r is ts e = let same : Trees.more t Trees.none ≡ ts = cc in
    subst (Holds bytes) same (holds_one (0xA0 + n) t bytes _ r is refl)
wrapper_holds (Implicit n) t bytes r is ts e = implicit_holds (0x80 + n) t bytes r is ts e
wrapper_holds (Application n) t bytes r is ts e = let same : Trees.more t Trees.none ≡ ts = cc in
    subst (Holds bytes) same (holds_one (0x60 + n) t bytes _ r is refl)
wrapper_holds (ImplicitList tag) t bytes r is ts e = implicit_holds tag t bytes r is ts e

members_held : (t : Tree) → IsReadable t → (ts : Trees) → members_of t ≡ Some ts → Holds (der t) ts
members_held (Tree.list kind us) r ts e = let same : us ≡ ts = cc in
    subst (Holds (der (Tree.list kind us))) same (list_holds kind us r)
members_held (Tree.wrapped w t) r ts e =
    wrapper_holds w t (der (Tree.wrapped w t)) r.2 (der-wrapped_present w t (is_absent-readable t r.2)) ts e
members_held (Tree.choice t) r ts e = subst (λ b. Holds b ts) (sym (der-choice t)) (members_held t r ts e)
members_held (Tree.primitive p) r ts e = cc
members_held (Tree.raw s) r ts e = cc
members_held Tree.absent r ts e = cc

tree_found : (n : ℕ) (ts : Trees) (u : Tree) → AreReadable ts → tree_at n ts ≡ Some u
    → HasMember n (concat (encodings ts)) (der u) × IsReadable u
tree_found n Trees.none u r e = cc
tree_found zero (Trees.more t ts) u r e =
    let same : t ≡ u = cc in
    subst (λ v. HasMember zero (concat (encodings (Trees.more t ts))) (der v) × IsReadable v) same (
      record {
        before = [];
        after = encodings ts;
        elements = tt;
        element = der-element t r.0;
        count = refl;
        is = ap concat (encodings_more t ts);
      },
      r.0,
    )
tree_found (suc n) (Trees.more t ts) u r e =
    let later = tree_found n ts u r.1 e in
    let has = later.0 in (
      record {
        before = der t ∷ has.before;
        after = has.after;
        elements = (der-element t r.0, has.elements);
        element = has.element;
        count = ap suc has.count;
        is = ap concat (encodings_more t ts) ∙ ap (λ b. der t ++ b) has.is
            ∙ sym (append_assoc (der t) (concat has.before) (der u ++ concat has.after));
      },
      later.1,
    )

-- ---- parts at a path

and_then_some : {A B : Type 0} (o : Option A) (f : A → Option B) (b : B) → option_and_then f o ≡ Some b
    → (a : A) × (o ≡ Some a) × (f a ≡ Some b)
and_then_some None f b e = cc
and_then_some (Some a) f b e = (a, refl, e)

-- what a loop over a path knows after so many steps
pub record Descends (encoding path : List ℕ) (i start : ℕ) (part : List ℕ) : Type 0 where
  pub found : (t u : Tree) → IsReadable t → encoding ≡ der t → part_at path t ≡ Some u
      → (v : Tree) × IsReadable v × (part ≡ der v) × (part_at (drop i path) v ≡ Some u)
  pub piece : IsPiece encoding start part
  pub leads : (inner : ℕ) (p : List ℕ) → IsPartAt (drop i path) part inner p
      → IsPartAt path encoding (start + inner) p
  pub alone : (offset : ℕ) (p : List ℕ) → IsPartAt path encoding offset p
      → (inner : ℕ) × IsPartAt (drop i path) part inner p

pub at_start : (encoding path : List ℕ) → Descends encoding path 0 0 encoding
at_start encoding path = record {
  found = λ t u r is e. (t, r, is, e);
  piece = record { before = []; after = []; count = refl; is = sym (append-nil encoding) };
  leads = λ inner p at.
      let same : inner ≡ 0 + inner = omega arith in
      subst (λ n. IsPartAt path encoding n p) same at;
  alone = λ offset p at. (offset, at);
}

module _ (encoding path : List ℕ) (i start : ℕ) (part : List ℕ) (d : Descends encoding path i start part) where
  module _ (index : ℕ) (here : drop i path ≡ index ∷ drop (i + 1) path) where
    -- the member to which the path leads
    next_part : (t u : Tree) → IsReadable t → encoding ≡ der t → part_at path t ≡ Some u
        → (w : Tree) × IsReadable w × (part_at (drop (i + 1) path) w ≡ Some u) × (tag : ℕ) × (content : List ℕ)
        × (part ≡ tlv tag content) × HasMember index content (der w)
    next_part t u r is e =
        let now = d.found t u r is e in
        let v = now.0 in
        let goes : option_and_then (part_at (drop (i + 1) path)) (option_and_then (tree_at index) (members_of v))
        ≡ Some u = subst (λ p. part_at p v ≡ Some u) here now.3 in
        let to = and_then_some (option_and_then (tree_at index) (members_of v)) (part_at (drop (i + 1) path)) u goes in
        let from = and_then_some (members_of v) (tree_at index) to.0 to.1 in
        let held = members_held v now.1 from.0 from.1 in
        let there = tree_found index from.0 to.0 held.readable from.2 in
        (to.0, there.1, to.2, held.tag, concat (encodings from.0), now.2 ∙ held.is, there.0)

    pub no_next : ((tag : ℕ) (content member : List ℕ) → part ≡ tlv tag content → HasMember index content member → ⊥)
        → (t u : Tree) → IsReadable t → encoding ≡ der t → part_at path t ≡ Some u → ⊥
    no_next none t u r is e =
        let next = next_part t u r is e in
        none next.3 next.4 (der next.0) next.5 next.6

    pub nowhere : ((tag : ℕ) (content member : List ℕ) → part ≡ tlv tag content → HasMember index content member → ⊥)
        → (offset : ℕ) (p : List ℕ) → IsPartAt path encoding offset p → ⊥
    nowhere none offset p at =
        let now = d.alone offset p at in
        let next : IsPartAt (index ∷ drop (i + 1) path) part now.0 p =
        subst (λ q. IsPartAt q part now.0 p) here now.1 in
        none next.2.tag next.2.content next.1 next.2.is next.2.has

    pub goes_down : (before : ℕ) (member : List ℕ)
        → ((tag : ℕ) (content m : List ℕ) → part ≡ tlv tag content → HasMember index content m → member ≡ m)
        → IsPiece part before member → IsMemberAt index part before member
        → Descends encoding path (i + 1) (start + before) member
    goes_down before member found inner at = record {
      found = λ t u r is e.
          let next = next_part t u r is e in
          (next.0, next.1, found next.3 next.4 (der next.0) next.5 next.6, next.2);
      piece = record {
        before = d.piece.before ++ inner.before;
        after = inner.after ++ d.piece.after;
        count = omega (arith, length-append d.piece.before inner.before, d.piece.count, inner.count);
        is = d.piece.is ∙ ap (λ b. d.piece.before ++ (b ++ d.piece.after)) inner.is
            ∙ pieces d.piece.before inner.before member inner.after d.piece.after;
      };
      leads = λ k p rest.
          let sum : start + (before + k) ≡ start + before + k = omega arith in
          let next : IsPartAt (index ∷ drop (i + 1) path) part (before + k) p = (before, member, at, k, rest, refl) in
          subst (λ n. IsPartAt path encoding n p) sum
          (d.leads (before + k) p (subst (λ q. IsPartAt q part (before + k) p) (sym here) next));
      alone = λ offset p all.
          let now = d.alone offset p all in
          let next : IsPartAt (index ∷ drop (i + 1) path) part now.0 p =
          subst (λ q. IsPartAt q part now.0 p) here now.1 in
          let same : member ≡ next.1 = found next.2.tag next.2.content next.1 next.2.is next.2.has in
          (next.3, subst (λ m. IsPartAt (drop (i + 1) path) m next.3 p) (sym same) next.4);
    }
      where
        pieces : (a b m c e : List ℕ) → a ++ ((b ++ (m ++ c)) ++ e) ≡ (a ++ b) ++ (m ++ (c ++ e))
        pieces a b m c e = simp append_assoc

  pub piece_within : start + length part ≤ length encoding
  piece_within = omega (
    arith,
    ap length d.piece.is,
    length-append d.piece.before (part ++ d.piece.after),
    length-append part d.piece.after,
    d.piece.count,
  )

  piece_is : slice_range encoding start (start + length part) ≡ part
  piece_is =
      let size : start + length part - start ≡ length part = omega arith in
      let front = back_is d.piece.before (part ++ d.piece.after) encoding start d.piece.is (sym d.piece.count) in
      ap (λ k. take k (drop start encoding)) size ∙ ap (take (length part)) front ∙ take-append_seam part d.piece.after

  pub arrives : length path ≤ i → (t u : Tree) → IsReadable t → encoding ≡ der t → part_at path t ≡ Some u
      → slice_range encoding start (start + length part) ≡ der u
  arrives ended t u r is e =
      let now = d.found t u r is e in
      let nothing : drop i path ≡ [] = drop_all i path ended in
      let last : Some now.0 ≡ Some u = subst (λ p. part_at p now.0 ≡ Some u) nothing now.3 in
      let same : now.0 ≡ u = cc in
      piece_is ∙ now.2 ∙ ap der same

  pub found_here : length path ≤ i
      → IsPartAt path encoding start (slice_range encoding start (start + length part))
  found_here ended =
      let nothing : drop i path ≡ [] = drop_all i path ended in
      let here : IsPartAt (drop i path) part 0 part =
      subst (λ q. IsPartAt q part 0 part) (sym nothing) (refl, refl) in
      let zero_more : start + 0 ≡ start = omega arith in
      subst (λ p. IsPartAt path encoding start p) (sym piece_is)
      (subst (λ n. IsPartAt path encoding n part) zero_more (d.leads 0 part here))

-- ---- first members

list_first : (kind : ListKind) (s : Shape) (l : Layout) (t : Tree) → IsOf (Shape.fields kind (Layout.required s l)) t
    → part_at (0 ∷ []) t ≡ Some (first_member_of t)
list_first kind s l (Tree.list x (Trees.more u us)) h = refl
list_first kind s l (Tree.list x Trees.none) h = absurd h.1
list_first kind s l _ h = absurd h

pub first_part : (s : Shape) (t : Tree) → has_first_member s ≡ true → IsOf s t
    → part_at (0 ∷ []) t ≡ Some (first_member_of t)
first_part (Shape.fields kind (Layout.required s l)) t e h = list_first kind s l t h
first_part (Shape.fields kind _) t e h = cc
first_part _ t e h = cc

-- ---- tags in place of others

pub without_tag : WithoutTag
unfolding tlv
without_tag tag kind ts =
    let t = Tree.list kind ts in
    let listed : der t ≡ tlv (list_tag kind) (content t) = der-plain t refl in
    let tagged : der (Tree.wrapped (ImplicitList tag) t) ≡ tlv tag (implicit_content t) =
    der-wrapped_present (ImplicitList tag) t refl in
    ap (drop 1) (tagged ∙ ap (tlv tag) (implicit_content-plain t refl)) ∙ sym (ap (drop 1) listed)
