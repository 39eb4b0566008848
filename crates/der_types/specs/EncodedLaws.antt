-- That a tree is readable has one proof at most. And a tree is short if its encoding is.
use Rattle.std.proofs.Common.{◌≡◌, ℕ, ◌+◌, ◌<◌, ◌≤◌, ◌^◌, Bool, true, false, ◌&&◌, List, [], ◌∷◌, ◌++◌, length, refl}
use Rattle.std.proofs.Common.{sym}
use Rattle.std.proofs.Common.{ap, ◌∙◌, arith, subst, length-append, IsUtf8, encode_utf8_all}
use Rattle.std.specs.List.{concat}
use Rattle.std.specs.Coded.{Coded-set, Unit-prop, coded_list, coded_ℕ, le_prop}
use Rattle.std.proofs.lemmas.Str.{chars_from_encodes}
use lib.Utf8.{scalars}
use mathlib.Core.Bool.{Bool-set}
use mathlib.Core.HLevel.{is_prop→PathP, Σ_prop_path, Π_prop, ×_prop, ×₃_prop}
use Rattle.picky_der_core.specs.declared.asn1.wrapper.Wrapper.{Wrapper}
use Rattle.picky_der_core.specs.declared.asn1.wrapper.Wrapper.TheVariants.{OctetContainer, BitContainer, Explicit}
use Rattle.picky_der_core.specs.declared.asn1.wrapper.Wrapper.TheVariants.{Implicit, Application, ImplicitList}
use Rattle.picky_der_core.specs.Element.{AreBytes, IsElement, length_octets, tlv}
use Rattle.picky_der_core.specs.ElementLaws.{tlv-same}
use Rattle.picky_der_core.specs.Encoding.{der, encodings, list_content, list_tag, plain_encoding, tree_bytes}
use Rattle.picky_der_core.specs.Encoding.{wrapper_encoding}
use Rattle.picky_der_core.specs.EncodingLaws.{is_absent-readable, length-der, length-list_content, never_absent}
use Rattle.picky_der_core.specs.Order.{IsAscending}
use Rattle.picky_der_core.specs.Primitive.{IsReadablePrimitive, Primitive, primitive_content, primitive_tag}
use Rattle.picky_der_core.specs.Readable.{AreReadable, IsHeadedIfChoice, IsInOrder, IsNoChoice, IsReadable}
use Rattle.picky_der_core.specs.Tag.{IsTagNumber, number_of}
use Rattle.picky_der_core.specs.Tree.{ListKind, Tree, Trees, is_absent}
use Rattle.picky_der_core.specs.Wrapper.{HasTagNumber, can_vanish, keeps_header, wrapper_front, wrapper_tag}
use Rattle.der_types.specs.Constraints.{member_count}
use Rattle.der_types.specs.Denotes.{IsShort, EachIsShort}

-- ---- one proof at most

-- two proofs that numbers, or lists of them, are equal are the same
numbers-set : IsSet ℕ
numbers-set = Coded-set coded_ℕ

pub bytes-set : IsSet (List ℕ)
bytes-set = Coded-set (coded_list coded_ℕ)

bytes-prop : (s : List ℕ) → IsProp (AreBytes s)
bytes-prop [] = Unit-prop
bytes-prop (b ∷ bs) = ×_prop le_prop (bytes-prop bs)

utf8-prop : (s : List ℕ) → IsProp (IsUtf8 s)
utf8-prop s u v =
    Σ_prop_path (λ cs. ×_prop (Bool-set (scalars cs) true) (bytes-set (encode_utf8_all cs) s)) {u = u} {v = v}
    (chars_from_encodes u.0 s v u.1.1 ∙ sym (chars_from_encodes v.0 s u v.1.1))

ascending-prop : (xs : List (List ℕ)) → IsProp (IsAscending xs)
ascending-prop xs = Π_prop (λ k. Π_prop (λ d. Π_prop (λ p. Π_prop (λ q. Bool-set _ _))))

element-prop : (s : List ℕ) → IsProp (IsElement s)
element-prop s p q =
    let e = tlv-same p.tag q.tag p.content q.content (sym p.is ∙ q.is) in
    λ i. record {
      tag = e.0 i;
      content = e.1 i;
      number = is_prop→PathP (λ j. IsTagNumber (number_of (e.0 j))) (λ j. le_prop) p.number q.number i;
      is = is_prop→PathP (λ j. s ≡ tlv (e.0 j) (e.1 j)) (λ j. bytes-set s (tlv (e.0 j) (e.1 j))) p.is q.is i;
    }

primitive-prop : (p : Primitive) → IsProp (IsReadablePrimitive p)
primitive-prop (Primitive.boolean b) = Unit-prop
primitive-prop (Primitive.unsigned n) = Unit-prop
primitive-prop Primitive.null = Unit-prop
primitive-prop (Primitive.text s) = utf8-prop s
primitive-prop (Primitive.bytes tag s) = ×_prop le_prop (bytes-prop s)

order-prop : (kind : ListKind) (members : List (List ℕ)) → IsProp (IsInOrder kind members)
order-prop ListKind.sequence members = Unit-prop
order-prop ListKind.set members = ascending-prop members

number-prop : (w : Wrapper) → IsProp (HasTagNumber w)
number-prop OctetContainer = Unit-prop
number-prop BitContainer = Unit-prop
number-prop (Explicit n) = le_prop
number-prop (Implicit n) = le_prop
number-prop (Application n) = le_prop
number-prop (ImplicitList tag) = ×_prop le_prop (numbers-set _ _)

no_choice-prop : (t : Tree) → IsProp (IsNoChoice t)
no_choice-prop (Tree.primitive p) = Unit-prop
no_choice-prop (Tree.list kind ts) = Unit-prop
no_choice-prop (Tree.wrapped w t) = Unit-prop
no_choice-prop (Tree.raw s) = Unit-prop
no_choice-prop (Tree.choice t) = λ x y. absurd x
no_choice-prop Tree.absent = Unit-prop

headed-prop : (b : Bool) (t : Tree) → IsProp (IsHeadedIfChoice b t)
headed-prop true t = Unit-prop
headed-prop false t = no_choice-prop t

mutual
  pub readable-prop : (t : Tree) → IsProp (IsReadable t)
  readable-prop (Tree.primitive p) = primitive-prop p
  readable-prop (Tree.list kind ts) = ×_prop (order-prop kind (encodings ts)) (are_readable-prop ts)
  readable-prop (Tree.wrapped w t) = ×₃_prop (number-prop w) (headed-prop (keeps_header w) t) (readable-prop t)
  readable-prop (Tree.raw s) = ×_prop (element-prop s) (bytes-prop s)
  readable-prop (Tree.choice t) = readable-prop t
  readable-prop Tree.absent = λ x y. absurd x

  are_readable-prop : (ts : Trees) → IsProp (AreReadable ts)
  are_readable-prop Trees.none = Unit-prop
  are_readable-prop (Trees.more t ts) = ×_prop (readable-prop t) (are_readable-prop ts)

-- ---- what is in an encoding isn't longer

below : (a b most : ℕ) → a ≤ b → b < most → a < most
below a b most h k = omega arith

content_below : (header : Bool) (tag : ℕ) (c : List ℕ) → length c ≤ length (plain_encoding header tag c)
unfolding plain_encoding tlv
content_below true tag c = omega (arith, length-append (length_octets (length c)) c)
content_below false tag c = omega arith

wrapped_below : (b : Bool) (tag : ℕ) (front c : List ℕ) → b ≡ false
    → length c ≤ length (wrapper_encoding b tag (front ++ c))
unfolding wrapper_encoding tlv
wrapped_below true tag front c e = cc
wrapped_below false tag front c e =
    omega (arith, length-append (length_octets (length (front ++ c))) (front ++ c), length-append front c)

counted : (ts : Trees) → AreReadable ts → member_count ts ≤ length (concat (encodings ts))
unfolding der tree_bytes
counted Trees.none r = omega arith
counted (Trees.more t ts) r =
    let first : 0 < length (tree_bytes true t) = length-der t r.0 in
    omega (arith, first, counted ts r.1, length-append (tree_bytes true t) (concat (encodings ts)))

mutual
  unfolding tree_bytes

  short : (header : Bool) (t : Tree) → IsReadable t → length (tree_bytes header t) < 2 ^ 63 → IsShort t
  short header (Tree.primitive p) r h =
      below _ _ (2 ^ 63) (content_below header (primitive_tag p) (primitive_content p)) h
  short header (Tree.list kind ts) r h =
      let content = below _ _ (2 ^ 63) (content_below header (list_tag kind) (list_content kind (encodings ts))) h in
      let all = subst (λ n. n < 2 ^ 63) (length-list_content kind (encodings ts)) content in
      (below (member_count ts) _ (2 ^ 63) (counted ts r.1) all, shorts ts r.1 all)
  short header (Tree.wrapped w t) r h =
      let present = never_absent (can_vanish w) (is_absent t) (is_absent-readable t r.2) in
      let inside = wrapped_below (can_vanish w && is_absent t) (wrapper_tag w) (wrapper_front w)
      (tree_bytes (keeps_header w) t) present in
      short (keeps_header w) t r.2 (below _ _ (2 ^ 63) inside h)
  short header (Tree.raw s) r h = h
  short header (Tree.choice t) r h = short header t r h
  short header Tree.absent r h = tt

  shorts : (ts : Trees) → AreReadable ts → length (concat (encodings ts)) < 2 ^ 63 → EachIsShort ts
  shorts Trees.none r h = tt
  shorts (Trees.more t ts) r h =
      let both = length-append (tree_bytes true t) (concat (encodings ts)) in
      let front : length (tree_bytes true t) ≤ length (concat (encodings (Trees.more t ts))) = omega (arith, both) in
      let rest : length (concat (encodings ts)) ≤ length (concat (encodings (Trees.more t ts))) = omega (arith, both) in
      (short true t r.0 (below _ _ (2 ^ 63) front h), shorts ts r.1 (below _ _ (2 ^ 63) rest h))

pub short_encoding : (t : Tree) → IsReadable t → length (der t) < 2 ^ 63 → IsShort t
unfolding der
short_encoding t r h = short true t r h
