-- The encoding of each kind of tree, and how encodings distinguish each other.
use Rattle.std.proofs.Common.{◌≡◌, ℕ, ◌<◌, Bool, true, false, ◌&&◌, List, [], ◌∷◌, ◌++◌, length, map, refl, sym, ap}
use Rattle.std.proofs.Common.{◌∙◌, arith}
use Rattle.std.specs.List.{concat}
use Rattle.picky_der_core.specs.declared.asn1.wrapper.Wrapper.{Wrapper}
use Rattle.picky_der_core.specs.Tag.{number_of, IsTagNumber}
use Rattle.picky_der_core.specs.Element.{tlv, IsElement}
use Rattle.picky_der_core.specs.Primitive.{Primitive, primitive_tag, primitive_content}
use Rattle.picky_der_core.specs.PrimitiveLaws.{primitive_tag_number}
use Rattle.picky_der_core.specs.Wrapper.{wrapper_tag, wrapper_front, keeps_header, can_vanish}
use Rattle.picky_der_core.specs.WrapperLaws.{wrapper_tag_number}
use Rattle.picky_der_core.specs.Tree.{ListKind, Tree, trees, is_plain, is_absent}
use Rattle.picky_der_core.specs.Encoding.{list_content, list_tag, plain_encoding, wrapper_encoding, tree_bytes}
use Rattle.picky_der_core.specs.Encoding.{encodings, der, implicit_content, with_header, content, plain_tag}
use Rattle.picky_der_core.specs.Readable.{IsReadable, IsInOrder, IsNoChoice}
use Rattle.picky_der_core.specs.OpenWrappers.{wrapped_content}
use Rattle.picky_der_core.specs.ElementLaws.{tlv_prefix}
use Rattle.picky_der_core.specs.OrderLaws.{in_ascending_order-same, length-in_ascending_order}

-- ---- the encoding by its kinds

wrapper_encoding-present : (b : Bool) (x : ℕ) (c : List ℕ) → b ≡ false → wrapper_encoding b x c ≡ tlv x c
unfolding wrapper_encoding
wrapper_encoding-present true x c e = cc
wrapper_encoding-present false x c e = refl

wrapper_encoding-absent : (b : Bool) (x : ℕ) (c : List ℕ) → b ≡ true → wrapper_encoding b x c ≡ []
unfolding wrapper_encoding
wrapper_encoding-absent true x c e = refl
wrapper_encoding-absent false x c e = cc

with_header-bytes : (header : Bool) (t : Tree) → tree_bytes header t ≡ with_header header t
unfolding der implicit_content
with_header-bytes true t = refl
with_header-bytes false t = refl

-- a plain tree: its tag, and its content
pub der-plain : (t : Tree) → is_plain t ≡ true → der t ≡ tlv (plain_tag t) (content t)
unfolding der tree_bytes plain_encoding
der-plain (Tree.primitive p) h = refl
der-plain (Tree.list kind ts) h = refl
der-plain _ h = cc

pub der-primitive : (p : Primitive) → der (Tree.primitive p) ≡ tlv (primitive_tag p) (primitive_content p)
der-primitive p = der-plain (Tree.primitive p) refl

-- nothing is written of what is absent
pub der-absent : (t : Tree) → is_absent t ≡ true → der t ≡ []
unfolding der tree_bytes
der-absent Tree.absent h = refl
der-absent (Tree.wrapped w t) h = wrapper_encoding-absent _ _ _ h
der-absent (Tree.choice t) h = der-absent t h
der-absent _ h = cc

pub never_absent : (vanishes absent : Bool) → absent ≡ false → (vanishes && absent) ≡ false
never_absent true absent h = h
never_absent false absent h = refl

-- a wrapper that doesn't vanish is one element with exactly what it holds
pub der-wrapped : (w : Wrapper) (t : Tree) → (can_vanish w && is_absent t) ≡ false
    → der (Tree.wrapped w t) ≡ tlv (wrapper_tag w) (wrapped_content w t)
unfolding der tree_bytes
der-wrapped w t h = wrapper_encoding-present _ _ _ h ∙ ap (λ c. tlv (wrapper_tag w) (wrapper_front w ++ c))
    (with_header-bytes (keeps_header w) t)

-- as around something
pub der-wrapped_present : (w : Wrapper) (t : Tree) → is_absent t ≡ false
    → der (Tree.wrapped w t) ≡ tlv (wrapper_tag w) (wrapped_content w t)
der-wrapped_present w t h = der-wrapped w t (never_absent (can_vanish w) (is_absent t) h)

pub der-raw : (s : List ℕ) → der (Tree.raw s) ≡ s
unfolding der tree_bytes
der-raw s = refl

pub der-choice : (t : Tree) → der (Tree.choice t) ≡ der t
unfolding der tree_bytes
der-choice t = refl

-- ---- directly under an implicit tag

pub implicit_content-plain : (t : Tree) → is_plain t ≡ true → implicit_content t ≡ content t
unfolding implicit_content tree_bytes plain_encoding
implicit_content-plain (Tree.primitive p) h = refl
implicit_content-plain (Tree.list kind ts) h = refl
implicit_content-plain _ h = cc

-- what is neither plain nor a choice keeps its header
pub implicit_content-other : (t : Tree) → is_plain t ≡ false → IsNoChoice t → implicit_content t ≡ der t
unfolding implicit_content der tree_bytes
implicit_content-other (Tree.choice t) p n = absurd n
implicit_content-other (Tree.primitive b) p n = cc
implicit_content-other (Tree.list x b) p n = cc
implicit_content-other _ p n = refl

-- ---- lists

pub encodings-trees : (ts : List Tree) → encodings (trees ts) ≡ map der ts
unfolding der tree_bytes
encodings-trees [] = refl
encodings-trees (t ∷ ts) = ap (λ l. der t ∷ l) (encodings-trees ts)

pub der-list : (kind : ListKind) (ts : List Tree)
    → der (Tree.list kind (trees ts)) ≡ tlv (list_tag kind) (list_content kind (map der ts))
unfolding der tree_bytes plain_encoding
der-list kind ts = ap (λ l. tlv (list_tag kind) (list_content kind l)) (encodings-trees ts)

-- ---- the content of a list

-- members in order are written as they are
pub list_content-in_order : (kind : ListKind) (members : List (List ℕ)) → IsInOrder kind members
    → list_content kind members ≡ concat members
list_content-in_order ListKind.sequence members h = refl
list_content-in_order ListKind.set members h = ap concat (in_ascending_order-same members h)

-- it is as long as they are in all, in whatever order
pub length-list_content : (kind : ListKind) (members : List (List ℕ))
    → length (list_content kind members) ≡ length (concat members)
length-list_content ListKind.sequence members = refl
length-list_content ListKind.set members = length-in_ascending_order members

-- ---- readable trees

pub is_absent-readable : (t : Tree) → IsReadable t → is_absent t ≡ false
is_absent-readable (Tree.primitive p) r = refl
is_absent-readable (Tree.list kind ts) r = refl
is_absent-readable (Tree.wrapped w t) r = never_absent (can_vanish w) (is_absent t) (is_absent-readable t r.2)
is_absent-readable (Tree.raw s) r = refl
is_absent-readable (Tree.choice t) r = is_absent-readable t r
is_absent-readable Tree.absent r = absurd r

list_tag_number : (kind : ListKind) → IsTagNumber (number_of (list_tag kind))
list_tag_number ListKind.sequence = omega arith
list_tag_number ListKind.set = omega arith

-- the encoding of a readable tree is one element
pub der-element : (t : Tree) → IsReadable t → IsElement (der t)
unfolding der tree_bytes plain_encoding
der-element (Tree.primitive p) r = record {
  tag = primitive_tag p;
  content = primitive_content p;
  number =
      primitive_tag_number p r;
  is = refl;
}
der-element (Tree.list kind ts) r = record {
  tag = list_tag kind;
  content = list_content kind (encodings ts);
  number =
      list_tag_number kind;
  is = refl;
}
der-element (Tree.wrapped w t) r = record {
  tag = wrapper_tag w;
  content = wrapped_content w t;
  number =
      wrapper_tag_number w r.0;
  is = der-wrapped_present w t (is_absent-readable t r.2);
}
der-element (Tree.raw s) r = r.0
der-element (Tree.choice t) r = der-element t r
der-element Tree.absent r = absurd r

-- no element begins another
pub same_element : (b c x y : List ℕ) → IsElement b → IsElement c → b ++ x ≡ c ++ y → (b ≡ c) × (x ≡ y)
same_element b c x y p q e =
    let h : tlv p.tag p.content ++ x ≡ tlv q.tag q.content ++ y = ap (λ z. z ++ x) (sym p.is) ∙ e
    ∙ ap (λ z. z ++ y) q.is in
    let parts = tlv_prefix p.tag q.tag p.content q.content x y h in
    let tag : p.tag ≡ q.tag = parts.0 in
    let content : p.content ≡ q.content = parts.1 in
    (p.is ∙ (cc) ∙ sym q.is, parts.2)

-- so no encoding of a readable tree begins another
pub same_encoding : (t u : Tree) (a b : List ℕ) → IsReadable t → IsReadable u → der t ++ a ≡ der u ++ b
    → (der t ≡ der u) × (a ≡ b)
same_encoding t u a b r q e = same_element (der t) (der u) a b (der-element t r) (der-element u q) e

-- it isn't empty
pub length-der : (t : Tree) → IsReadable t → 0 < length (der t)
unfolding tlv
length-der t r = let p = der-element t r in rw p.is (omega arith)
