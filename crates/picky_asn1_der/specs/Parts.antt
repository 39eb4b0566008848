-- Parts of an encoding, each found by a path from the whole.
use Rattle.std.specs.Prelude.{◌≡◌, ℕ, zero, suc, ◌+◌, List, [], ◌∷◌, ◌++◌, length, drop, Bool, true, false, Option}
use Rattle.std.specs.Prelude.{Some, None, option_and_then}
use Rattle.std.specs.List.{AllByRecursion, concat}
use Rattle.picky_der_core.specs.declared.asn1.wrapper.Wrapper.{Wrapper}
use Rattle.picky_der_core.specs.declared.asn1.wrapper.Wrapper.TheVariants.{OctetContainer, BitContainer, Explicit}
use Rattle.picky_der_core.specs.declared.asn1.wrapper.Wrapper.TheVariants.{Implicit, Application, ImplicitList}
use Rattle.picky_der_core.specs.Element.{length_octets, tlv, IsElement}
use Rattle.picky_der_core.specs.Tag.{number_of, IsTagNumber}
use Rattle.picky_der_core.specs.Tree.{ListKind, Tree, Trees}
use Rattle.picky_der_core.specs.Encoding.{der}
use Rattle.picky_der_core.specs.Shape.{Shape, Layout}
use Rattle.picky_asn1_der.specs.declared.parts.Header.{Header}

-- ---- parts of a tree

-- the member with this index
abbrev pub tree_at : ℕ → Trees → Option Tree
tree_at n Trees.none = None
tree_at zero (Trees.more t ts) = Some t
tree_at (suc n) (Trees.more t ts) = tree_at n ts

abbrev only : Tree → Option Trees
only t = Some (Trees.more t Trees.none)

-- under a tag in place of a list's own are its members
abbrev pub inside_implicit : Tree → Option Trees
inside_implicit (Tree.list kind ts) = Some ts
inside_implicit (Tree.wrapped w t) = only (Tree.wrapped w t)
inside_implicit (Tree.raw s) = only (Tree.raw s)
inside_implicit _ = None

-- a bit string has a byte before what it holds
abbrev pub inside_wrapper : Wrapper → Tree → Option Trees
inside_wrapper OctetContainer t = only t
inside_wrapper BitContainer t = None
inside_wrapper (Explicit n) t = only t
inside_wrapper (Implicit n) t = inside_implicit t
inside_wrapper (Application n) t = only t
inside_wrapper (ImplicitList tag) t = inside_implicit t

-- the trees whose encodings, one after another, are the content of a tree's element: the members of a list, and what is
-- in a tag or an octet string
abbrev pub members_of : Tree → Option Trees
members_of (Tree.list kind ts) = Some ts
members_of (Tree.wrapped w t) = inside_wrapper w t
members_of (Tree.choice t) = members_of t
members_of _ = None

-- the part at a path: from each tree on it to its member with that index
abbrev pub part_at : List ℕ → Tree → Option Tree
part_at [] t = Some t
part_at (n ∷ path) t = option_and_then (part_at path) (option_and_then (tree_at n) (members_of t))

-- ---- first members

-- the first member of a list
abbrev pub first_member_of : Tree → Tree
first_member_of (Tree.list kind (Trees.more t ts)) = t
first_member_of _ = Tree.absent

-- its trees are lists that have a first member: a test, which computes
abbrev pub has_first_member : Shape → Bool
has_first_member (Shape.fields kind (Layout.required s l)) = true
has_first_member _ = false

-- ---- tags in place of others

-- a list under another tag is written as the list is, but for the first byte
abbrev pub WithoutTag : Type 0
WithoutTag = (tag : ℕ) (kind : ListKind) (ts : Trees)
    → drop 1 (der (Tree.wrapped (ImplicitList tag) (Tree.list kind ts))) ≡ drop 1 (der (Tree.list kind ts))

-- ---- parts of bytes

-- the bytes are these elements, one after another, and this one has the index
pub record HasMember (index : ℕ) (bytes member : List ℕ) : Type 0 where
  pub before : List (List ℕ)
  pub after : List (List ℕ)
  pub elements : AllByRecursion IsElement before
  pub element : IsElement member
  pub count : length before ≡ index
  pub is : bytes ≡ concat before ++ (member ++ concat after)

-- the bytes are one element, which has this member with the index, after so many bytes
pub record IsMemberAt (index : ℕ) (element : List ℕ) (offset : ℕ) (member : List ℕ) : Type 0 where
  pub tag : ℕ
  pub content : List ℕ
  pub is : element ≡ tlv tag content
  pub has : HasMember index content member
  pub place : offset ≡ 1 + length (length_octets (length content)) + length (concat has.before)

-- the part of an element to which a path leads, by the bytes alone, and how many bytes are before it
abbrev pub IsPartAt : List ℕ → List ℕ → ℕ → List ℕ → Type 0
IsPartAt [] element offset part = (offset ≡ 0) × (part ≡ element)
IsPartAt (n ∷ path) element offset part = (before : ℕ) × (member : List ℕ) × IsMemberAt n element before member
    × (inner : ℕ) × IsPartAt path member inner part × (offset ≡ before + inner)

-- how many bytes are before this content, and in it
pub record IsHeaderOf (content : List ℕ) (h : Header) : Type 0 where
  pub len : h.len ≡ 1 + length (length_octets (length content))
  pub content_len : h.content_len ≡ length content

-- the bytes begin with an element, whose header this is
pub record HasHeader (bytes : List ℕ) (h : Header) : Type 0 where
  pub tag : ℕ
  pub content : List ℕ
  pub rest : List ℕ
  pub is : bytes ≡ tlv tag content ++ rest
  pub header : IsHeaderOf content h

-- the bytes begin with a tag of the short form
pub record HasShortTag (bytes : List ℕ) : Type 0 where
  pub tag : ℕ
  pub rest : List ℕ
  pub is : bytes ≡ tag ∷ rest
  pub number : IsTagNumber (number_of tag)

-- a piece of the bytes, from this offset on
pub record IsPiece (bytes : List ℕ) (offset : ℕ) (piece : List ℕ) : Type 0 where
  pub before : List ℕ
  pub after : List ℕ
  pub count : length before ≡ offset
  pub is : bytes ≡ before ++ (piece ++ after)
