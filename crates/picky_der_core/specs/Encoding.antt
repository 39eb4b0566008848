-- The encoding of a tree (X.690, 8.1, 8.6.2, 8.7, 8.9 to 8.14, 10.1, 11.6).
use Rattle.std.specs.Prelude.{ℕ, Bool, true, false, List, [], ◌∷◌, ◌++◌, ◌&&◌}
use Rattle.std.specs.List.{concat}
use Rattle.picky_der_core.specs.Element.{tlv}
use Rattle.picky_der_core.specs.Order.{in_ascending_order}
use Rattle.picky_der_core.specs.Primitive.{primitive_tag, primitive_content}
use Rattle.picky_der_core.specs.Wrapper.{wrapper_tag, wrapper_front, keeps_header, can_vanish}
use Rattle.picky_der_core.specs.Tree.{ListKind, Tree, Trees, is_absent}

-- the content of a list, from the encodings of its members: one after another, in a sequence as they are given (8.9,
-- 8.10), and in a set in ascending order (8.11, 8.12, 11.6)
abbrev pub list_content : ListKind → List (List ℕ) → List ℕ
list_content ListKind.sequence members = concat members
list_content ListKind.set members = concat (in_ascending_order members)

abbrev pub list_tag : ListKind → ℕ
list_tag ListKind.sequence = 0x30
list_tag ListKind.set = 0x31

-- a plain value, with its header or without
unfoldable pub plain_encoding : Bool → ℕ → List ℕ → List ℕ
plain_encoding true tag content = tlv tag content
plain_encoding false tag content = content

-- a wrapper, of which nothing is written where it vanishes
unfoldable pub wrapper_encoding : Bool → ℕ → List ℕ → List ℕ
wrapper_encoding true tag content = []
wrapper_encoding false tag content = tlv tag content

-- What is written of a tree. The header of a plain tree is left out directly under an implicit tag.
unfoldable mutual
  pub tree_bytes : Bool → Tree → List ℕ
  tree_bytes header (Tree.primitive p) = plain_encoding header (primitive_tag p) (primitive_content p)
  tree_bytes header (Tree.list kind ts) = plain_encoding header (list_tag kind) (list_content kind (encodings ts))
  tree_bytes header (Tree.wrapped w t) =
      wrapper_encoding (can_vanish w && is_absent t) (wrapper_tag w) (wrapper_front w ++ tree_bytes (keeps_header w) t)
  tree_bytes header (Tree.raw s) = s
  tree_bytes header (Tree.choice t) = tree_bytes header t
  tree_bytes header Tree.absent = []

  -- the encoding of each member
  pub encodings : Trees → List (List ℕ)
  encodings Trees.none = []
  encodings (Trees.more t ts) = tree_bytes true t ∷ encodings ts

-- the encoding
unfoldable pub der : Tree → List ℕ
der t = tree_bytes true t

-- what is directly under an implicit tag: a plain tree's content, for a choice that of its alternative, else the whole
-- encoding
unfoldable pub implicit_content : Tree → List ℕ
implicit_content t = tree_bytes false t

-- what is written of a tree with its header, or without
abbrev pub with_header : Bool → Tree → List ℕ
with_header true t = der t
with_header false t = implicit_content t

-- the content of a plain tree, and its tag
abbrev pub content : Tree → List ℕ
content (Tree.primitive p) = primitive_content p
content (Tree.list kind ts) = list_content kind (encodings ts)
content _ = []

abbrev pub plain_tag : Tree → ℕ
plain_tag (Tree.primitive p) = primitive_tag p
plain_tag (Tree.list kind ts) = list_tag kind
plain_tag _ = 0
