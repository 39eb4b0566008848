-- Which trees are read back, and which are written.
use Rattle.std.specs.Prelude.{ℕ, ◌<◌, ◌^◌, Bool, true, false, ◌&&◌, List, length, ⊤, IsTrue}
use Rattle.picky_der_core.specs.Tag.{number_of, is_tag_number}
use Rattle.picky_der_core.specs.Primitive.{IsReadablePrimitive, primitive_tag}
use Rattle.picky_der_core.specs.Wrapper.{HasTagNumber, has_tag_number, keeps_header}
use Rattle.picky_der_core.specs.Tree.{ListKind, Tree, Trees}
use Rattle.picky_der_core.specs.Order.{IsAscending}
use Rattle.picky_der_core.specs.Element.{AreBytes, IsElement}
use Rattle.picky_der_core.specs.Encoding.{encodings, der}

-- no choice is here
abbrev pub IsNoChoice : Tree → Type 0
IsNoChoice (Tree.choice t) = ⊥
IsNoChoice _ = ⊤

-- no choice is there where headers are left out, since its first byte isn't there to choose by
abbrev pub IsHeadedIfChoice : Bool → Tree → Type 0
IsHeadedIfChoice true t = ⊤
IsHeadedIfChoice false t = IsNoChoice t

-- the encodings of a list's members are in order: those of a set ascend
abbrev pub IsInOrder : ListKind → List (List ℕ) → Type 0
IsInOrder ListKind.sequence members = ⊤
IsInOrder ListKind.set members = IsAscending members

-- Nothing in it is absent. Each raw part is one element. Each tag number is at most 30. Each tag in place of a list's
-- own is constructed. No choice is directly under an implicit tag. The members of each set are in ascending order. Each
-- byte of a content or of a raw part is a byte, and each text is UTF-8, as in every value of a program.
abbrev mutual
  pub IsReadable : Tree → Type 0
  IsReadable (Tree.primitive p) = IsReadablePrimitive p
  IsReadable (Tree.list kind ts) = IsInOrder kind (encodings ts) × AreReadable ts
  IsReadable (Tree.wrapped w t) = HasTagNumber w × IsHeadedIfChoice (keeps_header w) t × IsReadable t
  IsReadable (Tree.raw s) = IsElement s × AreBytes s
  IsReadable (Tree.choice t) = IsReadable t
  IsReadable Tree.absent = ⊥

  pub AreReadable : Trees → Type 0
  AreReadable Trees.none = ⊤
  AreReadable (Trees.more t ts) = IsReadable t × AreReadable ts

-- each tag number in it is at most 30, and each tag in place of a list's own is constructed
abbrev mutual
  pub has_tag_numbers : Tree → Bool
  has_tag_numbers (Tree.primitive p) = is_tag_number (number_of (primitive_tag p))
  has_tag_numbers (Tree.list kind ts) = have_tag_numbers ts
  has_tag_numbers (Tree.wrapped w t) = has_tag_number w && has_tag_numbers t
  has_tag_numbers (Tree.choice t) = has_tag_numbers t
  has_tag_numbers _ = true

  pub have_tag_numbers : Trees → Bool
  have_tag_numbers Trees.none = true
  have_tag_numbers (Trees.more t ts) = has_tag_numbers t && have_tag_numbers ts

-- its tags can be written, and the length of the encoding is a `usize`
pub record IsWritable (t : Tree) : Type 0 where
  pub numbers : IsTrue (has_tag_numbers t)
  pub fits : length (der t) < 2 ^ 64
