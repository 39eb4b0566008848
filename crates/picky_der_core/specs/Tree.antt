-- The trees that values mean.
use Rattle.std.specs.Prelude.{Bool, true, false, ◌&&◌, List, [], ◌∷◌, ℕ}
use Rattle.picky_der_core.specs.declared.asn1.wrapper.Wrapper.{Wrapper}
use Rattle.picky_der_core.specs.Primitive.{Primitive}
use Rattle.picky_der_core.specs.Wrapper.{can_vanish}

-- SEQUENCE and SEQUENCE OF; SET and SET OF
pub data ListKind : Type 0 where
  sequence : ListKind
  set : ListKind

mutual
  pub data Tree : Type 0 where
    primitive : Primitive → Tree
    list : ListKind → Trees → Tree
    -- one value in a wrapper
    wrapped : Wrapper → Tree → Tree
    -- bytes that are written as they are
    raw : List ℕ → Tree
    -- a choice was made, and this is the alternative
    choice : Tree → Tree
    -- a value that isn't there
    absent : Tree

  pub data Trees : Type 0 where
    none : Trees
    more : Tree → Trees → Trees

-- the members of a list
abbrev pub trees : List Tree → Trees
trees [] = Trees.none
trees (t ∷ ts) = Trees.more t (trees ts)

-- it has a tag and a content of its own
abbrev pub is_plain : Tree → Bool
is_plain (Tree.primitive p) = true
is_plain (Tree.list kind ts) = true
is_plain _ = false

-- it is a list
abbrev pub IsListTree : Tree → Type 0
IsListTree (Tree.list kind ts) = Unit {0}
IsListTree _ = ⊥

-- it isn't there, or only choices and wrappers that can vanish are around what isn't there: then nothing is written
abbrev pub is_absent : Tree → Bool
is_absent Tree.absent = true
is_absent (Tree.wrapped w t) = can_vanish w && is_absent t
is_absent (Tree.choice t) = is_absent t
is_absent _ = false
