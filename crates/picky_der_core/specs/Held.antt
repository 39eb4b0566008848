-- How much a tree holds.
use Rattle.std.specs.Prelude.{ℕ, ◌+◌, length}
use Rattle.picky_der_core.specs.Primitive.{primitive_content}
use Rattle.picky_der_core.specs.Tree.{Tree, Trees}

-- the bytes of its contents and raw parts, and one for each member of its lists
abbrev mutual
  pub held : Tree → ℕ
  held (Tree.primitive p) = length (primitive_content p)
  held (Tree.list kind ts) = all_held ts
  held (Tree.wrapped w t) = held t
  held (Tree.raw s) = length s
  held (Tree.choice t) = held t
  held Tree.absent = 0

  pub all_held : Trees → ℕ
  all_held Trees.none = 0
  all_held (Trees.more t ts) = 1 + held t + all_held ts
