-- What values mean that are made of others.
use Rattle.std.specs.Prelude.{ℕ, Bool, true, false, ◌==◌, if◌then◌else◌, List, length, map, Option, None, Some}
use Rattle.picky_der_core.specs.Tree.{ListKind, Tree, Trees, trees}

-- a value that may be missing: nothing is for one that is missing
abbrev pub option_meaning : {A : Type 0} → (A → Tree) → Option A → Tree
option_meaning meaning (Some x) = meaning x
option_meaning meaning None = Tree.absent

-- a member that may be missing, and the members after it
abbrev pub maybe_more : {A : Type 0} → (A → Tree) → Option A → Trees → Trees
maybe_more meaning (Some x) ts = Trees.more (meaning x) ts
maybe_more meaning None ts = ts

-- the value, unless it is the default
abbrev pub unless_default : {A : Type 0} → (A → Bool) → A → Option A
unless_default is_default x = if is_default x then None else Some x

-- values of one type, in their order
abbrev pub list_meaning : {A : Type 0} → ListKind → (A → Tree) → List A → Tree
list_meaning kind meaning items = Tree.list kind (trees (map meaning items))

-- The values of an array. One that had another number of them, as no array of a program has, would mean what is never
-- read.
abbrev pub if_as_many : Bool → Trees → Trees
if_as_many true ts = ts
if_as_many false ts = Trees.more Tree.absent ts

abbrev pub array_meaning : {A : Type 0} → ℕ → (A → Tree) → List A → Tree
array_meaning n meaning items = Tree.list ListKind.sequence (if_as_many (length items == n) (trees (map meaning items)))
