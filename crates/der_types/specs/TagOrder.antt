-- The order of tags (X.680, 8.6), in which the members of a SET are written (X.690, 10.3).
use Rattle.std.specs.Prelude.{ℕ, ◌+◌, ◌*◌, ◌/◌, ◌%◌, ◌<◌, Bool, true, false, ◌&&◌, List, [], ◌∷◌, ◌++◌, nat_lt, ⊤}
use Rattle.std.specs.List.{AllByRecursion, list_all}
use Rattle.picky_der_core.specs.Tree.{ListKind, Tree, Trees}
use Rattle.picky_der_core.specs.Encoding.{encodings}
use Rattle.picky_der_core.specs.Shape.{Shape, Layout, firsts, tags_below}

-- an identifier byte's place in the order: by its class, and then by its number
abbrev pub tag_place : ℕ → ℕ
tag_place tag = 32 * (tag / 64) + tag % 32

-- ---- encodings in order

-- the byte with which they begin
abbrev pub leading : List ℕ → ℕ
leading [] = 0
leading (b ∷ bs) = b

-- each has a tag before the tags of the encodings after it
abbrev pub AreInTagOrder : List (List ℕ) → Type 0
AreInTagOrder [] = ⊤
AreInTagOrder (x ∷ xs) = AllByRecursion (λ y. tag_place (leading x) < tag_place (leading y)) xs × AreInTagOrder xs

-- the encodings of the members of a list
abbrev pub member_encodings : Tree → List (List ℕ)
member_encodings (Tree.list kind ts) = encodings ts
member_encodings _ = []

-- ---- shapes whose members are in order: a test, which computes

-- each tag of the first ones is before each of the others
abbrev pub are_before : List ℕ → List ℕ → Bool
are_before xs ys = list_all (λ x. list_all (λ y. nat_lt (tag_place x) (tag_place y)) ys) xs

-- with which bytes any of the members can begin
abbrev pub layout_firsts : Layout → List ℕ
layout_firsts Layout.empty = []
layout_firsts (Layout.required s l) = firsts s ++ layout_firsts l
layout_firsts (Layout.maybe s l) = firsts s ++ layout_firsts l
layout_firsts (Layout.added l) = layout_firsts l
layout_firsts (Layout.others excluded) = tags_below 256

abbrev pub is_layout_in_order : Layout → Bool
is_layout_in_order Layout.empty = true
is_layout_in_order (Layout.required s l) = are_before (firsts s) (layout_firsts l) && is_layout_in_order l
is_layout_in_order (Layout.maybe s l) = are_before (firsts s) (layout_firsts l) && is_layout_in_order l
is_layout_in_order (Layout.added l) = is_layout_in_order l
is_layout_in_order (Layout.others excluded) = false

-- a SEQUENCE of different members, each with tags before the tags of the members after it
abbrev pub is_in_tag_order : Shape → Bool
is_in_tag_order (Shape.fields ListKind.sequence l) = is_layout_in_order l
is_in_tag_order _ = false
