-- The names in a schema.
use Rattle.std.specs.Prelude.{ℕ, Bool, true, false, not, ◌&&◌, List, [], ◌∷◌, map}
use Rattle.std.specs.Int.{is_in_range}
use Rattle.std.specs.List.{list_all, list_any}
use Rattle.std.specs.Str.{bytes_eq}
use Rattle.der_schema.specs.declared.node.Alternative.{Alternative}
use Rattle.der_schema.specs.declared.node.Item.{Item}
use Rattle.der_schema.specs.declared.node.Kind.{Kind}
use Rattle.der_schema.specs.declared.node.Kind.TheVariants as kind
use Rattle.der_schema.specs.declared.node.Member.{Member}
use Rattle.der_schema.specs.declared.node.Node.{Node}

abbrev pub member_names : List Member → List (List ℕ)
member_names members = map (λ m. m.name.now) members

abbrev pub alternative_names : List Alternative → List (List ℕ)
alternative_names alternatives = map (λ a. a.name.now) alternatives

abbrev pub item_names : List Item → List (List ℕ)
item_names items = map (λ it. it.name.now) items

-- the names that are in the JSON of a type's values
abbrev pub names_in : Kind → List (List ℕ)
names_in (kind.Sequence members) = member_names members.now
names_in (kind.Choice alternatives) = alternative_names alternatives.now
names_in (kind.Enumerated items) = item_names items.now
names_in (kind.ExtensibleEnumerated items) = item_names items.now
names_in _ = []

-- no two are one
abbrev pub are_different : List (List ℕ) → Bool
are_different [] = true
are_different (x ∷ xs) = not (list_any (bytes_eq x) xs) && are_different xs

-- it begins with a small letter
abbrev pub is_small : List ℕ → Bool
is_small [] = false
is_small (c ∷ cs) = is_in_range 0x61 0x7A c

-- each begins with a small letter (X.680, 12.3), and no two are one (20, 25, 29)
abbrev pub are_names : List (List ℕ) → Bool
are_names names = list_all is_small names && are_different names

-- the names of each type are
abbrev pub has_names : List Node → Bool
has_names nodes = list_all (λ node. are_names (names_in node.kind)) nodes
