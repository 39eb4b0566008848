-- The order of the members of a SET.
use Rattle.std.specs.Prelude.{◌≡◌, ℕ, Bool, true, not, ◌⊎◌, List, [], ◌∷◌, nat_lt, ⊤}
use Rattle.std.specs.List.{AllByRecursion, concat}
use Rattle.picky_der_core.specs.Element.{IsElement, IsPrefix}
use Rattle.picky_der_core.specs.Order.{is_less}
use Rattle.der_types.specs.TagOrder.{tag_place, leading}
use Rattle.der_show.specs.declared.members.Order.{Order}
use Rattle.der_show.specs.declared.members.Order.TheVariants.{Tags, Encodings}

-- elements one after another at the front of the bytes
pub record AreAtFront (ms : List (List ℕ)) (bytes : List ℕ) : Type 0 where
  pub elements : AllByRecursion IsElement ms
  pub front : IsPrefix (concat ms) bytes

-- no element begins these bytes
abbrev pub BeginsNone : List ℕ → Type 0
BeginsNone bytes = (m : List ℕ) → IsElement m → IsPrefix m bytes → ⊥

-- The second may come right after the first: its tag is a later one (X.690, 10.3), or its encoding isn't less (11.6).
abbrev pub may_follow : Order → List ℕ → List ℕ → Bool
may_follow Tags x y = nat_lt (tag_place (leading x)) (tag_place (leading y))
may_follow Encodings x y = not (is_less y x)

-- each may come right after the one before it, the first after this one
abbrev pub AreAfter : Order → List ℕ → List (List ℕ) → Type 0
AreAfter order x [] = ⊤
AreAfter order x (y ∷ ys) = (may_follow order x y ≡ true) × AreAfter order y ys

abbrev pub AreInOrder : Order → List (List ℕ) → Type 0
AreInOrder order [] = ⊤
AreInOrder order (x ∷ xs) = AreAfter order x xs

-- no elements at the front are out of order
abbrev pub IsOrdered : Order → List ℕ → Type 0
IsOrdered order bytes = (ms : List (List ℕ)) → AreAtFront ms bytes → AreInOrder order ms

-- some elements at the front are out of order
pub record IsUnordered (order : Order) (bytes : List ℕ) : Type 0 where
  pub members : List (List ℕ)
  pub at_front : AreAtFront members bytes
  pub unordered : AreInOrder order members → ⊥

-- the content of a SET, in which order the members of one with different types are, or of a SET OF
abbrev pub IsSetContent : List ℕ → Type 0
IsSetContent bytes = IsOrdered Encodings bytes ⊎ IsOrdered Tags bytes

pub record IsNoSetContent (bytes : List ℕ) : Type 0 where
  pub by_encodings : IsUnordered Encodings bytes
  pub by_tags : IsUnordered Tags bytes
