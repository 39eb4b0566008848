-- Constraints (X.680, 49), and how values that they don't allow are refused.
use Rattle.std.specs.Prelude.{◌≡◌, ℕ, ◌+◌, ℤ, Bool, false, ◌&&◌, ◌⊎◌, nat_le, int_le, List, [], ◌∷◌}
use Rattle.picky_der_core.specs.declared.asn1.wrapper.Wrapper.TheVariants as wrapper
use Rattle.picky_der_core.specs.Encoding.{der}
use Rattle.picky_der_core.specs.Primitive.{Primitive}
use Rattle.picky_der_core.specs.declared.error.Asn1DerError.{Asn1DerError}
use Rattle.picky_der_core.specs.declared.error.Asn1DerError.TheVariants.{InvalidData}
use Rattle.picky_der_core.specs.Tree.{Tree, Trees}
use Rattle.picky_der_core.specs.Shape.{Shape}
use Rattle.picky_der_de.specs.State.{State}
use Rattle.picky_der_de.specs.Refusing.{FailsAs}
use Rattle.picky_der_de.specs.Reading.{Reads, Refuses}

-- ---- which values are allowed

-- a size from the least to the most (X.680, 51.5)
abbrev pub is_size : ℕ → ℕ → ℕ → Bool
is_size least most n = nat_le least n && nat_le n most

-- a number from the least to the most (X.680, 51.4)
abbrev pub is_between : ℤ → ℤ → ℤ → Bool
is_between least most z = int_le least z && int_le z most

-- ---- refusals

module _ {V : Type 0} (meaning : V → Tree) (s : Shape) (allows : V → Bool) (old new : State) (e : Asn1DerError) where
  -- a value was read, and isn't allowed
  pub record IsNotAllowed : Type 0 where
    pub value : V
    pub after : State
    pub reads : Reads s old after (meaning value)
    pub refused : allows value ≡ false
    pub fails : FailsAs InvalidData after e new

  -- no value of the type is there, or one that isn't allowed
  abbrev pub RefusesConstrained : Type 0
  RefusesConstrained = Refuses meaning s old new e ⊎ IsNotAllowed

-- ---- what trees say of sizes

-- how many members a list has
abbrev pub member_count : Trees → ℕ
member_count Trees.none = 0
member_count (Trees.more t ts) = 1 + member_count ts

abbrev pub list_size : Tree → ℕ
list_size (Tree.list kind ts) = member_count ts
list_size (Tree.wrapped w t) = list_size t
list_size _ = 0

-- The bytes of a text or of a content, also under other tags. A string that holds an encoding has the string's own
-- content: in that of bits the number of unused ones comes first (X.690, 8.6.2).
abbrev pub tree_bytes : Tree → List ℕ
tree_bytes (Tree.wrapped wrapper.OctetContainer t) = der t
tree_bytes (Tree.wrapped wrapper.BitContainer t) = 0x00 ∷ der t
tree_bytes (Tree.wrapped w t) = tree_bytes t
tree_bytes (Tree.primitive (Primitive.text s)) = s
tree_bytes (Tree.primitive (Primitive.bytes tag s)) = s
tree_bytes _ = []
