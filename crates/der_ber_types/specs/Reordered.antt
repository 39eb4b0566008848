-- The elements of a SET in the order of its members.
use Rattle.std.specs.Prelude.{◌≡◌, ℕ, List, [], ◌∷◌, ◌++◌}
use Rattle.picky_der_core.specs.Element.{tlv}
use Rattle.picky_der_core.specs.Tag.{number_of, IsTagNumber}
use Rattle.der_path.specs.Elements.{BeginsWith, BeginsWithNone}
use Rattle.der_schema.specs.declared.node.Member.{Member}
use Rattle.der_schema.specs.declared.node.Node.{Node}
use Rattle.der_ber_types.specs.Inside.{HasTag}

-- the element at the front has a tag of the node's type, and these bytes are after it
pub record IsAhead (nodes : List Node) (i : ℕ) (bytes after : List ℕ) : Type 0 where
  pub tag : ℕ
  pub content : List ℕ
  pub begins : BeginsWith bytes tag content after
  pub has_tag : HasTag nodes i tag

-- no element at the front has one
abbrev pub IsNotAhead : List Node → ℕ → List ℕ → Type 0
IsNotAhead nodes i bytes = (after : List ℕ) → IsAhead nodes i bytes after → ⊥

-- the bytes are elements, none of which has a tag of the node's type
pub data AreOthers (nodes : List Node) (i : ℕ) : List ℕ → Type 0 where
  none : (bytes : List ℕ) → bytes ≡ [] → AreOthers nodes i bytes
  more : (tag : ℕ) (content rest bytes : List ℕ) → IsTagNumber (number_of tag) → (HasTag nodes i tag → ⊥)
      → AreOthers nodes i rest → bytes ≡ tlv tag content ++ rest → AreOthers nodes i bytes

-- the bytes are one element, which has a tag of the node's type
pub record IsTagged (nodes : List Node) (i : ℕ) (element : List ℕ) : Type 0 where
  pub tag : ℕ
  pub content : List ℕ
  pub number : IsTagNumber (number_of tag)
  pub has_tag : HasTag nodes i tag
  pub is : element ≡ tlv tag content

-- this element is the first one with a tag of the node's type
pub record IsFirst (nodes : List Node) (i : ℕ) (bytes before element after : List ℕ) : Type 0 where
  pub others : AreOthers nodes i before
  pub tagged : IsTagged nodes i element
  pub is : bytes ≡ before ++ (element ++ after)

-- no element has one
pub record HasNone (nodes : List Node) (i : ℕ) (bytes : List ℕ) : Type 0 where
  pub before : List ℕ
  pub after : List ℕ
  pub others : AreOthers nodes i before
  pub is : bytes ≡ before ++ after
  pub ends : BeginsWithNone after

-- The others are the same elements in the order of the members, and those of none after them. The element of a member
-- is the first one with a tag of its type: different members have different tags (X.680, 27.3).
pub data AreReordered (nodes : List Node) : List Member → List ℕ → List ℕ → Type 0 where
  end : (bytes ordered : List ℕ) → ordered ≡ bytes → AreReordered nodes [] bytes ordered
  present : (m : Member) (ms : List Member) (before element after others bytes ordered : List ℕ)
      → IsFirst nodes m.node bytes before element after → AreReordered nodes ms (before ++ after) others
      → ordered ≡ element ++ others → AreReordered nodes (m ∷ ms) bytes ordered
  absent : (m : Member) (ms : List Member) (bytes ordered : List ℕ) → HasNone nodes m.node bytes
      → AreReordered nodes ms bytes ordered → AreReordered nodes (m ∷ ms) bytes ordered
