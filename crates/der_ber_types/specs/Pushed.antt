-- What was written.
use Rattle.std.specs.Prelude.{◌≡◌, ◌≢◌, ℕ, List, ◌++◌}
use Rattle.der_schema.specs.declared.node.Member.{Member}
use Rattle.der_schema.specs.declared.node.Node.{Node}
use Rattle.der_schema.specs.declared.node.Presence.TheVariants.{Required}
use Rattle.der_ber_types.specs.Content.{IsOne}
use Rattle.der_ber_types.specs.Reordered.{IsNotAhead, IsFirst, HasNone}
use Rattle.der_ber_types.specs.Values.{IsDefault}

-- bytes of which this holds were appended
pub record IsAppended (P : List ℕ → Type 0) (old new : List ℕ) : Type 0 where
  pub in_der : List ℕ
  pub is : P in_der
  pub appended : new ≡ old ++ in_der

-- the element at the front of bytes was appended in DER, and these bytes are after it
pub record IsPushed (nodes : List Node) (i : ℕ) (bytes after old new : List ℕ) : Type 0 where
  pub element : List ℕ
  pub in_der : List ℕ
  pub is_one : IsOne nodes i element in_der
  pub is : bytes ≡ element ++ after
  pub appended : new ≡ old ++ in_der

-- nothing was appended, since no element at the front has a tag of the node's type
pub record IsNonePushed (nodes : List Node) (i : ℕ) (bytes old new : List ℕ) : Type 0 where
  pub none : IsNotAhead nodes i bytes
  pub same : new ≡ old

-- It is this member. If it has its default value or is absent, nothing was appended.
pub data IsMemberPushed (nodes : List Node) (m : Member) (bytes after old new : List ℕ) : Type 0 where
  present : (p : IsPushed nodes m.node bytes after old new) → (IsDefault nodes m p.in_der → ⊥)
      → IsMemberPushed nodes m bytes after old new
  written : (element in_der : List ℕ) → IsOne nodes m.node element in_der → IsDefault nodes m in_der
      → bytes ≡ element ++ after → new ≡ old → IsMemberPushed nodes m bytes after old new
  absent : m.presence ≢ Required → IsNotAhead nodes m.node bytes → after ≡ bytes → new ≡ old
      → IsMemberPushed nodes m bytes after old new

-- the first element with a tag of the member was appended, and these are the bytes without it; or there is none
pub data IsMoved (nodes : List Node) (m : Member) (bytes rest old new : List ℕ) : Type 0 where
  present : (before element after : List ℕ) → IsFirst nodes m.node bytes before element after
      → rest ≡ before ++ after → new ≡ old ++ element → IsMoved nodes m bytes rest old new
  absent : HasNone nodes m.node bytes → rest ≡ bytes → new ≡ old → IsMoved nodes m bytes rest old new
