-- What has no DER by a type.
use Rattle.std.specs.Prelude.{◌≡◌, ◌≢◌, ℕ, List, ◌∷◌, ◌++◌}
use Rattle.der_schema.specs.declared.node.Member.{Member}
use Rattle.der_schema.specs.declared.node.Node.{Node}
use Rattle.der_ber_types.specs.declared.error.TypeError.{TypeError}
use Rattle.der_ber_types.specs.declared.error.TypeError.TheVariants.{OutOfMemory}
use Rattle.der_ber_types.specs.declared.inside.Inside.{Inside}
use Rattle.der_ber_types.specs.Content.{IsOne, AreEach, AreMembers, IsContent}
use Rattle.der_ber_types.specs.Contents.{IsTruth, AreParts, AreJoinedBits, IsBitPart}
use Rattle.der_ber_types.specs.Order.{AreElements, AreInOrder}
use Rattle.der_ber_types.specs.Reordered.{IsAhead}

-- an error other than for memory says so
abbrev pub IsRefusal : Type 0 → TypeError → Type 0
IsRefusal Wrong e = e ≢ OutOfMemory → Wrong

-- the bytes have no DER
abbrev pub HasNoOne : List Node → ℕ → List ℕ → Type 0
HasNoOne nodes i bytes = (der : List ℕ) → IsOne nodes i bytes der → ⊥

abbrev pub HasNoEach : List Node → ℕ → List ℕ → Type 0
HasNoEach nodes i bytes = (der : List ℕ) → AreEach nodes i bytes der → ⊥

abbrev pub HasNoMembers : List Node → List Member → List ℕ → Type 0
HasNoMembers nodes ms bytes = (der : List ℕ) → AreMembers nodes ms bytes der → ⊥

abbrev pub HasNoContent : List Node → Inside → List ℕ → Type 0
HasNoContent nodes x bytes = (der : List ℕ) → IsContent nodes x bytes der → ⊥

-- no members of which this is the first
abbrev pub HasNoMember : List Node → Member → List ℕ → Type 0
HasNoMember nodes m bytes = (ms : List Member) → HasNoMembers nodes (m ∷ ms) bytes

-- an element with a tag of the type is at the front, and has no DER
pub record HasNoFront (nodes : List Node) (i : ℕ) (bytes : List ℕ) : Type 0 where
  pub after : List ℕ
  pub ahead : IsAhead nodes i bytes after
  pub none : (element der rest : List ℕ) → IsOne nodes i element der → bytes ≡ element ++ rest → ⊥

abbrev pub IsNoTruth : List ℕ → Type 0
IsNoTruth bytes = (der : List ℕ) → IsTruth bytes der → ⊥

abbrev pub AreNoParts : List ℕ → Type 0
AreNoParts bytes = (der : List ℕ) → AreParts bytes der → ⊥

abbrev pub AreNoBits : List ℕ → Type 0
AreNoBits bytes = (der : List ℕ) → AreJoinedBits bytes der → ⊥

abbrev pub AreNoElements : List ℕ → Type 0
AreNoElements bytes = (elements : List (List ℕ)) → AreElements elements bytes → ⊥

abbrev pub AreNotInOrder : List ℕ → Type 0
AreNotInOrder bytes = (der : List ℕ) → AreInOrder bytes der → ⊥

-- no bit string is at the front
abbrev pub IsNoBitPart : List ℕ → Type 0
IsNoBitPart bytes = (unused : ℕ) (bits after : List ℕ) → IsBitPart bytes unused bits after → ⊥
