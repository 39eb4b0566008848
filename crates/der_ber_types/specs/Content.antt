-- Elements, whose lengths are those of DER, and the same elements in DER by their type.
use Rattle.std.specs.Prelude.{◌≡◌, ◌≢◌, ℕ, List, [], ◌∷◌, ◌++◌}
use Rattle.picky_der_core.specs.Element.{tlv}
use Rattle.picky_der_core.specs.Tag.{number_of, IsTagNumber}
use Rattle.der_schema.specs.declared.node.Member.{Member}
use Rattle.der_schema.specs.declared.node.Node.{Node}
use Rattle.der_schema.specs.declared.node.Presence.TheVariants.{Required}
use Rattle.std.specs.Borrow.{Bor}
use Rattle.der_ber_types.specs.declared.inside.Inside.{Inside}
use Rattle.der_ber_types.specs.declared.inside.Inside.TheVariants as inside
use Rattle.der_ber_types.specs.Kinds.{tag_in_der}
use Rattle.der_ber_types.specs.Inside.{IsInside}
use Rattle.der_ber_types.specs.Contents.{IsTruth, AreParts, AreJoinedBits}
use Rattle.der_ber_types.specs.Order.{AreInOrder}
use Rattle.der_ber_types.specs.Reordered.{IsNotAhead, AreReordered}
use Rattle.der_ber_types.specs.Values.{IsDefault}

mutual
  -- the first bytes are an element of the node's type, and the others are that element in DER
  pub data IsOne (nodes : List Node) : ℕ → List ℕ → List ℕ → Type 0 where
    element : (i tag : ℕ) (x : Inside) (content in_der bytes der : List ℕ) → IsTagNumber (number_of tag)
        → IsInside nodes i tag x → IsContent nodes x content in_der → bytes ≡ tlv tag content
        → der ≡ tlv (tag_in_der x tag) in_der → IsOne nodes i bytes der

  -- they are any number of elements of the type, one after another
  pub data AreEach (nodes : List Node) : ℕ → List ℕ → List ℕ → Type 0 where
    no_more : (i : ℕ) (bytes der : List ℕ) → bytes ≡ [] → der ≡ [] → AreEach nodes i bytes der
    more : (i : ℕ) (element in_der rest others bytes der : List ℕ) → IsOne nodes i element in_der
        → AreEach nodes i rest others → bytes ≡ element ++ rest → der ≡ in_der ++ others → AreEach nodes i bytes der

  -- They are members of a SEQUENCE in their order. One that isn't required is absent where the next element has none of
  -- its tags (X.690, 8.9; X.680, 25.6). In DER one is absent that has its default value (11.5).
  pub data AreMembers (nodes : List Node) : List Member → List ℕ → List ℕ → Type 0 where
    end : (bytes der : List ℕ) → bytes ≡ [] → der ≡ [] → AreMembers nodes [] bytes der
    present : (m : Member) (ms : List Member) (element in_der rest others bytes der : List ℕ)
        → IsOne nodes m.node element in_der → (IsDefault nodes m in_der → ⊥) → AreMembers nodes ms rest others
        → bytes ≡ element ++ rest → der ≡ in_der ++ others → AreMembers nodes (m ∷ ms) bytes der
    written : (m : Member) (ms : List Member) (element in_der rest bytes der : List ℕ)
        → IsOne nodes m.node element in_der → IsDefault nodes m in_der → AreMembers nodes ms rest der
        → bytes ≡ element ++ rest → AreMembers nodes (m ∷ ms) bytes der
    absent : (m : Member) (ms : List Member) (bytes der : List ℕ) → m.presence ≢ Required
        → IsNotAhead nodes m.node bytes → AreMembers nodes ms bytes der → AreMembers nodes (m ∷ ms) bytes der

  -- they are the content of an element with this in it
  pub data IsContent (nodes : List Node) : Inside → List ℕ → List ℕ → Type 0 where
    same : (bytes der : List ℕ) → der ≡ bytes → IsContent nodes inside.Same bytes der
    number : (bytes der : List ℕ) → der ≡ bytes → IsContent nodes inside.Number bytes der
    boolean : (bytes der : List ℕ) → IsTruth bytes der → IsContent nodes inside.Boolean bytes der
    octets : (bytes der : List ℕ) → der ≡ bytes → IsContent nodes inside.Octets bytes der
    parts : (bytes der : List ℕ) → AreParts bytes der → IsContent nodes inside.Parts bytes der
    bits : (bytes der : List ℕ) → der ≡ bytes → IsContent nodes inside.Bits bytes der
    bit_parts : (bytes der : List ℕ) → AreJoinedBits bytes der → IsContent nodes inside.BitParts bytes der
    members : (ms : Bor (List Member)) (bytes der : List ℕ) → AreMembers nodes ms.now bytes der
        → IsContent nodes (inside.Members ms) bytes der
    any_order : (ms : Bor (List Member)) (bytes ordered der : List ℕ) → AreReordered nodes ms.now bytes ordered
        → AreMembers nodes ms.now ordered der → IsContent nodes (inside.AnyOrder ms) bytes der
    each : (i : ℕ) (bytes der : List ℕ) → AreEach nodes i bytes der → IsContent nodes (inside.Each i) bytes der
    -- each in DER, and in ascending order (11.6)
    set : (i : ℕ) (bytes elements der : List ℕ) → AreEach nodes i bytes elements → AreInOrder elements der
        → IsContent nodes (inside.Set i) bytes der
    explicit : (i : ℕ) (bytes der : List ℕ) → IsOne nodes i bytes der → IsContent nodes (inside.One i) bytes der
