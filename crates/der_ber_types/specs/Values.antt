-- Which elements have the value of a default.
use Rattle.std.specs.Prelude.{◌≡◌, ℕ, List, [], ◌∷◌}
use Rattle.picky_der_core.specs.Element.{tlv}
use Rattle.picky_der_core.specs.Tag.{number_of, IsTagNumber}
use Rattle.picky_der_core.specs.Integer.{integer_content}
use Rattle.der_schema.specs.declared.node.DefaultValue.{DefaultValue}
use Rattle.der_schema.specs.declared.node.DefaultValue.TheVariants as value
use Rattle.der_schema.specs.declared.node.Member.{Member}
use Rattle.der_schema.specs.declared.node.Node.{Node}
use Rattle.der_schema.specs.declared.node.Presence.{Presence}
use Rattle.der_schema.specs.declared.node.Presence.TheVariants as presence
use Rattle.der_ber_types.specs.declared.inside.Inside.{Inside}
use Rattle.der_ber_types.specs.declared.inside.Inside.TheVariants as inside
use Rattle.der_ber_types.specs.Inside.{IsInside}

-- the content in DER of an element with this in it and this value (X.690, 8.3, 8.4 and 11.1)
abbrev pub IsContentOf : Inside → DefaultValue → List ℕ → Type 0
IsContentOf inside.Boolean value.True content = content ≡ 0xFF ∷ []
IsContentOf inside.Boolean value.False content = content ≡ 0x00 ∷ []
IsContentOf inside.Number (value.Number n) content = content ≡ integer_content n
IsContentOf _ _ content = ⊥

-- an element of the node's type in DER is that of this value, also one in explicit tags
pub data IsValue (nodes : List Node) (v : DefaultValue) : ℕ → List ℕ → Type 0 where
  own : (i tag : ℕ) (x : Inside) (content element : List ℕ) → IsTagNumber (number_of tag) → IsInside nodes i tag x
      → IsContentOf x v content → element ≡ tlv tag content → IsValue nodes v i element
  explicit : (i j tag : ℕ) (content element : List ℕ) → IsTagNumber (number_of tag)
      → IsInside nodes i tag (inside.One j) → IsValue nodes v j content → element ≡ tlv tag content
      → IsValue nodes v i element

-- the value that a member has where it is absent
abbrev pub HasDefault : Presence → DefaultValue → Type 0
HasDefault (presence.Default d) v = d ≡ v
HasDefault (presence.DefaultOf d) v = d ≡ v
HasDefault _ v = ⊥

-- the element in DER has the value that the member has where it is absent
pub record IsDefault (nodes : List Node) (m : Member) (element : List ℕ) : Type 0 where
  pub value : DefaultValue
  pub given : HasDefault m.presence value
  pub is : IsValue nodes value m.node element
