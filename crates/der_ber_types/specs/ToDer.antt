-- BER of a value by its schema, and its DER.
use Rattle.std.specs.Prelude.{ℕ, List}
use Rattle.der_schema.specs.declared.node.Node.{Node}
use Rattle.der_ber.specs.WholeStrings.{IsMadeWhole}
use Rattle.der_ber_types.specs.Content.{IsOne}

-- The bytes are an element in BER of the node's type, and the others are the same value's in DER: with the lengths of
-- DER and whole strings (X.690, 10.1, 10.2), and by the type.
pub record IsBer (nodes : List Node) (i : ℕ) (bytes der : List ℕ) : Type 0 where
  pub whole : List ℕ
  pub has_lengths : IsMadeWhole bytes whole
  pub is_one : IsOne nodes i whole der

-- the bytes are BER of no value of the type
abbrev pub HasNoDer : List Node → ℕ → List ℕ → Type 0
HasNoDer nodes i bytes = (der : List ℕ) → IsBer nodes i bytes der → ⊥
