-- What is known of the types of messages.
use Rattle.picky_der_core.specs.Tree.{Tree}
use Rattle.picky_der_core.specs.Shape.{Shape}

-- a type: its values, what they mean, and of which shape that is
pub record Description : Type 1 where
  pub Value : Type 0
  pub meaning : Value → Tree
  pub shape : Shape

abbrev pub described : {V : Type 0} → (V → Tree) → Shape → Description
described {V} meaning shape = record { Value = V; meaning = meaning; shape = shape }
