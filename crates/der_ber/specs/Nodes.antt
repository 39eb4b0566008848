-- Elements, whatever their types, with the elements in them.
use Rattle.std.specs.Prelude.{ℕ, ◌+◌, max, List, [], ◌++◌}
use Rattle.picky_der_core.specs.Element.{tlv}

-- elements one after another, the first of them with a content of its own or with elements in it
pub data Nodes : Type 0 where
  none : Nodes
  primitive : ℕ → List ℕ → Nodes → Nodes
  constructed : ℕ → Nodes → Nodes → Nodes

-- their bytes with the lengths of DER (X.690, 8.1.1 to 8.1.4, 10.1)
unfoldable pub encoding : Nodes → List ℕ
encoding Nodes.none = []
encoding (Nodes.primitive tag content after) = tlv tag content ++ encoding after
encoding (Nodes.constructed tag inside after) = tlv tag (encoding inside) ++ encoding after

-- how many constructed elements are in one another at most
abbrev pub depth : Nodes → ℕ
depth Nodes.none = 0
depth (Nodes.primitive tag content after) = depth after
depth (Nodes.constructed tag inside after) = max (1 + depth inside) (depth after)
