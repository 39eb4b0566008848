-- What the relation of BER and DER says.
use Rattle.std.specs.Prelude.{◌≡◌, List, ℕ, true}
use Rattle.picky_der_core.specs.Encoding.{der}
use Rattle.picky_der_core.specs.Readable.{IsReadable}
use Rattle.picky_der_core.specs.Tree.{Tree}
use Rattle.der_ber.specs.WholeStrings.{IsMadeWhole}
use Rattle.der_types.specs.Denotes.{Denotes}
use Rattle.der_schema.specs.NotationOf.{notation_of}
use Rattle.der_schema.specs.Rules.{keeps_rules}
use Rattle.der_schema.specs.declared.node.Node.{Node}
use Rattle.der_ber_types.specs.Tables.{IsSoundTable}
use Rattle.der_ber_types.specs.ToDer.{IsBer}

-- bytes are BER of one DER only
abbrev pub OneDer : Type 0
OneDer =
    (nodes : List Node) (i : ℕ) (bytes der other : List ℕ) → IsBer nodes i bytes der → IsBer nodes i bytes other
    → der ≡ other

-- The DER of each value of a type is its own BER, if it is also that of elements whatever their types are: elements are
-- at every depth in constructed ones, also in those of any type, and no string in parts is there.
abbrev pub DerIsOwnBer : Type 0
DerIsOwnBer =
    (nodes : List Node) (i : ℕ) (t : Tree) → IsSoundTable nodes → Denotes (notation_of nodes i) t → IsReadable t
    → IsMadeWhole (der t) (der t) → IsBer nodes i (der t) (der t)

-- A table that passes the test keeps the rules by which elements are distinguished.
abbrev pub RulesAreKept : Type 0
RulesAreKept = (nodes : List Node) → keeps_rules nodes ≡ true → IsSoundTable nodes
