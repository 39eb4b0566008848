-- Elements that were passed in a content, by what is awaited there.
use Rattle.std.specs.Prelude.{◌≡◌, ℕ, ◌+◌, List, [], Some}
use Rattle.der_path.specs.Elements.{BeginsWith}
use Rattle.der_schema.specs.declared.node.Member.{Member}
use Rattle.der_schema.specs.declared.node.Node.{Node}
use Rattle.der_error_path.specs.Awaited.{Awaited, awaited_after, required_in}

-- So many elements are at the front of a content in which this is awaited first. Here that is awaited after them, and
-- these bytes are left.
pub data ArePassedAs (nodes : List Node) (first : Awaited) (content : List ℕ) : ℕ → Awaited → List ℕ → Type 0 where
  none : ArePassedAs nodes first content 0 first content
  more : (count : ℕ) (here : Awaited) (rest : List ℕ) (tag : ℕ) (inner after : List ℕ)
      → ArePassedAs nodes first content count here rest → BeginsWith rest tag inner after
      → ArePassedAs nodes first content (count + 1) (awaited_after nodes tag here) after

-- this member has to come at the end of a content
pub record IsMissing (nodes : List Node) (first : Awaited) (content : List ℕ) (m : Member) : Type 0 where
  pub count : ℕ
  pub here : Awaited
  pub passed : ArePassedAs nodes first content count here []
  pub required : required_in here ≡ Some m
