-- What reading means: which value is at the front of some bytes.
use Rattle.std.specs.Prelude.{◌≡◌, ℕ, ◌≤◌, ◌⊎◌, List, length, ⊤, IsTrue}
use Rattle.picky_der_core.specs.Element.{IsPrefix}
use Rattle.picky_der_core.specs.Tree.{Tree, is_plain}
use Rattle.picky_der_core.specs.Encoding.{der, implicit_content}
use Rattle.picky_der_core.specs.Readable.{IsReadable, IsNoChoice}
use Rattle.picky_der_core.specs.Shape.{Shape, IsOf}

-- the place of a value: whether it is directly under an implicit tag
pub data Place : Type 0 where
  -- with its own header
  whole : Place
  -- directly under an implicit tag, whose end is this many bytes ahead
  under_implicit : ℕ → Place

-- the bytes of a tree at this place
abbrev pub written_at : Place → Tree → List ℕ
written_at Place.whole t = der t
written_at (Place.under_implicit ahead) t = implicit_content t

-- Directly under an implicit tag no choice is read, since its first byte isn't there to choose by. A plain value fills
-- the tag's content, since its length isn't there.
pub record FillsTag (ahead : ℕ) (t : Tree) : Type 0 where
  pub no_choice : IsNoChoice t
  pub filled : IsTrue (is_plain t) → length (implicit_content t) ≡ ahead

abbrev pub MayBeAt : Place → Tree → Type 0
MayBeAt Place.whole t = ⊤
MayBeAt (Place.under_implicit ahead) t = FillsTag ahead t

-- a readable tree of the shape is at the front of these bytes, and has at most `limit` of them
pub record IsAtFront (place : Place) (s : Shape) (bs : List ℕ) (limit : ℕ) (t : Tree) : Type 0 where
  pub of_shape : IsOf s t
  pub readable : IsReadable t
  pub may_be_there : MayBeAt place t
  pub within : length (written_at place t) ≤ limit
  pub front : IsPrefix (written_at place t) bs

-- a value v of a type, known by what it means, is read from the input within the limit
abbrev pub ReadsFrom : {V : Type 0} → (V → Tree) → Shape → List ℕ → ℕ → V → Type 0
ReadsFrom meaning s input limit v = IsAtFront Place.whole s input limit (meaning v)

-- more bytes after b could make a value of the type of it: of some value, of at most `limit` bytes, b is the beginning,
-- or it is the beginning of b
pub record IsMendable {V : Type 0} (meaning : V → Tree) (s : Shape) (place : Place) (b : List ℕ) (limit : ℕ) : Type 0
  where
    pub value : V
    pub of_shape : IsOf s (meaning value)
    pub readable : IsReadable (meaning value)
    pub may_be_there : MayBeAt place (meaning value)
    pub within : length (written_at place (meaning value)) ≤ limit
    pub agrees : IsPrefix (written_at place (meaning value)) b ⊎ IsPrefix b (written_at place (meaning value))
