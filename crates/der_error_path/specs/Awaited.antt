-- What may come in a content, by the nodes of a schema.
use Rattle.std.specs.Prelude.{ℕ, Bool, true, false, ◌||◌, List, [], ◌∷◌, Option, None, Some, if◌then◌else◌}
use Rattle.der_schema.specs.declared.node.DefaultValue.{DefaultValue}
use Rattle.der_schema.specs.declared.node.Member.{Member}
use Rattle.der_schema.specs.declared.node.Node.{Node}
use Rattle.der_schema.specs.declared.node.Presence.{Presence}
use Rattle.der_schema.specs.declared.node.Presence.TheVariants as presence
use Rattle.der_error_path.specs.declared.expected.Expected.{Expected}
use Rattle.der_error_path.specs.declared.expected.Expected.TheVariants as expected
use Rattle.der_error_path.specs.declared.expected.Part.{Part}
use Rattle.der_error_path.specs.declared.expected.Part.TheVariants as part
use Rattle.der_schema.specs.Begins.{can_begin}

-- what may come next
pub data Awaited : Type 0 where
  -- a value of the type of the node at this index
  value : ℕ → Awaited
  -- these members of a SEQUENCE (X.680, 25.1)
  members : List Member → Awaited
  -- any number of values of the node's type (26, 28), and whether they are in ascending order (X.690, 11.6)
  items : ℕ → Bool → Awaited
  nothing : Awaited
  unknown : Awaited

abbrev pub awaited : Expected → Awaited
awaited (expected.Value node) = Awaited.value node
awaited (expected.Members ms) = Awaited.members ms.now
awaited (expected.Items node sorted) = Awaited.items node sorted
awaited expected.End = Awaited.nothing
awaited expected.Unknown = Awaited.unknown

-- ---- members

abbrev pub is_required : Presence → Bool
is_required presence.Required = true
is_required presence.Optional = false
is_required (presence.Default v) = false
is_required (presence.DefaultOf v) = false

abbrev pub default_of : Presence → Option DefaultValue
default_of presence.Required = None
default_of presence.Optional = None
default_of (presence.Default v) = Some v
default_of (presence.DefaultOf v) = Some v

-- The members from the one on that an element with this tag is, if those before it are absent: the first one that has
-- to come or that can begin with the tag.
abbrev pub present_from : List Node → ℕ → List Member → List Member
present_from nodes tag [] = []
present_from nodes tag (m ∷ ms) =
    if is_required m.presence || can_begin nodes m.node tag then m ∷ ms else present_from nodes tag ms

-- the first member that has to come
abbrev pub first_required : List Member → Option Member
first_required [] = None
first_required (m ∷ ms) = if is_required m.presence then Some m else first_required ms

-- ---- an element with this tag

abbrev pub part_of_first : List Member → Part × Option ℕ
part_of_first [] = (part.Extra, None)
part_of_first (m ∷ ms) = (part.Member m.name, Some m.node)

-- what it is, and the index of its node
abbrev pub part_of : List Node → ℕ → Awaited → Part × Option ℕ
part_of nodes tag (Awaited.value node) = (part.Value, Some node)
part_of nodes tag (Awaited.members ms) = part_of_first (present_from nodes tag ms)
part_of nodes tag (Awaited.items node sorted) = (part.Item, Some node)
part_of nodes tag Awaited.nothing = (part.Extra, None)
part_of nodes tag Awaited.unknown = (part.Unknown, None)

abbrev pub after_first : List Member → Awaited
after_first [] = Awaited.nothing
after_first (m ∷ ms) = Awaited.members ms

-- what may come after it
abbrev pub awaited_after : List Node → ℕ → Awaited → Awaited
awaited_after nodes tag (Awaited.value node) = Awaited.nothing
awaited_after nodes tag (Awaited.members ms) = after_first (present_from nodes tag ms)
awaited_after nodes tag (Awaited.items node sorted) = Awaited.items node sorted
awaited_after nodes tag Awaited.nothing = Awaited.nothing
awaited_after nodes tag Awaited.unknown = Awaited.unknown

abbrev pub default_of_first : List Member → Option DefaultValue
default_of_first [] = None
default_of_first (m ∷ ms) = default_of m.presence

-- the value with which it would be absent
abbrev pub default_in : List Node → ℕ → Awaited → Option DefaultValue
default_in nodes tag (Awaited.members ms) = default_of_first (present_from nodes tag ms)
default_in nodes tag (Awaited.value node) = None
default_in nodes tag (Awaited.items node sorted) = None
default_in nodes tag Awaited.nothing = None
default_in nodes tag Awaited.unknown = None

-- the first member that has to come
abbrev pub required_in : Awaited → Option Member
required_in (Awaited.members ms) = first_required ms
required_in (Awaited.value node) = None
required_in (Awaited.items node sorted) = None
required_in Awaited.nothing = None
required_in Awaited.unknown = None

-- whether these are items in ascending order
abbrev pub are_sorted : Awaited → Bool
are_sorted (Awaited.items node sorted) = sorted
are_sorted (Awaited.members ms) = false
are_sorted (Awaited.value node) = false
are_sorted Awaited.nothing = false
are_sorted Awaited.unknown = false
