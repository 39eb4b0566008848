-- The JSON of a value (X.697), by the nodes of its schema and the bytes of its encoding.
use Rattle.std.specs.Prelude.{◌≡◌, ℕ, Bool, true, false, List, [], ◌∷◌, ◌++◌, Option, Some, None, option_map, slice_get}
use Rattle.std.specs.Prelude.{codes}
use Rattle.hex.specs.Hex.{encode_upper}
use Rattle.serde_json.specs.Data.{Data, array, object, string, Members, no_members, member, put}
use Rattle.serde_json.specs.View.{items_of}
use Rattle.picky_der_core.specs.Element.{IsElement, tlv}
use Rattle.picky_der_core.specs.Encoding.{plain_encoding}
use Rattle.picky_der_core.specs.Wrapper.{wrapper_tag, wrapper_front, keeps_header}
use Rattle.picky_der_core.specs.declared.asn1.wrapper.Wrapper.{Wrapper}
use Rattle.picky_der_core.specs.declared.asn1.wrapper.Wrapper.TheVariants as wrapper
use Rattle.der_schema.specs.declared.node.Alternative.{Alternative}
use Rattle.der_schema.specs.declared.node.Kind.{Kind}
use Rattle.der_schema.specs.declared.node.Kind.TheVariants as kind
use Rattle.der_schema.specs.declared.node.Member.{Member}
use Rattle.der_schema.specs.declared.node.Node.{Node}
use Rattle.der_schema.specs.declared.node.Presence.{Presence}
use Rattle.der_schema.specs.declared.node.Presence.TheVariants as presence
use Rattle.der_json.specs.Contents.{IsPlain}

-- the kind of the node at an index
abbrev pub kind_at : List Node → ℕ → Option Kind
kind_at nodes i = option_map (λ node. node.kind) (slice_get nodes i)

abbrev pub IsOfKind : List Node → ℕ → Kind → Type 0
IsOfKind nodes i k = kind_at nodes i ≡ Some k

-- the index of the type that the kind is another name of, or some of whose values are its own
abbrev pub same_as : Kind → Option ℕ
same_as (kind.Reference i) = Some i
same_as (kind.InRange least most i) = Some i
same_as (kind.AtLeast least i) = Some i
same_as (kind.AtMost most i) = Some i
same_as (kind.Outside least most i) = Some i
same_as (kind.Sized least most i) = Some i
same_as (kind.Permitted ranges i) = Some i
same_as _ = None

-- the index of the type of the items of a list, and the list's tag
abbrev pub list_of : Kind → Option (ℕ × ℕ)
list_of (kind.SequenceOf i) = Some (0x30, i)
list_of (kind.SetOf i) = Some (0x31, i)
list_of _ = None

-- the members of a SEQUENCE, and the alternatives of a CHOICE
abbrev pub members_in : Kind → Option (List Member)
members_in (kind.Sequence members) = Some members.now
members_in _ = None

abbrev pub alternatives_in : Kind → Option (List Alternative)
alternatives_in (kind.Choice alternatives) = Some alternatives.now
alternatives_in _ = None

-- an element of any type
abbrev pub is_any : Kind → Bool
is_any kind.AnyElement = true
is_any kind.WellFormedElement = true
is_any _ = false

-- the bytes are one element of any type, which is in hexadecimal
pub record IsAny (bytes : List ℕ) (d : Data) : Type 0 where
  pub element : IsElement bytes
  pub is : d ≡ string (encode_upper bytes)

-- a member that may be absent
abbrev pub can_be_absent : Presence → Bool
can_be_absent presence.Required = false
can_be_absent _ = true

-- the JSON of a value in a wrapper: what a string contains is named so, and tags aren't seen
abbrev pub wrapped_data : Wrapper → Data → Data
wrapped_data wrapper.OctetContainer d = object (member (codes "containing") d no_members)
wrapped_data wrapper.BitContainer d = object (member (codes "containing") d no_members)
wrapped_data _ d = d

mutual
  -- The bytes are what is written of a value of the type of the node, with its header or without (as `tree_bytes` has
  -- it), and this is its JSON.
  pub data IsJson : List Node → ℕ → Bool → List ℕ → Data → Type 0 where
    plain : (nodes : List Node) (i : ℕ) (header : Bool) (k : Kind) (bytes : List ℕ) (d : Data)
        → IsOfKind nodes i k → IsPlain k header bytes d → IsJson nodes i header bytes d
    same : (nodes : List Node) (i j : ℕ) (header : Bool) (k : Kind) (bytes : List ℕ) (d : Data)
        → IsOfKind nodes i k → same_as k ≡ Some j → IsJson nodes j header bytes d → IsJson nodes i header bytes d
    sequence : (nodes : List Node) (i : ℕ) (header : Bool) (k : Kind) (members : List Member) (content bytes : List ℕ)
        (d : Data)
        → IsOfKind nodes i k → members_in k ≡ Some members → bytes ≡ plain_encoding header 0x30 content
        → AreMembers nodes members content no_members d → IsJson nodes i header bytes d
    -- an array of the items, in their order
    list : (nodes : List Node) (i j tag : ℕ) (header : Bool) (k : Kind) (content bytes : List ℕ) (ds : List Data)
        → IsOfKind nodes i k → list_of k ≡ Some (tag, j) → bytes ≡ plain_encoding header tag content
        → AreItems nodes j content ds → IsJson nodes i header bytes (array (items_of ds))
    -- an object of one member, which has the name of the alternative
    choice : (nodes : List Node) (i place : ℕ) (header : Bool) (k : Kind) (alternatives : List Alternative)
        (a : Alternative) (bytes : List ℕ) (d : Data)
        → IsOfKind nodes i k → alternatives_in k ≡ Some alternatives → slice_get alternatives place ≡ Some a
        → IsJson nodes a.node header bytes d → IsJson nodes i header bytes (object (member a.name.now d no_members))
    wrapped : (nodes : List Node) (i j : ℕ) (header : Bool) (w : Wrapper) (inner bytes : List ℕ) (d : Data)
        → IsOfKind nodes i (kind.Wrapped w j) → bytes ≡ tlv (wrapper_tag w) (wrapper_front w ++ inner)
        → IsJson nodes j (keeps_header w) inner d → IsJson nodes i header bytes (wrapped_data w d)
    content-under : (nodes : List Node) (i j tag : ℕ) (header : Bool) (content bytes : List ℕ) (d : Data)
        → IsOfKind nodes i (kind.ContentUnder tag j) → bytes ≡ plain_encoding header tag content
        → IsJson nodes j false content d → IsJson nodes i header bytes d
    any : (nodes : List Node) (i : ℕ) (header : Bool) (k : Kind) (bytes : List ℕ) (d : Data)
        → IsOfKind nodes i k → is_any k ≡ true → IsAny bytes d → IsJson nodes i header bytes d

  -- The bytes are those of the members that are there, and this is the object with them and those before.
  pub data AreMembers : List Node → List Member → List ℕ → Members → Data → Type 0 where
    end-of-members : (nodes : List Node) (ms : Members) → AreMembers nodes [] [] ms (object ms)
    there : (nodes : List Node) (m : Member) (others : List Member) (first rest : List ℕ) (d : Data) (before : Members)
        (whole : Data)
        → IsJson nodes m.node true first d → AreMembers nodes others rest (put m.name.now d before) whole
        → AreMembers nodes (m ∷ others) (first ++ rest) before whole
    absent : (nodes : List Node) (m : Member) (others : List Member) (bytes : List ℕ) (before : Members) (whole : Data)
        → can_be_absent m.presence ≡ true → AreMembers nodes others bytes before whole
        → AreMembers nodes (m ∷ others) bytes before whole

  -- The bytes are those of values of the type of the node, with this JSON.
  pub data AreItems : List Node → ℕ → List ℕ → List Data → Type 0 where
    end-of-items : (nodes : List Node) (i : ℕ) → AreItems nodes i [] []
    item : (nodes : List Node) (i : ℕ) (first rest : List ℕ) (d : Data) (ds : List Data)
        → IsJson nodes i true first d → AreItems nodes i rest ds → AreItems nodes i (first ++ rest) (d ∷ ds)

-- the JSON of one of the alternatives
pub record IsAlternative (nodes : List Node) (alternatives : List Alternative) (header : Bool) (bytes : List ℕ)
    (d : Data)
    : Type 0 where
  pub place : ℕ
  pub alternative : Alternative
  pub there : slice_get alternatives place ≡ Some alternative
  pub inside : Data
  pub json : IsJson nodes alternative.node header bytes inside
  pub is : d ≡ object (member alternative.name.now inside no_members)

-- the JSON of a list
pub record IsArray (nodes : List Node) (i : ℕ) (content : List ℕ) (d : Data) : Type 0 where
  pub items : List Data
  pub each : AreItems nodes i content items
  pub is : d ≡ array (items_of items)
