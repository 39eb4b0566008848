-- With which error bytes are refused, and which bytes are left then: what the bytes alone decide. The rule of a type is
-- made of those of its parts. Each kind of type has its own, which says in which order it is refused.
use Rattle.std.specs.Prelude.{◌≡◌, ◌≢◌, ◌<◌, ◌≤◌, ◌+◌, ℕ, Bool, true, false, List, [], ◌∷◌, ◌++◌, length, map}
use Rattle.std.specs.Prelude.{◌⊎◌, Option, None, Some, IfSome, IsTrue}
use Rattle.picky_der_core.specs.declared.error.Asn1DerError.{Asn1DerError}
use Rattle.picky_der_core.specs.declared.error.Asn1DerError.TheVariants.{TruncatedData, InvalidData, OutOfMemory}
use Rattle.picky_der_core.specs.declared.asn1.wrapper.Wrapper.{Wrapper}
use Rattle.picky_der_core.specs.Wrapper.{wrapper_front, counts_unused_bits, HasTagNumber}
use Rattle.picky_der_core.specs.Tree.{ListKind, Tree, trees}
use Rattle.picky_der_core.specs.Encoding.{encodings, list_tag}
use Rattle.picky_der_core.specs.Readable.{IsReadable, AreReadable, IsInOrder}
use Rattle.picky_der_core.specs.Shape.{Shape, IsOf, IsFirst, EachIs, contains}
use Rattle.picky_der_core.specs.Reading.{Place, written_at, MayBeAt}
use Rattle.picky_der_core.specs.Refusal.{Refusal, header_refusal, wrapper_header, missing_byte}
use Rattle.picky_der_de.specs.Steps.{place_in}
use Rattle.picky_der_de.specs.Headers.{header_bytes}
use Rattle.picky_der_de.specs.Wrappers.{implicit_tag_of, refusal_after, wrapper_opening}
use Rattle.picky_der_de.specs.Members.{members_encoding}
use Rattle.picky_der_de.specs.Layouts.{Presence, always, perhaps}
use Rattle.picky_der_de.specs.State.{State}
use Rattle.picky_der_de.specs.Order.{AreInOrder}
use Rattle.picky_der_de.specs.Entry.{ReaderView}
use Rattle.picky_der_de.specs.RefusesBy.{Spot, Rule, RefusesBy}
use Rattle.picky_der_de.specs.PlainRules.{by_bytes}

-- before an end of this kind, no implicit tag directly around it
abbrev pub spot_before : Bool → ℕ → Spot
spot_before hard ahead = record { hard = hard; ahead = ahead; implicit_tag = None }

-- in an input of this many bytes, and in a sequence or set
abbrev pub soft_spot : ℕ → Spot
soft_spot = spot_before false

abbrev pub place_at : Spot → Place
place_at at = place_in at.implicit_tag at.ahead

-- A value is at the front of these bytes. After it the end is `after` bytes ahead, and these are left.
pub record IsNext {V : Type 0} (meaning : V → Tree) (s : Shape) (at : Spot) (bs : List ℕ) (after : ℕ) (left : List ℕ)
    : Type 0 where
  pub value : V
  pub of_shape : IsOf s (meaning value)
  pub readable : IsReadable (meaning value)
  pub may_be_there : MayBeAt (place_at at) (meaning value)
  pub is : bs ≡ written_at (place_at at) (meaning value) ++ left
  pub ahead : at.ahead ≡ length (written_at (place_at at) (meaning value)) + after

abbrev pub next_byte_refusal : Spot → List ℕ → Option Refusal
next_byte_refusal at [] = Some (missing_byte at.hard at.ahead [], [])
next_byte_refusal at (b ∷ rest) = None

-- ---- wrappers

-- the header and the count of unused bits
abbrev pub opening_rule : Wrapper → Rule
opening_rule w = by_bytes (λ at rest. refusal_after (counts_unused_bits w) (wrapper_header w at.hard at.ahead rest))

-- they are there, and after them the wrapper's end is this many bytes ahead
pub record IsOpened (w : Wrapper) (at : Spot) (bs : List ℕ) (ahead : ℕ) (rest : List ℕ) : Type 0 where
  pub size : ℕ
  pub number : HasTagNumber w
  pub is : bs ≡ wrapper_opening w size ++ rest
  pub size_is : size ≡ length (wrapper_front w) + ahead
  pub within : length (wrapper_opening w size) + ahead ≤ at.ahead

-- directly in a wrapper
abbrev pub inside_spot : Wrapper → ℕ → Spot
inside_spot w ahead = record { hard = true; ahead = ahead; implicit_tag = implicit_tag_of w }

-- a value in a wrapper: what is before the value, the value, and what is left over before the wrapper's end
pub data wrapped_rule {V : Type 0} (meaning : V → Tree) (s : Shape) (w : Wrapper) (inner : Rule) (at : Spot)
    (bs : List ℕ) (e : Asn1DerError) (left : List ℕ) : Type 0 where
  at_opening : opening_rule w at bs e left → wrapped_rule meaning s w inner at bs e left
  at_value : (ahead : ℕ) (rest : List ℕ) → IsOpened w at bs ahead rest → inner (inside_spot w ahead) rest e left
      → wrapped_rule meaning s w inner at bs e left
  after_value : (ahead after : ℕ) (rest : List ℕ) → IsOpened w at bs ahead rest
      → IsNext meaning s (inside_spot w ahead) rest after left → 0 < after → e ≡ InvalidData
      → wrapped_rule meaning s w inner at bs e left

-- in this wrapper, or as it is
abbrev pub wrap_rule_if : {V : Type 0} → (V → Tree) → Shape → Option Wrapper → Rule → Rule
wrap_rule_if meaning s None inner = inner
wrap_rule_if meaning s (Some w) inner = wrapped_rule meaning s w inner

-- ---- sequences and sets

abbrev pub list_refusal_at : Option ℕ → ℕ → Spot → List ℕ → Option Refusal
list_refusal_at None tag at rest = header_refusal tag at.hard at.ahead rest
list_refusal_at (Some number) tag at rest = None

-- The header is there, and after it the end is this many bytes ahead. Directly under an implicit tag it was the tag's.
pub record IsListOpened (tag : ℕ) (at : Spot) (bs : List ℕ) (ahead : ℕ) (rest : List ℕ) : Type 0 where
  pub is : bs ≡ header_bytes at.implicit_tag tag ahead ++ rest
  pub all : IfSome at.implicit_tag (λ number. ahead ≡ at.ahead)
  pub within : length (header_bytes at.implicit_tag tag ahead) + ahead ≤ at.ahead

-- a list under this tag: its header, and its content
pub data list_rule (tag : ℕ) (content : Rule) (at : Spot) (bs : List ℕ) (e : Asn1DerError) (left : List ℕ) : Type 0
  where
    at_header : by_bytes (λ spot rest. list_refusal_at spot.implicit_tag tag spot rest) at bs e left
        → list_rule tag content at bs e left
    at_content : (ahead : ℕ) (rest : List ℕ) → IsListOpened tag at bs ahead rest
        → content (soft_spot ahead) rest e left → list_rule tag content at bs e left

-- bytes are left over
pub record end_rule (at : Spot) (bs : List ℕ) (e : Asn1DerError) (left : List ℕ) : Type 0 where
  pub more : 0 < at.ahead
  pub error : e ≡ InvalidData
  pub all_left : left ≡ bs

-- ---- members of one type

-- These values are at the front, one after another.
pub record AreNext {V : Type 0} (meaning : V → Tree) (s : Shape) (at : Spot) (bs : List ℕ) (vs : List V) (after : ℕ)
    (left : List ℕ) : Type 0 where
  pub of_shape : EachIs (IsOf s) (trees (map meaning vs))
  pub readable : AreReadable (trees (map meaning vs))
  pub is : bs ≡ members_encoding (trees (map meaning vs)) ++ left
  pub ahead : at.ahead ≡ length (members_encoding (trees (map meaning vs))) + after

-- After values in order the next one is refused. Or one more is there, and is read before it is refused: its encoding
-- is less than that of the one before it (X.690, 11.6).
pub data each_rule {V : Type 0} (meaning : V → Tree) (s : Shape) (order : List (List ℕ) → Type 0) (member : Rule)
    (at : Spot) (bs : List ℕ) (e : Asn1DerError) (left : List ℕ) : Type 0 where
  at_member : (vs : List V) (after : ℕ) (rest : List ℕ) → AreNext meaning s at bs vs after rest
      → order (encodings (trees (map meaning vs))) → 0 < after → member (spot_before at.hard after) rest e left
      → each_rule meaning s order member at bs e left
  after_member : (vs : List V) (v : V) (after : ℕ) → AreNext meaning s at bs (vs ++ v ∷ []) after left
      → order (encodings (trees (map meaning vs)))
      → (order (encodings (trees (map meaning (vs ++ v ∷ [])))) → ⊥) → e ≡ InvalidData
      → each_rule meaning s order member at bs e left

-- all members of a list are of one type
abbrev pub list_of_rule : {V : Type 0} → (V → Tree) → Shape → ListKind → Rule → Rule
list_of_rule meaning s kind member = list_rule (list_tag kind) (each_rule meaning s (IsInOrder kind) member)

-- all members up to the end
abbrev pub RefusesEachBy : {V : Type 0} → (V → Tree) → Shape → Rule → State → State → Asn1DerError → Type 0
RefusesEachBy meaning s member old new e = old.implicit_tag ≡ None
    → RefusesBy (each_rule meaning s (AreInOrder old.last) member) old new e

-- ---- members of several types, each before others

-- the next member: it is missing, or it is refused
pub data field_rule (member : Rule) (at : Spot) (bs : List ℕ) (e : Asn1DerError) (left : List ℕ) : Type 0 where
  missing : at.ahead ≡ 0 → e ≡ TruncatedData → left ≡ bs → field_rule member at bs e left
  refused : 0 < at.ahead → member at bs e left → field_rule member at bs e left

-- a member that is always there
pub data always_rule {V : Type 0} (meaning : V → Tree) (s : Shape) (member others : Rule) (at : Spot) (bs : List ℕ)
    (e : Asn1DerError) (left : List ℕ) : Type 0 where
  at_field : field_rule member at bs e left → always_rule meaning s member others at bs e left
  after_field : (after : ℕ) (rest : List ℕ) → IsNext meaning s at bs after rest
      → others (spot_before at.hard after) rest e left → always_rule meaning s member others at bs e left

-- One that may be missing, or is missing where it would be a default. It is there if the next byte begins it.
pub data perhaps_rule {V : Type 0} (meaning : V → Tree) (left_out : V → Bool) (s : Shape) (member others : Rule)
    (at : Spot) (bs : List ℕ) (e : Asn1DerError) (left : List ℕ) : Type 0 where
  cut : 0 < at.ahead → by_bytes next_byte_refusal at bs e left
      → perhaps_rule meaning left_out s member others at bs e left
  there : 0 < at.ahead → (b : ℕ) (rest : List ℕ) → bs ≡ b ∷ rest → IsFirst s b → member at bs e left
      → perhaps_rule meaning left_out s member others at bs e left
  is_default : (after : ℕ) (there : IsNext meaning s at bs after left) → IsTrue (left_out there.value)
      → e ≡ InvalidData → perhaps_rule meaning left_out s member others at bs e left
  after_there : (after : ℕ) (rest : List ℕ) (there : IsNext meaning s at bs after rest) → left_out there.value ≡ false
      → others (spot_before at.hard after) rest e left → perhaps_rule meaning left_out s member others at bs e left
  at_end : at.ahead ≡ 0 → others at bs e left → perhaps_rule meaning left_out s member others at bs e left
  absent : 0 < at.ahead → (b : ℕ) (rest : List ℕ) → bs ≡ b ∷ rest → (IsFirst s b → ⊥) → others at bs e left
      → perhaps_rule meaning left_out s member others at bs e left

-- Members that an extension added: a value that isn't at its end has all of them, with their errors (X.680, 25.1).
pub data added_rule (members : Rule) (at : Spot) (bs : List ℕ) (e : Asn1DerError) (left : List ℕ) : Type 0 where
  at_cut : 0 < at.ahead → by_bytes next_byte_refusal at bs e left → added_rule members at bs e left
  at_members : 0 < at.ahead → (b : ℕ) (rest : List ℕ) → bs ≡ b ∷ rest → members at bs e left
      → added_rule members at bs e left

-- by whether it may be missing
abbrev pub layout_rule : {V : Type 0} → Presence → (V → Tree) → (V → Bool) → Shape → Rule → Rule → Rule
layout_rule always meaning left_out s = always_rule meaning s
layout_rule perhaps meaning left_out s = perhaps_rule meaning left_out s

-- Such members were read, where no order is tested: what is left over after them is refused as after them.
abbrev pub LeadsTo : Rule → State → State → Type 0
LeadsTo members old new = old.last ≡ None → (last : State) (e : Asn1DerError) → RefusesBy end_rule new last e
    → RefusesBy members old last e

-- one of them was refused
abbrev pub RefusesBefore : Rule → State → State → Asn1DerError → Type 0
RefusesBefore members old new e = old.last ≡ None → RefusesBy members old new e

-- a sequence or set of these members, of which the last ones are followed by `end_rule`
abbrev pub fields_rule : ListKind → Rule → Rule
fields_rule kind members = list_rule (list_tag kind) members

-- ---- choices

-- the alternative that begins with this byte, or none
abbrev pub ChoiceRule : Type 1
ChoiceRule = ℕ → Rule

pub record no_alternative_rule (b : ℕ) (at : Spot) (bs : List ℕ) (e : Asn1DerError) (left : List ℕ) : Type 0 where
  pub error : e ≡ InvalidData
  pub all_left : left ≡ bs

pub data alternative_rule (begins : List ℕ) (this : Rule) (others : ChoiceRule) (b : ℕ) (at : Spot) (bs : List ℕ)
    (e : Asn1DerError) (left : List ℕ) : Type 0 where
  at_this : contains begins b ≡ true → this at bs e left → alternative_rule begins this others b at bs e left
  at_other : contains begins b ≡ false → others b at bs e left → alternative_rule begins this others b at bs e left

-- directly under an implicit tag no byte distinguishes them
abbrev pub choice_refusal_at : Option ℕ → Spot → List ℕ → Option Refusal
choice_refusal_at None at rest = next_byte_refusal at rest
choice_refusal_at (Some number) at rest = Some (InvalidData, rest)

pub data choice_rule (alternatives : ChoiceRule) (at : Spot) (bs : List ℕ) (e : Asn1DerError) (left : List ℕ) : Type 0
  where
    no_first : by_bytes (λ spot rest. choice_refusal_at spot.implicit_tag spot rest) at bs e left
        → choice_rule alternatives at bs e left
    by_first : (b : ℕ) (rest : List ℕ) → 0 < at.ahead → at.implicit_tag ≡ None → bs ≡ b ∷ rest
        → alternatives b at bs e left → choice_rule alternatives at bs e left

-- ---- values that are tested after they were read

-- a value of the twin that is none of the type
pub data tested_rule {V W : Type 0} (meaning : W → Tree) (s : Shape) (parts : V → W) (twin : Rule) (at : Spot)
    (bs : List ℕ) (e : Asn1DerError) (left : List ℕ) : Type 0 where
  as_twin : twin at bs e left → tested_rule meaning s parts twin at bs e left
  after_twin : (after : ℕ) (there : IsNext meaning s at bs after left)
      → ((v : V) → meaning (parts v) ≢ meaning there.value) → e ≡ InvalidData
      → tested_rule meaning s parts twin at bs e left

-- ---- whole inputs

-- the bytes are refused after so many of them
pub data whole_rule {V : Type 0} (meaning : V → Tree) (s : Shape) (rule : Rule) (bytes : List ℕ) (e : Asn1DerError)
    (position : ℕ) : Type 0 where
  as_value : (left : List ℕ) → rule (soft_spot (length bytes)) bytes e left → position + length left ≡ length bytes
      → whole_rule meaning s rule bytes e position
  past_value : (after : ℕ) (left : List ℕ) → IsNext meaning s (soft_spot (length bytes)) bytes after left
      → 0 < length left → e ≡ InvalidData → position + length left ≡ length bytes
      → whole_rule meaning s rule bytes e position

abbrev pub RefusesWholeBy : {V : Type 0} → (V → Tree) → Shape → Rule → List ℕ → Asn1DerError → ℕ → Type 0
RefusesWholeBy meaning s rule bytes e position = e ≢ OutOfMemory → whole_rule meaning s rule bytes e position

-- A value at the front of a reader's bytes is refused with its error, unless the reader or an allocation failed. The
-- reader doesn't have a byte any more that was only looked at.
abbrev pub RefusesFrontBy : Rule → ℕ → ReaderView → ReaderView → Asn1DerError → Type 0
RefusesFrontBy rule limit old new e = new.faults ≡ old.faults → e ≢ OutOfMemory → (input : List ℕ)
    → old.input ≡ Some input → (left : List ℕ) × rule (soft_spot limit) input e left

-- The next of several values. At a limit of 0 there is none.
pub data next_rule (rule : Rule) (at : Spot) (bs : List ℕ) (e : Asn1DerError) (left : List ℕ) : Type 0 where
  no_byte : by_bytes next_byte_refusal at bs e left → next_rule rule at bs e left
  as_next : rule at bs e left → next_rule rule at bs e left

-- the same of a slice
abbrev pub RefusesSliceBy : Rule → List ℕ → Asn1DerError → Type 0
RefusesSliceBy rule bytes e = e ≢ OutOfMemory → (left : List ℕ) × rule (soft_spot (length bytes)) bytes e left

-- The next value in a reader is refused with its error, or with the one that every value of the type has.
abbrev pub RefusesNextBy : Rule → ℕ → ReaderView → ReaderView → Asn1DerError → Type 0
RefusesNextBy rule limit old new e =
    RefusesFrontBy (next_rule rule) limit old new e ⊎ ((e ≢ TruncatedData) × RefusesSliceBy rule [] e)
